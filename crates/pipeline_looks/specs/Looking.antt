-- What a look at its links in leaves of a node.
use Rattle.std.specs.Prelude.{◌≡◌, refl}
use Rattle.std.proofs.Common.{ap, ◌∙◌}
use Rattle.net_law.specs.Groupers.{GrouperSeen, GrouperStands}
use Rattle.net_law.specs.Processors.{ProcessorSeen, ProcessorStands}
use Rattle.net_law.specs.Merges.{MergeSeen, MergeStands}
use Rattle.result_merge.specs.Nodes.{MergeLent}

-- its links in alone are other ends, and where it stood it stands
pub record GrouperIn (before after : GrouperSeen) : Type 0 where
  pub same : after ≡ record before { ins = after.ins }
  pub stands : GrouperStands before → GrouperStands after

pub record ProcessorIn (before after : ProcessorSeen) : Type 0 where
  pub same : after ≡ record before { ins = after.ins }
  pub stands : ProcessorStands before → ProcessorStands after

pub record MergeIn (before after : MergeLent) : Type 0 where
  pub same : after.merge ≡ record before.merge { ins = after.merge.ins }
  pub lent : after.lent ≡ before.lent
  pub stands : MergeStands before.merge → MergeStands after.merge

-- ---- many looks are one

pub grouper_stays : (a : GrouperSeen) → GrouperIn a a
grouper_stays a = record { same = refl; stands = λ s. s }

pub grouper_goes_on : (a b c : GrouperSeen) → GrouperIn a b → GrouperIn b c → GrouperIn a c
grouper_goes_on a b c f g = record { same = g.same ∙ ap (λ (s : GrouperSeen). record s { ins = c.ins }) f.same; stands = λ s. g.stands (f.stands s) }

pub processor_stays : (a : ProcessorSeen) → ProcessorIn a a
processor_stays a = record { same = refl; stands = λ s. s }

pub processor_goes_on : (a b c : ProcessorSeen) → ProcessorIn a b → ProcessorIn b c → ProcessorIn a c
processor_goes_on a b c f g = record { same = g.same ∙ ap (λ (s : ProcessorSeen). record s { ins = c.ins }) f.same; stands = λ s. g.stands (f.stands s) }

pub merge_stays : (a : MergeLent) → MergeIn a a
merge_stays a = record { same = refl; lent = refl; stands = λ s. s }

pub merge_goes_on : (a b c : MergeLent) → MergeIn a b → MergeIn b c → MergeIn a c
merge_goes_on a b c f g = record {
  same = g.same ∙ ap (λ (s : MergeSeen). record s { ins = c.merge.ins }) f.same;
  lent = g.lent ∙ f.lent;
  stands = λ s. g.stands (f.stands s);
}
