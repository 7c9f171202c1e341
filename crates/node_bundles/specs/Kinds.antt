-- What turns leave of nodes of each kind.
use Rattle.std.specs.Prelude.{ℕ, ◌≡◌, ◌<◌, Option, None, List, [], true, length, slice_index_or, refl}
use Rattle.std.proofs.Common.{◌∙◌, sym, subst}
use Rattle.credit_link.specs.Ends.{RxSeen}
use Rattle.credit_link.specs.declared.turn.NodeFault.{NodeFault}
use Rattle.shuffle_poll.specs.Shuffles.{ShuffleSeen}
use Rattle.round_law.specs.Waits.{Node}
use Rattle.round_law.specs.Views.{TxTells, RxTells}
use Rattle.node_lanes.specs.Ends.{InsGo, OutsGo}
use Rattle.net_law.specs.Parsers.{ParserSeen, ParserStands, ParserGoes, ParserMeets, parser_tells, parser_view}
use Rattle.net_law.specs.Groupers.{GrouperSeen, GrouperStands, GrouperGoes, GrouperMeets, grouper_tells, grouper_view}
use Rattle.net_law.specs.Processors.{ProcessorSeen, ProcessorStands, ProcessorGoes, ProcessorMeets, processor_tells, processor_view}
use Rattle.net_law.specs.Merges.{MergeStands, MergeGoes, MergeMeets, merge_tells, merge_view}
use Rattle.net_law.proofs.Going.{merge_stays, merge_then}
use Rattle.result_merge.specs.Nodes.{MergeLent}
use Rattle.node_bundles.specs.Going.{Went}

-- the merge goes on, and the reference to its sink is the same
pub record MergeOn (before after : MergeLent) : Type 0 where
  pub goes : MergeGoes before.merge after.merge
  pub lent : after.lent ≡ before.lent

abbrev pub ParserWent : ParserSeen → ParserSeen → Type 0
ParserWent = Went ParserSeen ParserStands ParserGoes ParserMeets (λ n. n.fault) parser_tells parser_view

abbrev pub GrouperWent : GrouperSeen → GrouperSeen → Type 0
GrouperWent = Went GrouperSeen GrouperStands GrouperGoes GrouperMeets (λ n. n.fault) grouper_tells grouper_view

abbrev pub ProcessorWent : ProcessorSeen → ProcessorSeen → Type 0
ProcessorWent = Went ProcessorSeen ProcessorStands ProcessorGoes ProcessorMeets (λ n. n.fault) processor_tells processor_view

abbrev pub MergeWent : MergeLent → MergeLent → Type 0
MergeWent = Went MergeLent (λ n. MergeStands n.merge) MergeOn (λ a b bad. MergeMeets a.merge b.merge bad) (λ n. n.merge.fault) (λ n. merge_tells n.merge) (λ n. merge_view n.merge)

-- ---- the merge's turns

pub merge_on_stays : (a : MergeLent) → MergeOn a a
merge_on_stays a = record { goes = merge_stays a.merge; lent = refl }

pub merge_on_then : (a b c : MergeLent) → MergeOn a b → MergeOn b c → MergeOn a c
merge_on_then a b c f g = record { goes = merge_then a.merge b.merge c.merge f.goes g.goes; lent = g.lent ∙ f.lent }

-- ---- pipes go on telling

ins_tell : (a b : List RxSeen) → InsGo a b → Rattle.std.specs.Prelude.All RxTells a → Rattle.std.specs.Prelude.All RxTells b
ins_tell a b goes tell i d less =
    let there : i < length a = subst (λ (n : ℕ). i < n) goes.as_many less in
    let end = goes.each i d there in
    record { forth = subst Rattle.std.specs.Prelude.IsTrue (sym end.told.0) (tell i d there).forth; back = subst Rattle.std.specs.Prelude.IsTrue (sym end.told.1) (tell i d there).back }

outs_tell : (a b : ShuffleSeen) → OutsGo a b → Rattle.std.specs.Prelude.All TxTells a.links → Rattle.std.specs.Prelude.All TxTells b.links
outs_tell a b goes tell i d less =
    let there : i < length a.links = subst (λ (n : ℕ). i < n) goes.as_many less in
    let end = goes.each i d there in
    record { forth = subst Rattle.std.specs.Prelude.IsTrue (sym end.told.0) (tell i d there).forth; back = subst Rattle.std.specs.Prelude.IsTrue (sym end.told.1) (tell i d there).back }

pub parser_tells_on : (a b : ParserSeen) → ParserGoes a b → parser_tells a → parser_tells b
parser_tells_on a b goes tells = record { ins = tells.ins; outs = outs_tell a.outs b.outs goes.outs tells.outs }

pub grouper_tells_on : (a b : GrouperSeen) → GrouperGoes a b → grouper_tells a → grouper_tells b
grouper_tells_on a b goes tells = record { ins = ins_tell a.ins b.ins goes.ins tells.ins; outs = outs_tell a.outs b.outs goes.outs tells.outs }

pub processor_tells_on : (a b : ProcessorSeen) → ProcessorGoes a b → processor_tells a → processor_tells b
processor_tells_on a b goes tells = record { ins = ins_tell a.ins b.ins goes.ins tells.ins; outs = outs_tell a.outs b.outs goes.outs tells.outs }

pub merge_tells_on : (a b : MergeLent) → MergeOn a b → merge_tells a.merge → merge_tells b.merge
merge_tells_on a b goes tells = record { ins = ins_tell a.merge.ins b.merge.ins goes.goes.ins tells.ins; outs = tells.outs }

-- ---- no node

abbrev pub nothing : {N : Type 0} → N → Type 0
nothing n = Unit {0}

abbrev pub nothing_goes : {N : Type 0} → N → N → Type 0
nothing_goes a b = Unit {0}

abbrev pub nothing_meets : {N : Type 0} → N → N → NodeFault → Type 0
nothing_meets a b bad = Unit {0}

abbrev pub no_fault : {N : Type 0} → N → Option NodeFault
no_fault n = None

abbrev pub no_view : {N : Type 0} → N → Node
no_view n = record { read = 0; records = 0; wrote = 0; wrote_all = true; ins = []; outs = [] }
