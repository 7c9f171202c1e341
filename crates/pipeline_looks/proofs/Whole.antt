-- The nodes of each kind that were looked at, as the laws of a pipeline see them.
use Rattle.std.proofs.Common.{ℕ, ◌≡◌, List, sym, ap, ◌∙◌, subst}
use Rattle.credit_link.specs.Ends.{RxSeen}
use Rattle.shuffle_poll.specs.Shuffles.{ShuffleSeen}
use Rattle.node_lanes.specs.Lending.{ShowsOut}
use Rattle.net_law.specs.Parsers.{ParserSeen}
use Rattle.net_law.specs.Groupers.{GrouperSeen, GrouperStands}
use Rattle.net_law.specs.Processors.{ProcessorSeen, ProcessorStands}
use Rattle.net_law.specs.Merges.{MergeStands}
use Rattle.net_law.specs.Steps.{InsLooked, OutsLooked, ParserLooked, GrouperLooked, ProcessorLooked, MergeLooked}
use Rattle.parser_node.specs.Turning.{ChangesOuts}
use Rattle.grouper_node.specs.Nodes.{LendsItsOuts}
use Rattle.query_node.specs.Nodes.{LendsItsOut}
use Rattle.result_merge.specs.Nodes.{MergeLent}
use Rattle.pipeline_looks.specs.Looking.{GrouperIn, ProcessorIn, MergeIn}
use Rattle.pipeline_looks.proofs.Ends.{outs_looked, outs_same, ins_same}

-- ---- what lent a link out

pub parser_lent : (a b : ParserSeen) (link : ℕ) (rx rx' : RxSeen) → ChangesOuts a b → ShowsOut a.outs b.outs link rx rx' → ParserLooked a b
parser_lent a b link rx rx' lends shown = record { same = lends.same; outs = outs_looked a.outs b.outs link rx rx' shown; stands = lends.stands }

pub grouper_lent : (a b : GrouperSeen) (link : ℕ) (rx rx' : RxSeen) → LendsItsOuts a b → ShowsOut a.outs b.outs link rx rx' → GrouperLooked a b
grouper_lent a b link rx rx' lends shown =
    let ins : b.ins ≡ a.ins = ap (λ (s : GrouperSeen). s.ins) lends.0 in
    record {
      same = lends.0 ∙ ap (λ (l : List RxSeen). record a { ins = l; outs = b.outs }) (sym ins);
      ins = subst (λ (l : List RxSeen). InsLooked a.ins l) (sym ins) (ins_same a.ins);
      outs = outs_looked a.outs b.outs link rx rx' shown;
      stands = lends.1;
    }

pub processor_lent : (a b : ProcessorSeen) (link : ℕ) (rx rx' : RxSeen) → LendsItsOut a b → ShowsOut a.outs b.outs link rx rx' → ProcessorLooked a b
processor_lent a b link rx rx' lends shown =
    let ins : b.ins ≡ a.ins = ap (λ (s : ProcessorSeen). s.ins) lends.0 in
    record {
      same = lends.0 ∙ ap (λ (l : List RxSeen). record a { ins = l; outs = b.outs }) (sym ins);
      ins = subst (λ (l : List RxSeen). InsLooked a.ins l) (sym ins) (ins_same a.ins);
      outs = outs_looked a.outs b.outs link rx rx' shown;
      stands = lends.1;
    }

-- ---- what was looked at

pub grouper_in : (a b : GrouperSeen) → GrouperStands a → GrouperIn a b → InsLooked a.ins b.ins → GrouperLooked a b
grouper_in a b stands looked ins =
    let outs : b.outs ≡ a.outs = ap (λ (s : GrouperSeen). s.outs) looked.same in
    record {
      same = looked.same ∙ ap (λ (o : ShuffleSeen). record a { ins = b.ins; outs = o }) (sym outs);
      ins = ins;
      outs = subst (λ (o : ShuffleSeen). OutsLooked a.outs o) (sym outs) (outs_same a.outs);
      stands = looked.stands stands;
    }

pub processor_in : (a b : ProcessorSeen) → ProcessorStands a → ProcessorIn a b → InsLooked a.ins b.ins → ProcessorLooked a b
processor_in a b stands looked ins =
    let outs : b.outs ≡ a.outs = ap (λ (s : ProcessorSeen). s.outs) looked.same in
    record {
      same = looked.same ∙ ap (λ (o : ShuffleSeen). record a { ins = b.ins; outs = o }) (sym outs);
      ins = ins;
      outs = subst (λ (o : ShuffleSeen). OutsLooked a.outs o) (sym outs) (outs_same a.outs);
      stands = looked.stands stands;
    }

pub merge_in : (a b : MergeLent) → MergeStands a.merge → MergeIn a b → InsLooked a.merge.ins b.merge.ins → MergeLooked a.merge b.merge
merge_in a b stands looked ins = record { same = looked.same; ins = ins; stands = looked.stands stands }
