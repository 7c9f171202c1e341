-- No turn of a pipeline that stands meets a fault of a link.
use Rattle.std.proofs.Common.{ℕ, ◌<◌, ◌≡◌, ◌≢◌, Result, Ok, Err, Option, None, Some, refl, sym, ap, ◌∙◌, subst}
use Rattle.credit_link.specs.declared.link_bad.LinkBad.{LinkBad}
use Rattle.credit_link.specs.declared.turn.Turn.{Turn}
use Rattle.credit_link.specs.declared.turn.NodeFault.{NodeFault}
use Rattle.credit_link.specs.declared.turn.NodeFault.TheVariants.{Malformed, Read, Write, Link, OutOfMemory}
use Rattle.run_law.specs.Shapes.{Shape}
use Rattle.net_law.specs.Nets.{Net, NetStands, EachPair, parser_at, grouper_at, processor_at}
use Rattle.net_law.specs.Steps.{AreLooked}
use Rattle.net_law.specs.Turned.{IsAlike}
use Rattle.net_law.specs.Faults.{IsLookedAt}
use Rattle.net_law.proofs.Faults.{no_link_fault_comes}
use Rattle.net_law.proofs.Turned.{at_or_other}
use Rattle.run_rounds.specs.Faults.{fault_at}
use Rattle.pipeline_nodes.specs.Nodes.{IsNoLink, NodesStand}
use Rattle.run_rounds.specs.Looked.{NodesLooked}
use Rattle.pipeline_nodes.specs.Turns.{HasMet, HasTurned}
use Rattle.pipeline_nodes.specs.Turns.HasMet.{ParserMet, GrouperMet, ProcessorMet, MergeMet}
use Rattle.pipeline_nodes.proofs.Looked.{grouper_on, processor_on, merge_on, looked_faults, looked_stands}

-- after a look at all links behind the turn
module _ (seen : Net) (looked : IsLookedAt seen) (link : ℕ) (broken : LinkBad) where
  pub never_met : (n : ℕ) (before mid : Net) (bad : NodeFault) → bad ≡ Link link broken → IsAlike before mid → NodesLooked mid seen → HasMet n before mid bad → ⊥
  never_met n _ _ _ is alike looks (ParserMet p before mid bad less goes meets) =
      let hp : p < mid.shape.parsers = subst (λ (s : Shape). p < s.parsers) (sym alike.same.1) less in
      (no_link_fault_comes seen looked).parser p link broken (parser_at before p) (parser_at mid p) (subst (λ (s : Shape). p < s.parsers) (sym looks.alike.same.1) hp) goes (looks.parsers p hp)
      (subst (λ (b : NodeFault). Rattle.net_law.specs.Parsers.ParserMeets (parser_at before p) (parser_at mid p) b) is meets)
  never_met n _ _ _ is alike looks (GrouperMet g before mid bad turned less goes meets seen_to) =
      let hg : g < mid.shape.groupers = subst (λ (s : Shape). g < s.groupers) (sym alike.same.1) less in
      (no_link_fault_comes seen looked).grouper g link broken (grouper_at before g) turned (subst (λ (s : Shape). g < s.groupers) (sym looks.alike.same.1) hg) goes
      (grouper_on turned (grouper_at mid g) (grouper_at seen g) seen_to (looks.groupers g hg))
      (subst (λ (b : NodeFault). Rattle.net_law.specs.Groupers.GrouperMeets (grouper_at before g) turned b) is meets)
  never_met n _ _ _ is alike looks (ProcessorMet q before mid bad turned less goes meets seen_to) =
      let hq : q < mid.shape.processors = subst (λ (s : Shape). q < s.processors) (sym alike.same.1) less in
      (no_link_fault_comes seen looked).processor q link broken (processor_at before q) turned (subst (λ (s : Shape). q < s.processors) (sym looks.alike.same.1) hq) goes
      (processor_on turned (processor_at mid q) (processor_at seen q) seen_to (looks.processors q hq))
      (subst (λ (b : NodeFault). Rattle.net_law.specs.Processors.ProcessorMeets (processor_at before q) turned b) is meets)
  never_met n _ _ _ is alike looks (MergeMet before mid bad turned goes meets seen_to) =
      (no_link_fault_comes seen looked).merge link broken before.merge turned goes (merge_on turned mid.merge seen.merge seen_to looks.merge)
      (subst (λ (b : NodeFault). Rattle.net_law.specs.Merges.MergeMeets before.merge turned b) is meets)

-- the fault that a look would refute is none of a link
pub no_link_met : (seen : Net) → IsLookedAt seen → (n : ℕ) (before mid : Net) (bad : NodeFault) → IsAlike before mid → NodesLooked mid seen → HasMet n before mid bad → IsNoLink bad
no_link_met seen looked n before mid (Malformed capture bad) alike looks met = tt
no_link_met seen looked n before mid (Read capture) alike looks met = tt
no_link_met seen looked n before mid Write alike looks met = tt
no_link_met seen looked n before mid (Link link broken) alike looks met = never_met seen looked link broken n before mid (Link link broken) refl alike looks met
no_link_met seen looked n before mid OutOfMemory alike looks met = tt

-- ---- what stands between turns and looks

pub nodes_looked : (before after : Net) → NodesStand before → NodesLooked before after → NodesStand after
nodes_looked before after now looks = record {
  stands = looked_stands before after now.stands looks;
  no_link = λ n bad is. now.no_link n bad (sym (looked_faults before after now.stands looks n) ∙ is);
}

pub nodes_turned : (before after : Net) (node : ℕ) → NodesStand before → NetStands after → ((n : ℕ) → n ≢ node → fault_at after n ≡ fault_at before n)
    → ((bad : NodeFault) → fault_at after node ≡ Some bad → IsNoLink bad) → NodesStand after
nodes_turned before after node now then others here = record {
  stands = then;
  no_link = λ n bad.
      at_or_other (λ (m : ℕ). fault_at after m ≡ Some bad → IsNoLink bad) node n (here bad) (λ other is. now.no_link n bad (sym (others n other) ∙ is));
}

-- ---- a fault that was answered

abbrev of_err : Result Turn NodeFault → NodeFault → NodeFault
of_err (Ok turn) other = other
of_err (Err bad) other = bad

-- whatever a turn answers, it is no fault of a link, where a look at all links comes behind it
pub no_link_answered : (before mid seen : Net) (node : ℕ) (bad : NodeFault) → NodesStand before → HasTurned node before mid (Err bad) → NetStands seen → NodesLooked mid seen
    → EachPair (AreLooked seen.credits) seen → IsNoLink bad
no_link_answered before mid seen node bad now turned then looks looked = by_stored (fault_at before node) refl
  where
    by_stored : (stored : Option NodeFault) → fault_at before node ≡ stored → IsNoLink bad
    by_stored None is = no_link_met seen (record { stands = then; looked = looked }) node before mid bad turned.alike looks (turned.causes is)
    by_stored (Some kept) is =
        now.no_link node bad (is ∙ ap (λ (r : Result Turn NodeFault). Some (of_err r kept)) (sym (turned.again kept is).0))

-- ---- what stands after the answer

pub stands_by_ok : (before after : Net) (node : ℕ) (turn : Turn) → NodesStand before → HasTurned node before after (Ok turn) → NodesStand after
stands_by_ok before after node turn now turned =
    nodes_turned before after node now turned.stands turned.others (λ bad is. let none : fault_at after node ≡ None = turned.fault in absurd (cc))

abbrev of_some : Option NodeFault → NodeFault → NodeFault
of_some None other = other
of_some (Some bad) other = bad

pub stands_by_err : (before after : Net) (node : ℕ) (bad : NodeFault) → NodesStand before → HasTurned node before after (Err bad) → IsNoLink bad → NodesStand after
stands_by_err before after node bad now turned no_link =
    nodes_turned before after node now turned.stands turned.others
    (λ other is. subst IsNoLink (ap (λ (o : Option NodeFault). of_some o bad) (sym turned.fault ∙ is)) no_link)
