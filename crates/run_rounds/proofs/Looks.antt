-- What a look at all links leaves as it was.
use Rattle.std.proofs.Common.{ℕ, ◌≡◌, ◌<◌, ◌≤◌, sym, ap, subst, ◌∙◌, arith}
use Rattle.round_law.specs.Rows.{moved, IsLookedAt}
use Rattle.round_law.specs.Pipeline as round
use Rattle.round_law.specs.Pipeline.{Place, node_of}
use Rattle.round_law.specs.Pipeline.Place.{Parser, Grouper, Processor, Merge}
use Rattle.round_law.specs.Measure.{NoneFalls}
use Rattle.round_law.proofs.Looked.{moved_same}
use Rattle.round_law.proofs.Pipelines.{still_in}
use Rattle.run_law.specs.Shapes.{Shape}
use Rattle.net_law.specs.Parsers.{ParserSeen, parser_view}
use Rattle.net_law.specs.Groupers.{GrouperSeen, grouper_view}
use Rattle.net_law.specs.Processors.{ProcessorSeen, processor_view}
use Rattle.net_law.specs.Merges.{MergeSeen}
use Rattle.net_law.specs.Nets.{Net, NetStands, parser_at, grouper_at, processor_at}
use Rattle.net_law.specs.Turned.{IsAlike}
use Rattle.net_law.specs.Rounds.{view, NoneHasFault}
use Rattle.net_law.proofs.Sound.{node_view, node_same, parser_in_view, grouper_in_view, processor_in_view}
use Rattle.net_law.proofs.Views.{long, parser_seen_to, grouper_seen_to, processor_seen_to, merge_seen_to}
use Rattle.run_rounds.specs.Looked.{NodesLooked}

pub view_alike : (before after : Net) → IsAlike before after → round.IsAlike (view before) (view after)
view_alike before after same = record {
  parsers = long parser_view after.parsers ∙ same.counts.0 ∙ sym (long parser_view before.parsers);
  groupers = long grouper_view after.groupers ∙ same.counts.1 ∙ sym (long grouper_view before.groupers);
  processors = long processor_view after.processors ∙ same.counts.2 ∙ sym (long processor_view before.processors);
}

at_most_same : (a b : ℕ) → b ≡ a → a ≤ b
at_most_same a b same = omega arith

module _ (before after : Net) (look : NodesLooked before after) where
  pub none_met : NoneHasFault before → NoneHasFault after
  none_met quiet = record {
    parsers = λ p less.
        let there : p < before.shape.parsers = subst (λ (s : Shape). p < s.parsers) look.alike.same.1 less in
        ap (λ (s : ParserSeen). s.fault) (look.parsers p there).same ∙ quiet.parsers p there;
    groupers = λ g less.
        let there : g < before.shape.groupers = subst (λ (s : Shape). g < s.groupers) look.alike.same.1 less in
        ap (λ (s : GrouperSeen). s.fault) (look.groupers g there).same ∙ quiet.groupers g there;
    processors = λ q less.
        let there : q < before.shape.processors = subst (λ (s : Shape). q < s.processors) look.alike.same.1 less in
        ap (λ (s : ProcessorSeen). s.fault) (look.processors q there).same ∙ quiet.processors q there;
    merge = ap (λ (s : MergeSeen). s.fault) look.merge.same ∙ quiet.merge;
  }

  module _ (then : NetStands after) where
    looked_at : (place : Place) → round.IsIn (view after) place → IsLookedAt (node_view before place) (node_view after place)
    looked_at (Parser p) h = parser_seen_to (parser_at before p) (parser_at after p) (look.parsers p (subst (λ (s : Shape). p < s.parsers) look.alike.same.1 (parser_in_view after then p h)))
    looked_at (Grouper g) h = grouper_seen_to (grouper_at before g) (grouper_at after g) (look.groupers g (subst (λ (s : Shape). g < s.groupers) look.alike.same.1 (grouper_in_view after then g h)))
    looked_at (Processor q) h = processor_seen_to (processor_at before q) (processor_at after q) (look.processors q (subst (λ (s : Shape). q < s.processors) look.alike.same.1 (processor_in_view after then q h)))
    looked_at Merge h = merge_seen_to before.merge after.merge look.merge

    -- the counts of what nodes have moved stay
    pub looks_lower_none : NoneFalls (view before) (view after)
    looks_lower_none = record {
      alike = view_alike before after look.alike;
      counts = λ place there.
          at_most_same (moved (node_of (view before) place)) (moved (node_of (view after) place))
          (ap moved (node_same after place)
          ∙ moved_same (node_view before place) (node_view after place) (looked_at place (still_in (view before) (view after) (view_alike before after look.alike) place there))
          ∙ sym (ap moved (node_same before place)));
    }
