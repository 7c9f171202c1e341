-- All nodes are done, or one is not.
use Rattle.std.proofs.Common.{ℕ, ◌+◌, ◌<◌, ◌≡◌, ◌≢◌, List, Option, None, length, get_or, sym, subst, arith}
use Rattle.credit_link.specs.declared.turn.NodeFault.{NodeFault}
use Rattle.round_law.specs.Waits.{Node, IsDone}
use Rattle.round_law.specs.Pipeline.Place.{Parser, Grouper, Processor}
use Rattle.net_law.specs.Parsers.{ParserSeen, parser_view}
use Rattle.net_law.specs.Groupers.{GrouperSeen, grouper_view}
use Rattle.net_law.specs.Processors.{ProcessorSeen, processor_view}
use Rattle.net_law.specs.Merges.{merge_view}
use Rattle.net_law.specs.Nets.{Net, NetStands, parser_at, grouper_at, processor_at, no_parser, no_grouper, no_processor}
use Rattle.net_law.proofs.Sound.{node_same, each_node, parsers_long, groupers_long, processors_long}
use Rattle.net_law.proofs.Turned.{at_or_other}
use Rattle.run_rounds.specs.Runs.{AllAreDone}
use Rattle.pipeline_nodes.specs.Done.{AreDone, SomeIsNotDone}

module _ {N : Type 0} (fault : N → Option NodeFault) (shown : N → Node) (nodes : List N) where
  pub none_yet : AreDone fault shown 0 nodes
  none_yet i d less = absurd (omega (arith, less))

  pub one_more : (n : ℕ) (node : N) → ((d : N) → get_or nodes n d ≡ node) → AreDone fault shown n nodes → (fault node ≡ None) × IsDone (shown node) → AreDone fault shown (n + 1) nodes
  one_more n node is far done i d less =
      at_or_other (λ (k : ℕ). k < n + 1 → (fault (get_or nodes k d) ≡ None) × IsDone (shown (get_or nodes k d))) n i
      (λ last. subst (λ (s : N). (fault s ≡ None) × IsDone (shown s)) (sym (is d)) done)
      (λ other before. far i d (earlier i n other before))
      less
    where
      earlier : (i n : ℕ) → i ≢ n → i < n + 1 → i < n
      earlier i n other less = grind (arith, other, less)

  pub not_this : (n : ℕ) (node : N) → n < length nodes → ((d : N) → get_or nodes n d ≡ node) → ¬ ((fault node ≡ None) × IsDone (shown node)) → SomeIsNotDone fault shown nodes
  not_this n node there is not_done = (n, there, λ d done. not_done (subst (λ (s : N). (fault s ≡ None) × IsDone (shown s)) (is d) done))

module _ (net : Net) (now : NetStands net) where
  pub all_done : AreDone (λ (s : ParserSeen). s.fault) parser_view (length net.parsers) net.parsers → AreDone (λ (s : GrouperSeen). s.fault) grouper_view (length net.groupers) net.groupers
      → AreDone (λ (s : ProcessorSeen). s.fault) processor_view (length net.processors) net.processors → (net.merge.fault ≡ None) × IsDone (merge_view net.merge) → AllAreDone net
  all_done parsers groupers processors merge = (
    record {
      parsers = λ p hp. (parser p hp).0;
      groupers = λ g hg. (grouper g hg).0;
      processors = λ q hq. (processor q hq).0;
      merge = merge.0;
    },
    each_node net now IsDone (λ p hp. (parser p hp).1) (λ g hg. (grouper g hg).1) (λ q hq. (processor q hq).1) merge.1,
  )
    where
      parser : (p : ℕ) → p < net.shape.parsers → ((parser_at net p).fault ≡ None) × IsDone (parser_view (parser_at net p))
      parser p hp = parsers p (no_parser net.job) (subst (λ (n : ℕ). p < n) (sym now.parser_count) hp)

      grouper : (g : ℕ) → g < net.shape.groupers → ((grouper_at net g).fault ≡ None) × IsDone (grouper_view (grouper_at net g))
      grouper g hg = groupers g (no_grouper net.job) (subst (λ (n : ℕ). g < n) (sym now.grouper_count) hg)

      processor : (q : ℕ) → q < net.shape.processors → ((processor_at net q).fault ≡ None) × IsDone (processor_view (processor_at net q))
      processor q hq = processors q (no_processor net.job) (subst (λ (n : ℕ). q < n) (sym now.processor_count) hq)

  pub parser_left_to_do : SomeIsNotDone (λ (s : ParserSeen). s.fault) parser_view net.parsers → ¬ AllAreDone net
  parser_left_to_do (p, less, not_done) all =
      let hp : p < net.shape.parsers = subst (λ (n : ℕ). p < n) now.parser_count less in
      not_done (no_parser net.job) (all.0.parsers p hp, subst IsDone (node_same net (Parser p)) (all.1 (Parser p) (subst (λ (n : ℕ). p < n) (sym (parsers_long net now)) hp)))

  pub grouper_left_to_do : SomeIsNotDone (λ (s : GrouperSeen). s.fault) grouper_view net.groupers → ¬ AllAreDone net
  grouper_left_to_do (g, less, not_done) all =
      let hg : g < net.shape.groupers = subst (λ (n : ℕ). g < n) now.grouper_count less in
      not_done (no_grouper net.job) (all.0.groupers g hg, subst IsDone (node_same net (Grouper g)) (all.1 (Grouper g) (subst (λ (n : ℕ). g < n) (sym (groupers_long net now)) hg)))

  pub processor_left_to_do : SomeIsNotDone (λ (s : ProcessorSeen). s.fault) processor_view net.processors → ¬ AllAreDone net
  processor_left_to_do (q, less, not_done) all =
      let hq : q < net.shape.processors = subst (λ (n : ℕ). q < n) now.processor_count less in
      not_done (no_processor net.job) (all.0.processors q hq, subst IsDone (node_same net (Processor q)) (all.1 (Processor q) (subst (λ (n : ℕ). q < n) (sym (processors_long net now)) hq)))
