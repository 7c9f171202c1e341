-- A new pipeline stands.
use Rattle.std.proofs.Common.{ℕ, zero, suc, ◌+◌, ◌/◌, ◌<◌, ◌≡◌, List, length, get_or, replicate, refl, sym, ap, ◌∙◌, subst, arith}
use Rattle.ds_base.specs.Items.{Items}
use Rattle.ds_base.specs.Outside.{SourceSeen, SinkSeen}
use Rattle.node_lists.specs.Lists.{items_at}
use Rattle.node_lists.specs.Dealing.{AreDealt}
use Rattle.credit_link.specs.Ends.{TxSeen, RxSeen}
use Rattle.credit_link.specs.Joined.{IsNewLink}
use Rattle.link_grid.specs.Grids.{LinkStarts}
use Rattle.link_grid.specs.Pipelines.{AreLinksOf}
use Rattle.link_grid.specs.declared.pipeline.PipelineLinks.{PipelineLinks}
use Rattle.summary_spec.specs.Declaration.{Declared}
use Rattle.run_law.specs.Shapes.{Shape}
use Rattle.run_law.specs.Snapshot.{unread}
use Rattle.net_law.specs.Ends.{no_tx, no_rx, tx_at, rx_at}
use Rattle.net_law.specs.Parsers.{ParserSeen}
use Rattle.net_law.specs.Groupers.{GrouperSeen}
use Rattle.net_law.specs.Processors.{ProcessorSeen}
use Rattle.net_law.specs.Merges.{MergeSeen, MergeStands}
use Rattle.net_law.specs.Nets.{Net, NetStands, EachPair, AreEnds, parser_at, grouper_at, processor_at, no_parser, no_grouper, no_processor}
use Rattle.net_law.specs.Rounds.{NoneHasFault}
use Rattle.net_law.specs.Starts.{new_merge}
use Rattle.node_layers.specs.Layers.{IsLayer, IsNewParser, IsNewGrouper, IsNewProcessor}
use Rattle.new_pipeline.specs.Opening.{net_over, sources_of, IsNewOf}
use Rattle.new_pipeline.specs.declared.shape.Shape.{Shape as NodeCounts}
use Rattle.new_pipeline.specs.Shapes.{IsWithin, counts_of}
use Rattle.new_pipeline.specs.Readying.{AreReady}
use Rattle.new_pipeline.proofs.Linked.{are_ends, parser_credits, grouper_credits, processor_credits}

each_pair : (A B : TxSeen → RxSeen → Type 0) (net : Net) → ((tx : TxSeen) (rx : RxSeen) → A tx rx → B tx rx) → EachPair A net → EachPair B net
each_pair A B net f e = record {
  to_grouper = λ p g less there. f _ _ (e.to_grouper p g less there);
  to_merge = λ p less. f _ _ (e.to_merge p less);
  to_processor = λ g q less there. f _ _ (e.to_processor g q less there);
  from_processor = λ q less. f _ _ (e.from_processor q less);
}

same_items : {X : Type 0} (n i : ℕ) (x : X) → get_or (replicate n x) i x ≡ x
same_items zero i x = refl
same_items (suc n) zero x = refl
same_items (suc n) (suc i) x = same_items n i x

module _ (job : Declared) (shape : Shape) (credits : ℕ) (own : ℕ → List SourceSeen) (links : PipelineLinks) (parsers : List ParserSeen) (groupers : List GrouperSeen) (processors : List ProcessorSeen) (merge : MergeSeen)
    (sink : SinkSeen) (some : (0 < shape.parsers) × (0 < shape.groupers) × (0 < shape.processors)) (are : AreLinksOf credits shape.parsers shape.groupers shape.processors links)
    (ps : IsLayer shape.parsers (IsNewParser job shape.parsers own links.parser_outs.items) parsers)
    (gs : IsLayer shape.groupers (IsNewGrouper job shape.groupers links.grouper_ins.items links.grouper_outs.items) groupers)
    (qs : IsLayer shape.processors (IsNewProcessor job links.processor_ins.items links.processor_outs.items) processors)
    (m : merge ≡ new_merge job shape.parsers credits (items_at links.merge_ins.items 0) sink) (stands : MergeStands merge) where
  abbrev net : Net
  net = net_over job shape credits parsers groupers processors merge

  new_p : (p : ℕ) → p < shape.parsers → IsNewParser job shape.parsers own links.parser_outs.items p (parser_at net p)
  new_p p less = ps.each p (no_parser job) less

  new_g : (g : ℕ) → g < shape.groupers → IsNewGrouper job shape.groupers links.grouper_ins.items links.grouper_outs.items g (grouper_at net g)
  new_g g less = gs.each g (no_grouper job) less

  new_q : (q : ℕ) → q < shape.processors → IsNewProcessor job links.processor_ins.items links.processor_outs.items q (processor_at net q)
  new_q q less = qs.each q (no_processor job) less

  -- ---- the links by the nodes that have them

  p_outs : (p k : ℕ) → p < shape.parsers → tx_at (parser_at net p).outs.links k ≡ tx_at (items_at links.parser_outs.items p) k
  p_outs p k less = ap (λ (s : ParserSeen). tx_at s.outs.links k) (new_p p less).is

  g_ins : (g j : ℕ) → g < shape.groupers → rx_at (grouper_at net g).ins j ≡ rx_at (items_at links.grouper_ins.items g) j
  g_ins g j less = ap (λ (s : GrouperSeen). rx_at s.ins j) (new_g g less).is

  g_outs : (g k : ℕ) → g < shape.groupers → tx_at (grouper_at net g).outs.links k ≡ tx_at (items_at links.grouper_outs.items g) k
  g_outs g k less = ap (λ (s : GrouperSeen). tx_at s.outs.links k) (new_g g less).is

  q_ins : (q j : ℕ) → q < shape.processors → rx_at (processor_at net q).ins j ≡ rx_at (items_at links.processor_ins.items q) j
  q_ins q j less = ap (λ (s : ProcessorSeen). rx_at s.ins j) (new_q q less).is

  q_outs : (q k : ℕ) → q < shape.processors → tx_at (processor_at net q).outs.links k ≡ tx_at (items_at links.processor_outs.items q) k
  q_outs q k less = ap (λ (s : ProcessorSeen). tx_at s.outs.links k) (new_q q less).is

  m_ins : (j : ℕ) → rx_at merge.ins j ≡ rx_at (items_at links.merge_ins.items 0) j
  m_ins j = ap (λ (s : MergeSeen). rx_at s.ins j) m

  both : (tx tx' : TxSeen) (rx rx' : RxSeen) → tx ≡ tx' → rx ≡ rx' → LinkStarts credits tx' rx' → LinkStarts credits tx rx
  both tx tx' rx rx' a b s = subst (λ (t : TxSeen). LinkStarts credits t rx) (sym a) (subst (λ (r : RxSeen). LinkStarts credits tx' r) (sym b) s)

  pairs : EachPair (LinkStarts credits) net
  pairs = record {
    to_grouper = λ p g less there. both _ _ _ _ (p_outs p g less) (g_ins g p there) (are.to_grouper p g no_tx no_rx less there);
    to_merge = λ p less. both _ _ _ _ (p_outs p shape.groupers less) (m_ins p) (are.to_merge p no_tx no_rx less);
    to_processor = λ g q less there. both _ _ _ _ (g_outs g q less) (q_ins q g there) (are.to_processor g q no_tx no_rx less there);
    from_processor = λ q less. both _ _ _ _ (q_outs q 0 less) (m_ins (shape.parsers + q)) (are.from_processor q no_tx no_rx less);
  }

  pub net_stands : NetStands net
  net_stands = record {
    shape_is = record { parsers = some.0; groupers = some.1; processors = some.2 };
    parser_count = ps.long;
    grouper_count = gs.long;
    processor_count = qs.long;
    parsers = λ p less. record {
      job = ap (λ (s : ParserSeen). s.job) (new_p p less).is;
      me = ap (λ (s : ParserSeen). s.me) (new_p p less).is;
      parsers = ap (λ (s : ParserSeen). s.parsers) (new_p p less).is;
      credits = ap (λ (s : ParserSeen). s.credits) (new_p p less).is ∙ parser_credits credits shape.parsers shape.groupers shape.processors links are p less some.1;
      outs = ap (λ (s : ParserSeen). length s.outs.links) (new_p p less).is ∙ are.parser_outs p less;
      stands = (new_p p less).stands;
    };
    groupers = λ g less. record {
      job = ap (λ (s : GrouperSeen). s.job) (new_g g less).is;
      me = ap (λ (s : GrouperSeen). s.me) (new_g g less).is;
      groupers = ap (λ (s : GrouperSeen). s.groupers) (new_g g less).is;
      credits = ap (λ (s : GrouperSeen). s.credits) (new_g g less).is ∙ grouper_credits credits shape.parsers shape.groupers shape.processors links are g less some.2;
      ins = ap (λ (s : GrouperSeen). length s.ins) (new_g g less).is ∙ are.grouper_ins g less;
      outs = ap (λ (s : GrouperSeen). length s.outs.links) (new_g g less).is ∙ are.grouper_outs g less;
      stands = (new_g g less).stands;
    };
    processors = λ q less. record {
      job = ap (λ (s : ProcessorSeen). s.job) (new_q q less).is;
      credits = ap (λ (s : ProcessorSeen). s.credits) (new_q q less).is ∙ processor_credits credits shape.parsers shape.groupers shape.processors links are q less;
      ins = ap (λ (s : ProcessorSeen). length s.ins) (new_q q less).is ∙ are.processor_ins q less;
      stands = (new_q q less).stands;
    };
    merge = record {
      job = ap (λ (s : MergeSeen). s.job) m;
      parsers = ap (λ (s : MergeSeen). s.parsers) m;
      credits = ap (λ (s : MergeSeen). s.credits) m;
      ins = ap (λ (s : MergeSeen). length s.ins) m ∙ are.merge_ins;
      stands = stands;
    };
    links = each_pair (LinkStarts credits) (AreEnds credits) net (are_ends credits) pairs;
  }

  pub is_quiet : NoneHasFault net
  is_quiet = record {
    parsers = λ p less. ap (λ (s : ParserSeen). s.fault) (new_p p less).is;
    groupers = λ g less. ap (λ (s : GrouperSeen). s.fault) (new_g g less).is;
    processors = λ q less. ap (λ (s : ProcessorSeen). s.fault) (new_q q less).is;
    merge = ap (λ (s : MergeSeen). s.fault) m;
  }

  pub is_new : (sources : List SourceSeen) → AreDealt shape.parsers sources (sources_of parsers) → IsNewOf job shape credits sources sink net
  is_new sources dealt = record {
    same = (refl, refl, refl);
    sources_are = dealt;
    unread_are = λ p c less. ap (λ (s : ParserSeen). get_or s.reads (c / s.parsers) unread) (new_p p less).is ∙ same_items (length (own p)) (c / shape.parsers) unread;
    links = each_pair (LinkStarts credits) (IsNewLink credits) net (λ tx rx s. s.new) pairs;
    sink_is = ap (λ (s : MergeSeen). s.sink) m;
    gained = ap (λ (s : MergeSeen). s.gained) m;
    quiet = is_quiet;
  }

-- ---- over what was made before the first source was moved

module _ (job : Declared) (shape : NodeCounts) (outs : List (Items TxSeen)) (parsers : List ParserSeen) (groupers : List GrouperSeen) (processors : List ProcessorSeen) (ins : List RxSeen)
    (merge : MergeSeen) (sink : SinkSeen) (within : IsWithin shape) (ready : AreReady job shape outs groupers processors ins)
    (made : IsLayer (length outs) (IsNewParser job (length outs) (sources_of parsers) outs) parsers)
    (fresh : merge ≡ new_merge job shape.parsers shape.credits ins sink) (stands : MergeStands merge) where
  pub count_is : length outs ≡ shape.parsers
  count_is = ap length ready.outs_are ∙ ready.are.parser_lists

  some : (0 < shape.parsers) × (0 < shape.groupers) × (0 < shape.processors)
  some = (omega (arith, within.parsers.0), omega (arith, within.groupers.0), omega (arith, within.processors.0))

  ps : IsLayer shape.parsers (IsNewParser job shape.parsers (sources_of parsers) ready.links.parser_outs.items) parsers
  ps = subst (λ (l : List (Items TxSeen)). IsLayer shape.parsers (IsNewParser job shape.parsers (sources_of parsers) l) parsers) ready.outs_are
      (subst (λ (n : ℕ). IsLayer n (IsNewParser job n (sources_of parsers) outs) parsers) count_is made)

  m : merge ≡ new_merge job shape.parsers shape.credits (items_at ready.links.merge_ins.items 0) sink
  m = fresh ∙ ap (λ (l : List RxSeen). new_merge job shape.parsers shape.credits l sink) ready.ins_are

  pub opened_stands : NetStands (net_over job (counts_of shape) shape.credits parsers groupers processors merge)
  opened_stands = net_stands job (counts_of shape) shape.credits (sources_of parsers) ready.links parsers groupers processors merge sink some ready.are ps ready.groupers_are ready.processors_are m stands

  pub opened_new : (sources : List SourceSeen) → AreDealt (length outs) sources (sources_of parsers) → IsNewOf job (counts_of shape) shape.credits sources sink (net_over job (counts_of shape) shape.credits parsers groupers processors merge)
  opened_new sources dealt =
      is_new job (counts_of shape) shape.credits (sources_of parsers) ready.links parsers groupers processors merge sink some ready.are ps ready.groupers_are ready.processors_are m stands sources
      (subst (λ (n : ℕ). AreDealt n sources (sources_of parsers)) count_is dealt)
