-- The links of a pipeline, by the lists of its nodes.
use Rattle.std.specs.Prelude.{ℕ, ◌≡◌, ◌<◌, ◌+◌, length, slice_index_or}
use Rattle.node_lists.specs.Lists.{JoinsLists, items_at}
use Rattle.credit_link.specs.Ends.{TxSeen, RxSeen}
use Rattle.link_grid.specs.Grids.{LinkStarts}
use Rattle.link_grid.specs.declared.grid.LinkGrid.{LinkGrid}
use Rattle.link_grid.specs.declared.pipeline.PipelineLinks.{PipelineLinks}

-- one new link from each parser to each grouper and to the merge, from each grouper to each processor, and from each
-- processor to the merge; the two ends of each are those of one link
pub record AreLinksOf (credits parsers groupers processors : ℕ) (links : PipelineLinks) : Type 0 where
  pub parser_lists : length links.parser_outs.items ≡ parsers
  pub grouper_lists : (length links.grouper_ins.items ≡ groupers) × (length links.grouper_outs.items ≡ groupers)
  pub processor_lists : (length links.processor_ins.items ≡ processors) × (length links.processor_outs.items ≡ processors)
  pub merge_lists : length links.merge_ins.items ≡ 1
  pub parser_outs : (p : ℕ) → p < parsers → length (items_at links.parser_outs.items p) ≡ groupers + 1
  pub grouper_ins : (g : ℕ) → g < groupers → length (items_at links.grouper_ins.items g) ≡ parsers
  pub grouper_outs : (g : ℕ) → g < groupers → length (items_at links.grouper_outs.items g) ≡ processors
  pub processor_ins : (q : ℕ) → q < processors → length (items_at links.processor_ins.items q) ≡ groupers
  pub processor_outs : (q : ℕ) → q < processors → length (items_at links.processor_outs.items q) ≡ 1
  pub merge_ins : length (items_at links.merge_ins.items 0) ≡ parsers + processors
  pub to_grouper : (p g : ℕ) (tx : TxSeen) (rx : RxSeen) → p < parsers → g < groupers
      → LinkStarts credits (slice_index_or (items_at links.parser_outs.items p) g tx) (slice_index_or (items_at links.grouper_ins.items g) p rx)
  pub to_merge : (p : ℕ) (tx : TxSeen) (rx : RxSeen) → p < parsers
      → LinkStarts credits (slice_index_or (items_at links.parser_outs.items p) groupers tx) (slice_index_or (items_at links.merge_ins.items 0) p rx)
  pub to_processor : (g q : ℕ) (tx : TxSeen) (rx : RxSeen) → g < groupers → q < processors
      → LinkStarts credits (slice_index_or (items_at links.grouper_outs.items g) q tx) (slice_index_or (items_at links.processor_ins.items q) g rx)
  pub from_processor : (q : ℕ) (tx : TxSeen) (rx : RxSeen) → q < processors
      → LinkStarts credits (slice_index_or (items_at links.processor_outs.items q) 0 tx) (slice_index_or (items_at links.merge_ins.items 0) (parsers + q) rx)

-- the lists of the nodes are those of the four grids, joined for parsers and the merge
pub record AreJoined (items counts groups answers : LinkGrid) (links : PipelineLinks) : Type 0 where
  pub parser_outs : JoinsLists items.txs.items counts.txs.items links.parser_outs.items
  pub grouper_ins : links.grouper_ins ≡ items.rxs
  pub grouper_outs : links.grouper_outs ≡ groups.txs
  pub processor_ins : links.processor_ins ≡ groups.rxs
  pub processor_outs : links.processor_outs ≡ answers.txs
  pub merge_ins : JoinsLists counts.rxs.items answers.rxs.items links.merge_ins.items
