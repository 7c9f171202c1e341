-- Layers of new nodes, over the lists of their new links.
use Rattle.std.specs.Prelude.{ℕ, ◌≡◌, ◌<◌, ◌≤◌, ◌+◌, List, [], All, length, map, slice_index_or}
use Rattle.ds_base.specs.Items.{Items}
use Rattle.ds_base.specs.Outside.{SourceSeen}
use Rattle.node_lists.specs.Lists.{items_at}
use Rattle.credit_link.specs.Ends.{TxSeen, RxSeen}
use Rattle.summary_spec.specs.Declaration.{Declared}
use Rattle.net_law.specs.Ends.{tx_at}
use Rattle.net_law.specs.Parsers.{ParserSeen, ParserStands}
use Rattle.net_law.specs.Groupers.{GrouperSeen, GrouperStands}
use Rattle.net_law.specs.Processors.{ProcessorSeen, ProcessorStands}
use Rattle.net_law.specs.Starts.{IsNewTx, IsNewRx, new_parser, new_grouper, new_processor}

-- so many nodes, each as its number wants it
pub record IsLayer {N : Type 0} (count : ℕ) (Is : ℕ → N → Type 0) (layer : List N) : Type 0 where
  pub long : length layer ≡ count
  pub each : (k : ℕ) (d : N) → k < count → Is k (slice_index_or layer k d)

-- ---- the new links of one node, all of the same credits

pub record AreParserLinks (groupers : ℕ) (outs : List TxSeen) : Type 0 where
  pub count : length outs ≡ groupers + 1
  pub new_outs : All (IsNewTx (tx_at outs 0).credits) outs

pub record AreGrouperLinks (ins : List RxSeen) (outs : List TxSeen) : Type 0 where
  pub ins_few : (1 ≤ length ins) × (length ins ≤ 16)
  pub outs_few : (1 ≤ length outs) × (length outs ≤ 16)
  pub new_ins : All (IsNewRx (tx_at outs 0).credits) ins
  pub new_outs : All (IsNewTx (tx_at outs 0).credits) outs

pub record AreProcessorLinks (ins : List RxSeen) (outs : List TxSeen) : Type 0 where
  pub ins_few : (1 ≤ length ins) × (length ins ≤ 16)
  pub one_out : length outs ≡ 1
  pub new_ins : All (IsNewRx (tx_at outs 0).credits) ins
  pub new_outs : All (IsNewTx (tx_at outs 0).credits) outs

-- ---- the new node of one number, over the lists of that number

pub record IsNewParser (job : Declared) (parsers : ℕ) (own : ℕ → List SourceSeen) (outs : List (Items TxSeen)) (p : ℕ) (node : ParserSeen) : Type 0 where
  pub is : node ≡ new_parser job p parsers (tx_at (items_at outs p) 0).credits (own p) (items_at outs p)
  pub stands : ParserStands node

pub record IsNewGrouper (job : Declared) (groupers : ℕ) (ins : List (Items RxSeen)) (outs : List (Items TxSeen)) (g : ℕ) (node : GrouperSeen) : Type 0 where
  pub is : node ≡ new_grouper job g groupers (tx_at (items_at outs g) 0).credits (items_at ins g) (items_at outs g)
  pub stands : GrouperStands node

pub record IsNewProcessor (job : Declared) (ins : List (Items RxSeen)) (outs : List (Items TxSeen)) (q : ℕ) (node : ProcessorSeen) : Type 0 where
  pub is : node ≡ new_processor job (tx_at (items_at outs q) 0).credits (items_at ins q) (items_at outs q)
  pub stands : ProcessorStands node

-- ---- the sources of parsers

-- the parsers that there are have the sources of the lists of their numbers, which have none now, and the other lists
-- are as before
pub record HaveTaken {S : Type 0} (seen : S → SourceSeen) (before after : List (Items S)) (layer : List ParserSeen) : Type 0 where
  pub long : length after ≡ length before
  pub fewer : length layer ≤ length before
  pub taken : (p : ℕ) (d : ParserSeen) → p < length layer → ((slice_index_or layer p d).sources ≡ map seen (items_at before p)) × (items_at after p ≡ [])
  pub left : (p : ℕ) → length layer ≤ p → items_at after p ≡ items_at before p

-- the sources of each parser are in the list of its number, and the other lists are as before
pub record PutsBack {S : Type 0} (seen : S → SourceSeen) (layer : List ParserSeen) (before after : List (Items S)) : Type 0 where
  pub long : length after ≡ length before
  pub back : (p : ℕ) (d : ParserSeen) → p < length layer → map seen (items_at after p) ≡ (slice_index_or layer p d).sources
  pub left : (p : ℕ) → length layer ≤ p → items_at after p ≡ items_at before p
