-- A look at all links into one node.
use Rattle.std.specs.Prelude.{ℕ, ◌≡◌, ◌≢◌, ◌<◌, ◌+◌, length}
use Rattle.run_law.specs.Shapes.{IsShape}
use Rattle.net_law.specs.Ends.{tx_at, rx_at}
use Rattle.net_law.specs.Nets.{Net, EachPair, IsParserOf, IsGrouperOf, IsProcessorOf, IsMergeOf, parser_at, grouper_at, processor_at}
use Rattle.net_law.specs.Steps.{AreLooked}
use Rattle.pipeline_looks.specs.Links.{AreOnRings, OthersStay}
use Rattle.run_rounds.specs.Looked.{NodesLooked}

-- ---- before a look

-- The nodes are those of the shape, each keeps its promise, and the two ends of each link are of one ring. This is all that is
-- known where nodes took turns side by side: whether what was taken on a link is a front of what was sent, the look tells.
pub record StandsApart (net : Net) : Type 0 where
  pub shape_is : IsShape net.shape
  pub parser_count : length net.parsers ≡ net.shape.parsers
  pub grouper_count : length net.groupers ≡ net.shape.groupers
  pub processor_count : length net.processors ≡ net.shape.processors
  pub parsers : (p : ℕ) → p < net.shape.parsers → IsParserOf net p (parser_at net p)
  pub groupers : (g : ℕ) → g < net.shape.groupers → IsGrouperOf net g (grouper_at net g)
  pub processors : (q : ℕ) → q < net.shape.processors → IsProcessorOf net (processor_at net q)
  pub merge : IsMergeOf net net.merge
  pub links : EachPair (AreOnRings net.credits) net

-- ---- the links of one node

pub record GrouperIsLookedAt (g : ℕ) (before after : Net) : Type 0 where
  pub looks : NodesLooked before after
  pub looked : (p : ℕ) → p < before.shape.parsers → AreLooked before.credits (tx_at (parser_at after p).outs.links g) (rx_at (grouper_at after g).ins p)
  pub beside : (p : ℕ) → p < before.shape.parsers → OthersStay g (parser_at before p).outs (parser_at after p).outs
  pub others : (i : ℕ) → i ≢ g → grouper_at after i ≡ grouper_at before i

pub record ProcessorIsLookedAt (q : ℕ) (before after : Net) : Type 0 where
  pub looks : NodesLooked before after
  pub looked : (g : ℕ) → g < before.shape.groupers → AreLooked before.credits (tx_at (grouper_at after g).outs.links q) (rx_at (processor_at after q).ins g)
  pub beside : (g : ℕ) → g < before.shape.groupers → OthersStay q (grouper_at before g).outs (grouper_at after g).outs
  pub ins_stay : (g : ℕ) → g < before.shape.groupers → (grouper_at after g).ins ≡ (grouper_at before g).ins
  pub others : (i : ℕ) → i ≢ q → processor_at after i ≡ processor_at before i
  pub parsers : (p : ℕ) → parser_at after p ≡ parser_at before p

pub record MergeIsLookedAt (before after : Net) : Type 0 where
  pub looks : NodesLooked before after
  pub counts_looked : (p : ℕ) → p < before.shape.parsers → AreLooked before.credits (tx_at (parser_at after p).outs.links before.shape.groupers) (rx_at after.merge.ins p)
  pub answers_looked : (q : ℕ) → q < before.shape.processors → AreLooked before.credits (tx_at (processor_at after q).outs.links 0) (rx_at after.merge.ins (before.shape.parsers + q))
  pub beside : (p : ℕ) → p < before.shape.parsers → OthersStay before.shape.groupers (parser_at before p).outs (parser_at after p).outs
  pub ins_stay : (q : ℕ) → q < before.shape.processors → (processor_at after q).ins ≡ (processor_at before q).ins
  pub groupers : (g : ℕ) → grouper_at after g ≡ grouper_at before g

-- ---- the links of all nodes of a kind

-- those into the first n groupers were looked at
pub record GroupersAreLookedAt (n : ℕ) (before after : Net) : Type 0 where
  pub looks : NodesLooked before after
  pub looked : (p g : ℕ) → p < before.shape.parsers → g < n → AreLooked before.credits (tx_at (parser_at after p).outs.links g) (rx_at (grouper_at after g).ins p)

-- those into the first n processors were looked at, and those into the groupers left alone
pub record ProcessorsAreLookedAt (n : ℕ) (before after : Net) : Type 0 where
  pub looks : NodesLooked before after
  pub looked : (g q : ℕ) → g < before.shape.groupers → q < n → AreLooked before.credits (tx_at (grouper_at after g).outs.links q) (rx_at (processor_at after q).ins g)
  pub ins_stay : (g : ℕ) → g < before.shape.groupers → (grouper_at after g).ins ≡ (grouper_at before g).ins
  pub parsers : (p : ℕ) → parser_at after p ≡ parser_at before p
