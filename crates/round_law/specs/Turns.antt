-- Rounds as their turns, one after another, in the order of the nodes' numbers.
use Rattle.std.specs.Prelude.{ℕ, ◌≡◌, ◌+◌, ◌<◌, ◌≤◌, length}
use Rattle.round_law.specs.Waits.{Node}
use Rattle.round_law.specs.Rows.{Moves, Rests, Answers, IsLookedAt}
use Rattle.round_law.specs.Pipeline.{Net, Place, node_of, IsIn, IsAlike}
use Rattle.round_law.specs.Pipeline.Place.{Parser, Grouper, Processor, Merge}
use Rattle.round_law.specs.Measure.{NoneFalls, SomeMoves}

-- nodes are numbered parsers, groupers, processors, merge
abbrev pub number_of : Net → Place → ℕ
number_of net (Parser p) = p
number_of net (Grouper g) = length net.parsers + g
number_of net (Processor q) = length net.parsers + length net.groupers + q
number_of net Merge = length net.parsers + length net.groupers + length net.processors

abbrev pub node_count : Net → ℕ
node_count net = length net.parsers + length net.groupers + length net.processors + 1

-- a turn of the node with this number: what the row says of it. Then its links in are looked at, whose senders have
-- lower numbers; the others are as before.
pub record IsTurn (Row : Node → Node → Type 0) (n : ℕ) (before after : Net) : Type 0 where
  pub alike : IsAlike before after
  pub answered : (place : Place) → IsIn before place → number_of before place ≡ n → Row (node_of before place) (node_of after place)
  pub earlier : (place : Place) → IsIn before place → number_of before place < n → IsLookedAt (node_of before place) (node_of after place)
  pub later : (place : Place) → IsIn before place → n < number_of before place → node_of after place ≡ node_of before place

-- in a round the first n nodes were idle or done, and the others had no turn yet
pub record RestedSoFar (credits n : ℕ) (start now : Net) : Type 0 where
  pub alike : IsAlike start now
  pub rested : (place : Place) → IsIn start place → number_of start place < n → Rests credits (node_of start place) (node_of now place)
  pub untouched : (place : Place) → IsIn start place → n ≤ number_of start place → node_of now place ≡ node_of start place

-- ---- how a round goes on

abbrev pub RoundBegins : (credits : ℕ) → Net → Type 0
RoundBegins credits net = RestedSoFar credits 0 net net

-- the next node was idle or done
abbrev pub RoundRests : (credits n : ℕ) (start now after : Net) → Type 0
RoundRests credits n start now after = RestedSoFar credits n start now → IsTurn (Rests credits) n now after → RestedSoFar credits (n + 1) start after

-- the next node moved
abbrev pub RoundMoves : (credits n : ℕ) (start now after : Net) → Type 0
RoundMoves credits n start now after = n < node_count now → RestedSoFar credits n start now → IsTurn Moves n now after → SomeMoves start after

-- whatever a turn answers, no count falls
abbrev pub TurnLowersNone : (credits n : ℕ) (before after : Net) → Type 0
TurnLowersNone credits n before after = IsTurn (Answers credits) n before after → NoneFalls before after

-- a node has moved, and then no count fell: in a turn, or in turns side by side
abbrev pub RoundGoesOn : (start now after : Net) → Type 0
RoundGoesOn start now after = SomeMoves start now → NoneFalls now after → SomeMoves start after

-- all nodes were idle or done
abbrev pub RoundEnds : (credits : ℕ) (start now : Net) → Type 0
RoundEnds credits start now =
    RestedSoFar credits (node_count start) start now → (place : Place) → IsIn start place → Rests credits (node_of start place) (node_of now place)
