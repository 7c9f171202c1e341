-- A round of all nodes.
use Rattle.std.specs.Prelude.{ℕ, ◌+◌, Bool, true, false}
use Rattle.credit_link.specs.declared.turn.Turn.{Turn}
use Rattle.credit_link.specs.declared.turn.Turn.TheVariants.{Moved, Idle, Done}
use Rattle.round_law.specs.Pipeline as round
use Rattle.round_law.specs.Measure.{SomeMoves}
use Rattle.round_law.specs.Turns.{IsTurn, RestedSoFar}
use Rattle.net_law.specs.Nets.{Net, NetStands}
use Rattle.net_law.specs.Turned.{IsAlike}
use Rattle.net_law.specs.Rounds.{view, NoneHasFault, RowOf}

-- the nodes with numbers below n had a turn each, in the order of their numbers
pub data HadTurns : ℕ → Net → Net → Type 0 where
  Begun : (start : Net) → HadTurns 0 start start
  Next : (n : ℕ) (start now after : Net) (turn : Turn) → HadTurns n start now → IsTurn (RowOf now.credits turn) n (view now) (view after) → HadTurns (n + 1) start after

abbrev pub has_moved : Turn → Bool
has_moved Moved = true
has_moved Idle = false
has_moved Done = false

-- and one of them has moved, or each was idle or done
abbrev pub RowsSoFar : (credits n : ℕ) (moved : Bool) (start now : round.Net) → Type 0
RowsSoFar credits n true start now = SomeMoves start now
RowsSoFar credits n false start now = RestedSoFar credits n start now

-- a round that began with a look, after the turns of the nodes below n
pub record RoundSoFar (n : ℕ) (moved : Bool) (start now : Net) : Type 0 where
  pub stands : NetStands now
  pub quiet : NoneHasFault now
  pub alike : IsAlike start now
  pub turns : HadTurns n start now
  pub rows : RowsSoFar start.credits n moved (view start) (view now)
