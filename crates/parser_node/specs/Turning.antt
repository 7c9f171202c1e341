-- What a turn of a parser does.
use Rattle.std.specs.Prelude.{◌≡◌, ◌≤◌, ◌+◌, ◌⊎◌, Bool, true, false}
use Rattle.credit_link.specs.declared.turn.Turn.{Turn}
use Rattle.credit_link.specs.declared.turn.Turn.TheVariants.{Moved, Idle, Done}
use Rattle.shuffle_poll.specs.Shuffles.{ShuffleSeen}
use Rattle.round_law.specs.Rows.{TurnSays, TurnTells}
use Rattle.node_lanes.specs.Resting.{NoneHeld, SomeToSettle, IsSettledEach}
use Rattle.net_law.specs.Parsers.{ParserSeen, ParserGoes, ParserStands, SomeWaits, HasReadAll, parser_view, parser_tells}
use Rattle.parser_node.specs.Passing.{taken_in}

-- what a turn answers, by whether something moved
abbrev pub AnswersBy : (did : Bool) (outs : ShuffleSeen) → Turn → Type 0
AnswersBy did outs Moved = did ≡ true
AnswersBy did outs Idle = (did ≡ false) × SomeToSettle outs
AnswersBy did outs Done = (did ≡ false) × IsSettledEach outs

-- A turn without a fault. It is idle only where a frame waits or every capture has ended, and done only where every
-- capture has ended; where no frame waits and some capture goes on, it has read bytes and taken up records, 960 at least.
pub record Turns (before after : ParserSeen) (turn : Turn) : Type 0 where
  pub goes : ParserGoes before after
  pub says : parser_tells before → TurnSays before.credits (parser_view before) (parser_view after) turn
  pub tells : parser_tells before → TurnTells (parser_view before) (parser_view after) turn
  pub idle : turn ≡ Idle → SomeWaits after.outs ⊎ HasReadAll after
  pub done : turn ≡ Done → HasReadAll after
  pub works : NoneHeld after.outs → ¬ HasReadAll after → taken_in before + 960 ≤ taken_in after

-- its links out alone are other ends, in one way or another, and it stands
pub record ChangesOuts (before after : ParserSeen) : Type 0 where
  pub same : after ≡ record before { outs = after.outs }
  pub stands : ParserStands after
