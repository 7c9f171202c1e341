-- A pipeline as the laws of rounds see it.
use Rattle.std.specs.Prelude.{ℕ, ◌≡◌, ◌<◌, ◌+◌, List, None, length, map}
use Rattle.credit_link.specs.declared.turn.Turn.{Turn}
use Rattle.credit_link.specs.declared.turn.Turn.TheVariants.{Moved, Idle, Done}
use Rattle.round_law.specs.Waits.{Node, IsDone}
use Rattle.round_law.specs.Rows.{TurnSays, TurnTells, Moves, Rests}
use Rattle.round_law.specs.Links.{AreJoined}
use Rattle.round_law.specs.Pipeline.{Net as Nodes, Place, node_of, IsIn, EachNode, EachLink, IsSound}
use Rattle.round_law.specs.Measure.{IsInLimits, IsLimited}
use Rattle.round_law.specs.Turns.{IsTurn}
use Rattle.run_law.specs.Snapshot.{AreDone}
use Rattle.net_law.specs.Parsers.{parser_view}
use Rattle.net_law.specs.Groupers.{grouper_view}
use Rattle.net_law.specs.Processors.{processor_view}
use Rattle.net_law.specs.Merges.{merge_view}
use Rattle.net_law.specs.Nets.{Net, NetStands, EachPair, parser_at, grouper_at, processor_at, lists_of}
use Rattle.net_law.specs.Steps.{AreLooked}
use Rattle.net_law.specs.Turned.{IsAlike, ParserTurns, GrouperTurns, ProcessorTurns, MergeTurns}

abbrev pub view : Net → Nodes
view net = record {
  parsers = map parser_view net.parsers;
  groupers = map grouper_view net.groupers;
  processors = map processor_view net.processors;
  merge = merge_view net.merge;
}

-- no node has met a fault
pub record NoneHasFault (net : Net) : Type 0 where
  pub parsers : (p : ℕ) → p < net.shape.parsers → (parser_at net p).fault ≡ None
  pub groupers : (g : ℕ) → g < net.shape.groupers → (grouper_at net g).fault ≡ None
  pub processors : (q : ℕ) → q < net.shape.processors → (processor_at net q).fault ≡ None
  pub merge : net.merge.fault ≡ None

abbrev pub captures_of : Net → ℕ
captures_of net = length net.job.captures

-- then it is sound
abbrev pub ViewIsSound : Type 0
ViewIsSound = (net : Net) → NetStands net → NoneHasFault net → IsSound net.credits (view net)

abbrev pub ViewIsLimited : Type 0
ViewIsLimited = (net : Net) → NetStands net → IsInLimits (captures_of net) (view net) × IsLimited (captures_of net) (view net)

-- and after a look joined
abbrev pub ViewIsJoined : Type 0
ViewIsJoined = (net : Net) → NetStands net → EachPair (AreLooked net.credits) net → EachLink (AreJoined net.credits) (view net)

-- ---- turns

-- what a round knows of a turn by its answer
abbrev pub RowOf : (credits : ℕ) → Turn → Node → Node → Type 0
RowOf credits Moved = Moves
RowOf credits Idle = Rests credits
RowOf credits Done = Rests credits

-- a turn of any node, with what it says and tells, is a turn of a round
pub record TurnsAreTurns (before after : Net) (turn : Turn) : Type 0 where
  pub parser : (p : ℕ) → p < before.shape.parsers → ParserTurns p before after
      → TurnSays (parser_at before p).credits (parser_view (parser_at before p)) (parser_view (parser_at after p)) turn
      → TurnTells (parser_view (parser_at before p)) (parser_view (parser_at after p)) turn
      → IsTurn (RowOf before.credits turn) p (view before) (view after)
  pub grouper : (g : ℕ) → g < before.shape.groupers → (t : GrouperTurns g before after)
      → TurnSays (grouper_at before g).credits (grouper_view (grouper_at before g)) (grouper_view t.turned) turn
      → TurnTells (grouper_view (grouper_at before g)) (grouper_view t.turned) turn
      → IsTurn (RowOf before.credits turn) (before.shape.parsers + g) (view before) (view after)
  pub processor : (q : ℕ) → q < before.shape.processors → (t : ProcessorTurns q before after)
      → TurnSays (processor_at before q).credits (processor_view (processor_at before q)) (processor_view t.turned) turn
      → TurnTells (processor_view (processor_at before q)) (processor_view t.turned) turn
      → IsTurn (RowOf before.credits turn) (before.shape.parsers + before.shape.groupers + q) (view before) (view after)
  pub merge : (t : MergeTurns before after)
      → TurnSays before.merge.credits (merge_view before.merge) (merge_view t.turned) turn
      → TurnTells (merge_view before.merge) (merge_view t.turned) turn
      → IsTurn (RowOf before.credits turn) (before.shape.parsers + before.shape.groupers + before.shape.processors) (view before) (view after)

abbrev pub TurnsMakeRounds : Type 0
TurnsMakeRounds = (before after : Net) (turn : Turn) → NetStands before → NetStands after → NoneHasFault after → TurnsAreTurns before after turn

-- ---- the end

-- where all nodes are done, so is the run
abbrev pub DoneNodesAreDone : Type 0
DoneNodesAreDone = (net : Net) (start : List ℕ) → NetStands net → NoneHasFault net → EachNode IsDone (view net)
    → AreDone net.job net.shape start (lists_of net start)

-- a round that began with a look, and in which each node was idle or done
pub record IsStill (before after : Net) : Type 0 where
  pub stands : NetStands before
  pub quiet : NoneHasFault before
  pub looked : EachPair (AreLooked before.credits) before
  pub alike : IsAlike before after
  pub stands_after : NetStands after
  pub quiet_after : NoneHasFault after
  pub rests : (place : Place) → IsIn (view before) place → Rests before.credits (node_of (view before) place) (node_of (view after) place)

-- then the run is done, and was before it
abbrev pub StillIsDone : Type 0
StillIsDone = (before after : Net) (start : List ℕ) → IsStill before after
    → AreDone before.job before.shape start (lists_of before start) × AreDone after.job after.shape start (lists_of after start)
