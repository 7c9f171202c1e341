-- What the steps of a turn do to a grouper's work.
use Rattle.std.specs.Prelude.{ℕ, ◌≡◌, ◌<◌, ◌≤◌, ◌+◌, ◌-◌, ◌⊎◌, Bool, true, false, List, [], ◌∷◌, ◌++◌, Option, None, Some, length, slice_index_or, slice_set}
use Rattle.node_frames.specs.declared.frame.Frame.{Frame}
use Rattle.credit_link.specs.Ends.{TxSeen, RxSeen, RxStands}
use Rattle.credit_link.specs.Ahead.{IsPart}
use Rattle.credit_link.specs.Frames.{capped, bytes_of_all, has_finish}
use Rattle.credit_link.specs.declared.link_bad.LinkBad.TheVariants.{Order}
use Rattle.credit_link.specs.declared.turn.NodeFault.{NodeFault}
use Rattle.credit_link.specs.declared.turn.NodeFault.TheVariants.{Link, OutOfMemory}
use Rattle.credit_link.specs.declared.turn.Turn.{Turn}
use Rattle.credit_link.specs.declared.turn.Turn.TheVariants.{Moved, Idle, Done}
use Rattle.shuffle_poll.specs.Shuffles.{ShuffleSeen, ShuffleHolds}
use Rattle.round_law.specs.Rows.{moved}
use Rattle.round_law.specs.Waits.{Node}
use Rattle.run_law.specs.Links.{MayFollow, ItemRule}
use Rattle.run_law.specs.Shapes.{IsFront}
use Rattle.node_lanes.specs.Ends.{EndsTell, InsStand, InsGo, OutsGo}
use Rattle.node_lanes.specs.Passes.{InsAreCalm, OutsAreCalm, InsPass, OutsRest}
use Rattle.node_lanes.specs.Pulling.{ChangesLink, TakesFrame}
use Rattle.node_lanes.specs.Resting.{NoneHeld, HasTakenEach, IsSettledEach, SomeToTake, SomeToSettle, HasRested}
use Rattle.grouper_state.specs.States.{state_is, taken_on, taken_more, IsAtRest, due_count}
use Rattle.grouper_state.specs.declared.due_frame.Due.{Due}
use Rattle.grouper_state.specs.declared.due_frame.Due.TheVariants.{To, All}
use Rattle.net_law.specs.Groupers.{GrouperStands, GrouperMeets, grouper_view}
use Rattle.grouper_node.specs.Works.{WorkSeen, grouper_of, shape_in, taken_off, puts_of, IsSound, PutsFew, AreEmpty}

-- the grouper as the laws of rounds see it
abbrev pub work_view : WorkSeen → Node
work_view w = grouper_view (grouper_of w None)

pub record WorkGoes (before after : WorkSeen) : Type 0 where
  pub same : (after.job ≡ before.job) × (after.me ≡ before.me) × (after.groupers ≡ before.groupers) × (after.credits ≡ before.credits)
  pub ins : InsGo before.ins after.ins
  pub outs : OutsGo before.outs after.outs

-- a step without a fault
pub record Steps (before after : WorkSeen) : Type 0 where
  pub sound : IsSound after
  pub goes : WorkGoes before after
  pub calm : InsAreCalm before.ins after.ins × OutsAreCalm before.outs after.outs
  pub no_less : EndsTell before.ins before.outs.links → moved (work_view before) ≤ moved (work_view after)

-- in which something moved, or a frame was taken
abbrev pub Rises : (before after : WorkSeen) → Type 0
Rises before after = EndsTell before.ins before.outs.links → moved (work_view before) < moved (work_view after)

-- a step that met a fault
pub record Fails (before after : WorkSeen) (bad : NodeFault) : Type 0 where
  pub goes : WorkGoes before after
  pub stands : GrouperStands (grouper_of after (Some bad))
  pub few : PutsFew after
  pub meets : GrouperMeets (grouper_of before None) (grouper_of after (Some bad)) bad

-- the one or the other, by whether something moved
abbrev pub ByMoved : Bool → Type 0 → Type 0 → Type 0
ByMoved true Moves Rests = Moves
ByMoved false Moves Rests = Rests

-- the links in were pumped
pub record Pumps (went : Bool) (before after : WorkSeen) : Type 0 where
  pub steps : Steps before after
  pub outs : after.outs ≡ before.outs
  pub passes : ByMoved went (Rises before after) (InsPass false before.ins after.ins)

-- the links out were polled
pub record Polls (went : Bool) (before after : WorkSeen) : Type 0 where
  pub steps : Steps before after
  pub ins : after.ins ≡ before.ins
  pub state : after.state ≡ before.state
  pub passes : ByMoved went (Rises before after) (OutsRest before.outs after.outs)

-- a frame that was due was put, and fewer are due; or none was due
pub record PutsOne (before after : WorkSeen) : Type 0 where
  pub links : after.outs.links ≡ before.outs.links
  pub less : due_count after.state < due_count before.state

pub record PutsNone (before after : WorkSeen) : Type 0 where
  pub outs : after.outs ≡ before.outs
  pub rests : IsAtRest after.state

pub record PutsDue (put : Bool) (before after : WorkSeen) : Type 0 where
  pub steps : Steps before after
  pub ins : after.ins ≡ before.ins
  pub due : ByMoved put (PutsOne before after) (PutsNone before after)

-- the links out were polled, and frames that were due were put
pub record SendsSoFar (went : Bool) (before after : WorkSeen) : Type 0 where
  pub steps : Steps before after
  pub ins : after.ins ≡ before.ins
  pub passes : ByMoved went (Rises before after) (OutsRest before.outs after.outs)

-- until a frame waits or none is due
pub record Sends (went : Bool) (before after : WorkSeen) : Type 0 where
  pub far : SendsSoFar went before after
  pub due : NoneHeld after.outs → IsAtRest after.state

-- the shuffle with a frame put on it, or with none
pub record ShuffleGoes (before after : ShuffleSeen) : Type 0 where
  pub links : after.links ≡ before.links
  pub queues : (k : ℕ) → IsFront (slice_index_or before.queues k []) (slice_index_or after.queues k [])
  pub holds : ShuffleHolds after.links after.queues

-- the links that the frame is for are there, and have no end yet
abbrev pub IsOpenFor : (puts : List (List Frame)) → Due → Type 0
IsOpenFor puts (To q frame) = (q < length puts) × (has_finish (taken_on puts q) ≡ false)
IsOpenFor puts (All frame) = (q : ℕ) → q < length puts → has_finish (taken_on puts q) ≡ false

-- ---- a frame

-- a frame was pulled off link j in, and is neither noted nor granted yet
pub record HasPulled (before after : WorkSeen) (j : ℕ) (frame : Frame) : Type 0 where
  pub changes : ChangesLink before.ins after.ins j
  pub takes : (d : RxSeen) → TakesFrame (slice_index_or before.ins j d) (slice_index_or after.ins j d) frame
  pub goes : InsGo before.ins after.ins
  pub stand : (credits : ℕ) → InsStand credits before.ins → InsStand credits after.ins
  pub rest : after ≡ record before { ins = after.ins }

-- a pull: the next frame, or no whole frame is in the box
abbrev pub Pulls : Option Frame → (j : ℕ) (before after : WorkSeen) → Type 0
Pulls None j before after = (after ≡ before) × ((d : RxSeen) → IsPart (slice_index_or before.ins j d).box)
Pulls (Some frame) j before after = HasPulled before after j frame

-- a frame of link j in was granted
pub record Grants (before after : WorkSeen) (j : ℕ) : Type 0 where
  pub changes : ChangesLink before.ins after.ins j
  pub grants : (d : RxSeen) → slice_index_or after.ins j d ≡ record (slice_index_or before.ins j d) { owed = capped ((slice_index_or before.ins j d).owed + 1); ungranted = (slice_index_or before.ins j d).ungranted - 1 }
  pub goes : InsGo before.ins after.ins
  pub stand : (credits : ℕ) → InsStand credits before.ins → InsStand credits after.ins
  pub rest : after ≡ record before { ins = after.ins }

-- the state stands for what was noted, to which the frame pulled off link j is still to be added
pub record HoldsNoted (w : WorkSeen) (j : ℕ) (frame : Frame) : Type 0 where
  pub groupers : 0 < w.groupers
  pub few : length w.ins ≤ 16
  pub there : (j < length w.ins) × (j < length w.orders)
  pub last : taken_on (taken_off w.ins) j ≡ taken_on w.orders j ++ frame ∷ []
  pub state : state_is w.job (shape_in w) w.me w.orders (puts_of w.outs) w.state

-- a frame of link j in was noted, and taken up in the state
pub record TakesUp (before after : WorkSeen) (j : ℕ) (frame : Frame) : Type 0 where
  pub rest : after ≡ record before { orders = after.orders; state = after.state }
  pub orders : after.orders ≡ taken_more before.orders j frame
  pub state : state_is before.job (shape_in before) before.me after.orders (puts_of before.outs) after.state

-- why it was not: it may not stand there, or there was no memory
abbrev pub IsRefused : (before : WorkSeen) (j : ℕ) (frame : Frame) → NodeFault → Type 0
IsRefused before j frame (Link link bad) =
    (link ≡ j) × (bad ≡ Order (capped (length (bytes_of_all (taken_on before.orders j))))) × ¬ MayFollow (ItemRule before.job (shape_in before) j before.me) (taken_on before.orders j) frame
IsRefused before j frame OutOfMemory = MayFollow (ItemRule before.job (shape_in before) j before.me) (taken_on before.orders j) frame
IsRefused before j frame _ = ⊥

pub record Refuses (before after : WorkSeen) (j : ℕ) (frame : Frame) (bad : NodeFault) : Type 0 where
  pub rest : after ≡ record before { orders = after.orders; state = after.state }
  pub why : IsRefused before j frame bad

-- whether a frame was taken off link j in: none was where a frame waits, the link has ended, or no whole frame has come
abbrev pub Takes : Bool → (j : ℕ) (before after : WorkSeen) → Type 0
Takes true j before after = Steps before after × Rises before after
Takes false j before after =
    (after ≡ before) × (NoneHeld before.outs → (d : RxSeen) → has_finish (slice_index_or before.ins j d).given ≡ false → IsPart (slice_index_or before.ins j d).box)

-- of the first links in
abbrev pub TakesOff : Bool → (count : ℕ) (before after : WorkSeen) → Type 0
TakesOff true count before after = Steps before after × Rises before after
TakesOff false count before after = (after ≡ before) × (NoneHeld before.outs → AreEmpty count before.ins)

-- ---- a pass, and a turn

-- a pass in which nothing moved and no frame was taken
pub record Rested (before after : WorkSeen) : Type 0 where
  pub rested : HasRested before.credits before.ins after.ins before.outs after.outs
  pub due : NoneHeld after.outs → IsAtRest after.state

abbrev pub Passes : Bool → (before after : WorkSeen) → Type 0
Passes went before after = Steps before after × ByMoved went (Rises before after) (Rested before after)

-- what is left to do where nothing moved
abbrev pub IsRest : Turn → WorkSeen → Type 0
IsRest Moved w = ⊥
IsRest Idle w = SomeToTake w.ins ⊎ SomeToSettle w.outs
IsRest Done w = HasTakenEach w.ins × IsSettledEach w.outs

abbrev pub IfMoved : Turn → Type 0 → Type 0 → Type 0
IfMoved Moved Moves Rests = Moves
IfMoved Idle Moves Rests = Rests
IfMoved Done Moves Rests = Rests

pub record Turns (turn : Turn) (before after : WorkSeen) : Type 0 where
  pub steps : Steps before after
  pub by : IfMoved turn (Rises before after) (Rested before after × IsRest turn after)

-- ---- a look at the links

-- link j in was lent, and shown its rings
pub record LooksIn (before after : WorkSeen) (j : ℕ) : Type 0 where
  pub rest : after ≡ record before { ins = after.ins }
  pub changes : ChangesLink before.ins after.ins j
  pub stands : (d : RxSeen) → RxStands (slice_index_or after.ins j d)
  pub same : (d : RxSeen) → slice_index_or after.ins j d ≡ record (slice_index_or before.ins j d) { forth = (slice_index_or after.ins j d).forth; back = (slice_index_or after.ins j d).back }

-- link k out was lent, and shown its rings
pub record LooksOut (before after : WorkSeen) (k : ℕ) : Type 0 where
  pub rest : after ≡ record before { outs = after.outs }
  pub links : (d : TxSeen) → after.outs.links ≡ slice_set before.outs.links k (slice_index_or after.outs.links k d)
  pub queues : after.outs.queues ≡ before.outs.queues
  pub holds : ShuffleHolds after.outs.links after.outs.queues
  pub same : (d : TxSeen) → slice_index_or after.outs.links k d ≡ record (slice_index_or before.outs.links k d) { forth = (slice_index_or after.outs.links k d).forth; back = (slice_index_or after.outs.links k d).back }
