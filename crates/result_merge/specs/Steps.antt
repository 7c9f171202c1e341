-- What the steps of a turn do to the work of the merge.
use Rattle.std.specs.Prelude.{ℕ, ◌≡◌, ◌<◌, ◌≤◌, ◌+◌, ◌-◌, ◌⊎◌, Bool, true, false, IsTrue, List, [], ◌++◌, Option, None, Some, length, slice_index_or, take}
use Rattle.ds_base.specs.Outside.{SinkSeen, SinkStays}
use Rattle.node_frames.specs.declared.frame.Frame.{Frame}
use Rattle.credit_link.specs.Ends.{RxSeen, RxStands}
use Rattle.credit_link.specs.Ahead.{IsPart}
use Rattle.credit_link.specs.Frames.{capped, bytes_of_all, has_finish}
use Rattle.credit_link.specs.declared.link_bad.LinkBad.TheVariants.{Order}
use Rattle.credit_link.specs.declared.turn.NodeFault.{NodeFault}
use Rattle.credit_link.specs.declared.turn.NodeFault.TheVariants.{Link, OutOfMemory}
use Rattle.credit_link.specs.declared.turn.Turn.{Turn}
use Rattle.credit_link.specs.declared.turn.Turn.TheVariants.{Moved, Idle, Done}
use Rattle.summary_spec.specs.Declaration.{Declared}
use Rattle.round_law.specs.Rows.{moved}
use Rattle.round_law.specs.Waits.{Node}
use Rattle.run_law.specs.Links.{MayFollow, CountsRule, AnswerRule}
use Rattle.node_lanes.specs.Ends.{EndsTell, InsStand, InsGo}
use Rattle.node_lanes.specs.Passes.{InsAreCalm, InsPass}
use Rattle.node_lanes.specs.Pulling.{ChangesLink, TakesFrame}
use Rattle.node_lanes.specs.Resting.{HasTakenEach, SomeToTake}
use Rattle.net_law.specs.Merges.{MergeStands, MergeGoes, MergeMeets, MergeRests, merge_view}
use Rattle.result_merge.specs.Works.{WorkSeen, merge_of, noted, taken_off, taken_on, taken_more, shape_by, state_holds, rests_over, IsSound}

-- the merge as the laws of rounds see it
abbrev pub work_view : WorkSeen → Node
work_view w = merge_view (merge_of w None)

-- a step without a fault
pub record Steps (before after : WorkSeen) : Type 0 where
  pub sound : IsSound after
  pub goes : MergeGoes (merge_of before None) (merge_of after None)
  pub lent : after.lent ≡ before.lent
  pub calm : InsAreCalm before.ins after.ins
  pub no_less : EndsTell before.ins [] → moved (work_view before) ≤ moved (work_view after)

-- in which something moved, or a frame was taken
abbrev pub Rises : (before after : WorkSeen) → Type 0
Rises before after = EndsTell before.ins [] → moved (work_view before) < moved (work_view after)

-- a step that met a fault
pub record Fails (before after : WorkSeen) (bad : NodeFault) : Type 0 where
  pub goes : MergeGoes (merge_of before None) (merge_of after (Some bad))
  pub lent : after.lent ≡ before.lent
  pub stands : MergeStands (merge_of after (Some bad))
  pub meets : MergeMeets (merge_of before None) (merge_of after (Some bad)) bad

-- the one or the other, by whether something moved
abbrev pub ByMoved : Bool → Type 0 → Type 0 → Type 0
ByMoved true Moves Rests = Moves
ByMoved false Moves Rests = Rests

-- the links in were pumped
pub record Pumps (went : Bool) (before after : WorkSeen) : Type 0 where
  pub steps : Steps before after
  pub rest : after ≡ record before { ins = after.ins }
  pub passes : ByMoved went (Rises before after) (InsPass false before.ins after.ins)

-- ---- a frame

-- a frame was pulled off link j in, and is neither noted nor granted yet
pub record HasPulled (before after : WorkSeen) (j : ℕ) (frame : Frame) : Type 0 where
  pub changes : ChangesLink before.ins after.ins j
  pub takes : (d : RxSeen) → TakesFrame (slice_index_or before.ins j d) (slice_index_or after.ins j d) frame
  pub goes : InsGo before.ins after.ins
  pub stand : (credits : ℕ) → InsStand credits before.ins → InsStand credits after.ins
  pub rest : after ≡ record before { ins = after.ins }

-- a pull: the next frame, or no whole frame is in the box
abbrev pub Pulls : Option Frame → (j : ℕ) (before after : WorkSeen) → Type 0
Pulls None j before after = (after ≡ before) × ((d : RxSeen) → IsPart (slice_index_or before.ins j d).box)
Pulls (Some frame) j before after = HasPulled before after j frame

-- a frame of link j in was granted
pub record Grants (before after : WorkSeen) (j : ℕ) : Type 0 where
  pub changes : ChangesLink before.ins after.ins j
  pub grants : (d : RxSeen) → slice_index_or after.ins j d ≡ record (slice_index_or before.ins j d) { owed = capped ((slice_index_or before.ins j d).owed + 1); ungranted = (slice_index_or before.ins j d).ungranted - 1 }
  pub goes : InsGo before.ins after.ins
  pub stand : (credits : ℕ) → InsStand credits before.ins → InsStand credits after.ins
  pub rest : after ≡ record before { ins = after.ins }

-- the state stands for what was noted
pub record HoldsNoted (w : WorkSeen) : Type 0 where
  pub some : 1 ≤ w.parsers
  pub apart : length w.counts ≡ w.parsers
  pub each : length (noted w) ≡ length w.ins
  pub state : state_holds w.job w.parsers w.counts w.answers w.gained w.state

-- of so many links in, and behind these frames, the frame may stand next on link j, by the rule of a parser's or of a
-- processor's
pub record MayCome (job : Declared) (parsers links : ℕ) (taken : List (List Frame)) (j : ℕ) (frame : Frame) : Type 0 where
  pub counts : j < parsers → (groupers : ℕ) → MayFollow (CountsRule job (shape_by parsers links groupers) j) (taken_on taken j) frame
  pub answers : parsers ≤ j → MayFollow (AnswerRule job) (taken_on taken j) frame

-- it may not
abbrev pub MayNotCome : (job : Declared) (parsers links : ℕ) (taken : List (List Frame)) (j : ℕ) (frame : Frame) → Type 0
MayNotCome job parsers links taken j frame =
    ((j < parsers) × ((groupers : ℕ) → ¬ MayFollow (CountsRule job (shape_by parsers links groupers) j) (taken_on taken j) frame))
    ⊎ ((parsers ≤ j) × ¬ MayFollow (AnswerRule job) (taken_on taken j) frame)

-- a frame of link j in was noted and taken up
pub record TakesUp (before after : WorkSeen) (j : ℕ) (frame : Frame) : Type 0 where
  pub rest : after ≡ record before { counts = after.counts; answers = after.answers; state = after.state }
  pub apart : length after.counts ≡ before.parsers
  pub orders : noted after ≡ taken_more (noted before) j frame
  pub may : MayCome before.job before.parsers (length before.ins) (noted before) j frame
  pub state : state_holds before.job before.parsers after.counts after.answers before.gained after.state

-- why it was not: it may not stand there, or there was no memory
abbrev pub IsRefused : (before : WorkSeen) (j : ℕ) (frame : Frame) → NodeFault → Type 0
IsRefused before j frame (Link link bad) =
    (link ≡ j) × (bad ≡ Order (capped (length (bytes_of_all (taken_on (noted before) j))))) × MayNotCome before.job before.parsers (length before.ins) (noted before) j frame
IsRefused before j frame OutOfMemory = Unit {0}
IsRefused before j frame _ = ⊥

pub record Refuses (before after : WorkSeen) (j : ℕ) (frame : Frame) (bad : NodeFault) : Type 0 where
  pub rest : after ≡ record before { counts = after.counts; answers = after.answers; state = after.state }
  pub why : IsRefused before j frame bad

-- whether a frame was taken off link j in: none was where the link has ended, or no whole frame has come
abbrev pub Takes : Bool → (j : ℕ) (before after : WorkSeen) → Type 0
Takes true j before after = Steps before after × Rises before after
Takes false j before after = (after ≡ before) × ((d : RxSeen) → has_finish (slice_index_or before.ins j d).given ≡ false → IsPart (slice_index_or before.ins j d).box)

-- of the first links in, each that goes on has no whole frame in its box
abbrev pub AreEmpty : (count : ℕ) → List RxSeen → Type 0
AreEmpty count ins = (j : ℕ) (d : RxSeen) → j < count → has_finish (slice_index_or ins j d).given ≡ false → IsPart (slice_index_or ins j d).box

-- of the first links in
abbrev pub TakesOff : Bool → (count : ℕ) (before after : WorkSeen) → Type 0
TakesOff true count before after = Steps before after × Rises before after
TakesOff false count before after = (after ≡ before) × AreEmpty count before.ins

-- ---- lines

-- all lines that are due were pushed, and none of them is written yet
pub record PushesDue (before after : WorkSeen) (lines : List ℕ) : Type 0 where
  pub rest : after ≡ record before { state = after.state }
  pub state : state_holds before.job before.parsers before.counts before.answers (before.gained ++ lines) after.state
  pub all : rests_over before.job before.parsers (taken_off before.ins) (before.gained ++ lines)

-- a sink took some bytes off the front of a text, which were noted
pub record TakesFront (sink sink' : SinkSeen) (gained gained' text : List ℕ) : Type 0 where
  pub count : ℕ
  pub noted : gained' ≡ gained ++ take count text
  pub written : IsTrue sink.told → sink'.written ≡ sink.written ++ take count text

-- the text was written, or its front
pub record Writes (before after : WorkSeen) (text : List ℕ) : Type 0 where
  pub rest : after ≡ record before { sink = after.sink; gained = after.gained }
  pub stays : SinkStays before.sink after.sink
  pub front : TakesFront before.sink after.sink before.gained after.gained text

-- all lines that are due were written
pub record WritesDue (before after : WorkSeen) : Type 0 where
  pub steps : Steps before after
  pub rests : MergeRests (merge_of after None)

-- ---- a pass, and a turn

-- a pass in which nothing moved and no frame was taken
pub record Rested (before after : WorkSeen) : Type 0 where
  pub ins_rest : InsPass false before.ins after.ins
  pub empty : AreEmpty (length after.ins) after.ins
  pub rest : after ≡ record before { ins = after.ins }

abbrev pub Passes : Bool → (before after : WorkSeen) → Type 0
Passes went before after = Steps before after × ByMoved went (Rises before after) (Rested before after)

-- what is left to do where nothing moved
abbrev pub IsRest : Turn → WorkSeen → Type 0
IsRest Moved w = ⊥
IsRest Idle w = SomeToTake w.ins
IsRest Done w = HasTakenEach w.ins

abbrev pub IfMoved : Turn → Type 0 → Type 0 → Type 0
IfMoved Moved Moves Rests = Moves
IfMoved Idle Moves Rests = Rests
IfMoved Done Moves Rests = Rests

pub record Turns (turn : Turn) (before after : WorkSeen) : Type 0 where
  pub steps : Steps before after
  pub rests : MergeRests (merge_of after None)
  pub by : IfMoved turn (Rises before after) (Rested before after × IsRest turn after)

-- ---- a look at the links

-- link j in was lent, and shown its rings
pub record LooksIn (before after : WorkSeen) (j : ℕ) : Type 0 where
  pub rest : after ≡ record before { ins = after.ins }
  pub changes : ChangesLink before.ins after.ins j
  pub stands : (d : RxSeen) → RxStands (slice_index_or after.ins j d)
  pub same : (d : RxSeen) → slice_index_or after.ins j d ≡ record (slice_index_or before.ins j d) { forth = (slice_index_or after.ins j d).forth; back = (slice_index_or after.ins j d).back }
