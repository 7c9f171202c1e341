-- What a grouper keeps between frames: of what was taken on its links, and of what it has put.
use Rattle.std.specs.Prelude.{ℕ, ◌≡◌, ◌<◌, ◌+◌, ◌*◌, Bool, true, false, not, List, [], ◌∷◌, ◌++◌, Option, Some, None, length, map, slice_index_or, slice_set, sum_by}
use Rattle.node_frames.specs.declared.frame.Frame.{Frame}
use Rattle.summary_spec.specs.Declaration.{Declared}
use Rattle.summary_spec.specs.Lawful.{IsLawful}
use Rattle.watermarks.specs.Least.{least_mark}
use Rattle.window_grouper.specs.Groups.{members_in}
use Rattle.window_grouper.specs.Grouping.{Grouping, IsSettled}
use Rattle.run_law.specs.Links.{MayFollow, ItemRule}
use Rattle.run_law.specs.Shapes.{Shape}
use Rattle.grouper_state.specs.Outgoing.{Outgoing, still_going, members_left}
use Rattle.grouper_state.specs.Puts.{StateStands, one_if, is_mark_due, mark_of}
use Rattle.grouper_state.specs.declared.due_frame.Due.{Due}
use Rattle.grouper_state.specs.declared.due_frame.Due.TheVariants.{To, All}
use Rattle.grouper_state.specs.declared.state.GrouperState.{GrouperState}

-- the frames on link i
abbrev pub taken_on : List (List Frame) → ℕ → List Frame
taken_on taken i = slice_index_or taken i []

-- with one frame more on link i
abbrev pub taken_more : List (List Frame) → ℕ → Frame → List (List Frame)
taken_more taken i frame = slice_set taken i (taken_on taken i ++ frame ∷ [])

-- with one frame more on each link
abbrev pub put_all : Frame → List (List Frame) → List (List Frame)
put_all frame put = map (λ (frames : List Frame). frames ++ frame ∷ []) put

-- with the frame that is due
abbrev pub with_due : List (List Frame) → Option Due → List (List Frame)
with_due put None = put
with_due put (Some (To q frame)) = taken_more put q frame
with_due put (Some (All frame)) = put_all frame put

-- A state, of which contracts see the grouping, the group that is being sent, the processor whose turn it is, how many there
-- are, the last mark put, and whether the end was: it stands for what was taken on each link in and put on each link out.
pub record StateIs (job : Declared) (shape : Shape) (me : ℕ) (taken put : List (List Frame)) (g : Grouping) (o : Outgoing) (turn processors mark : ℕ) (finished : Bool) : Type 0 where
  pub job_is : IsLawful job
  pub links_in : length taken ≡ shape.parsers
  pub links_out : length put ≡ shape.processors
  pub processors_are : processors ≡ shape.processors
  pub some_in : 0 < shape.parsers
  pub some_out : 0 < shape.processors
  pub stands : StateStands job shape me (taken_on taken) (taken_on put) (sum_by length taken) g (still_going o) turn mark finished

abbrev pub state_is : (job : Declared) (shape : Shape) (me : ℕ) (taken put : List (List Frame)) → GrouperState → Type 0
state_is job shape me taken put s = StateIs job shape me taken put s.grouper s.going s.turn s.processors s.mark s.finished

-- the frame may stand next on link p
pub record MayTake (job : Declared) (shape : Shape) (me : ℕ) (taken : List (List Frame)) (p : ℕ) (frame : Frame) : Type 0 where
  pub there : p < shape.parsers
  pub may : MayFollow (ItemRule job shape p me) (taken_on taken p) frame

-- it may stand next on some link of what the state stands for
pub record CanTake (s : GrouperState) (frame : Frame) : Type 0 where
  pub job : Declared
  pub shape : Shape
  pub me : ℕ
  pub taken : List (List Frame)
  pub put : List (List Frame)
  pub link : ℕ
  pub is : state_is job shape me taken put s
  pub takes : MayTake job shape me taken link frame

-- the state stands for something
pub record CanPut (s : GrouperState) : Type 0 where
  pub job : Declared
  pub shape : Shape
  pub me : ℕ
  pub taken : List (List Frame)
  pub put : List (List Frame)
  pub is : state_is job shape me taken put s

-- how many frames may still be due before another is taken
abbrev pub due_count : GrouperState → ℕ
due_count s = 2 * (members_in s.grouper.held + length s.grouper.waiting) + members_left s.going
    + one_if (is_mark_due (mark_of s.grouper) s.mark) + one_if (not s.finished)

-- nothing is due: no group is being sent, none that is held is closed, the mark has not risen, and the end was put if all
-- captures have ended
pub record IsAtRest (s : GrouperState) : Type 0 where
  pub idle : still_going s.going ≡ None
  pub settled : IsSettled s.grouper
  pub marked : is_mark_due (mark_of s.grouper) s.mark ≡ false
  pub ended : least_mark s.grouper.marks ≡ None → s.finished ≡ true
