-- What a processor keeps between frames: of what was taken on its links, and of what it has put.
use Rattle.std.specs.Prelude.{ℕ, ◌≡◌, ◌<◌, ◌≤◌, ◌+◌, ◌*◌, Bool, true, false, nat_lt, List, [], ◌∷◌, ◌++◌, Option, Some, None, length, map, take, slice_index_or, slice_set, sum_by}
use Rattle.std.specs.List.{AllByRecursion}
use Rattle.central_report.specs.Progress.{AreRowsAmong}
use Rattle.credit_link.specs.Frames.{has_finish}
use Rattle.ds_base.specs.Copies.{Copies}
use Rattle.ds_base.specs.Fronts.{IsIn}
use Rattle.ds_base.specs.declared.profile_row.ProfileRow.{ProfileRow}
use Rattle.ds_base.specs.declared.verdict.Answer.{Answer}
use Rattle.node_frames.specs.declared.frame.Frame.{Frame}
use Rattle.node_frames.specs.declared.frame.Frame.TheVariants.{GroupMark, AnswerRow}
use Rattle.profiles.specs.Delays.{delays}
use Rattle.profiles.specs.Profile.{IsProfile}
use Rattle.profiles.specs.Put.{count_all}
use Rattle.summary_spec.specs.Declaration.{Declared}
use Rattle.summary_spec.specs.Lawful.{IsLawful}
use Rattle.window_grouper.specs.Groups.{members_in}
use Rattle.run_law.specs.Links.{MayFollow, AreLawfulGroups, AreLawfulAnswers, GroupRule, members_answered}
use Rattle.run_law.specs.Nodes.{answers_of, groups_arrived, least_of_links, IsAskedProfile}
use Rattle.run_law.specs.Sent.{Begun, still_begun, begun_in, answers_in, rows_in, groups_in, of_firsts, bound_in}
use Rattle.run_law.specs.Shapes.{with_number}
use Rattle.query_state.specs.Takings.{new_taking}
use Rattle.query_state.specs.declared.state.QueryState.{QueryState}

-- the groups that came whole over n links, in the order in which they were taken, each with the number of its link; and
-- the rows of their profile
pub record Arrives (job : Declared) (n : ℕ) (taken : ℕ → List Frame) (arrived : List (ℕ × Copies)) (rows : List ProfileRow) : Type 0 where
  pub lawful : (g : ℕ) → g < n → AreLawfulGroups job (taken g)
  pub of_links : AllByRecursion (λ e. e.0 < n) arrived
  pub from_links : (g : ℕ) → g < n → with_number g arrived ≡ groups_in (taken g)
  pub profile : IsAskedProfile job.profile (groups_arrived arrived) rows
  pub among : AreRowsAmong (length job.captures) rows

-- the least mark of the links that go on has risen above the last mark put
abbrev pub is_mark_due : (least : Option ℕ) → (mark : ℕ) → Bool
is_mark_due None mark = false
is_mark_due (Some least) mark = nat_lt mark least

abbrev pub one_if : Bool → ℕ
one_if true = 1
one_if false = 0

-- What was put: the answer of each group that arrived, marks of which the last is `mark`, the first `next` rows of the
-- profile, and the end where it has `finished`. `least` is the least mark of the links that go on, and `count` how
-- many frames were taken.
pub record Sends (job : Declared) (arrived : List (ℕ × Copies)) (least : Option ℕ) (count : ℕ) (put : List Frame) (rows : List ProfileRow) (mark next : ℕ) (finished : Bool) : Type 0 where
  pub lawful : AreLawfulAnswers job put
  pub answered : answers_in put ≡ answers_of job (groups_arrived arrived)
  pub counted : members_answered put ≡ members_in (groups_arrived arrived)
  pub rows_put : rows_in put ≡ take next rows
  pub within : next ≤ length rows
  pub told : (m : ℕ) → IsIn (GroupMark m) put → m ≤ mark
  pub low : (l : ℕ) → least ≡ Some l → mark ≤ l
  pub bound : finished ≡ false → bound_in of_firsts put ≡ Some mark
  pub begun_rows : 0 < next → least ≡ None
  pub over : finished ≡ true → (least ≡ None) × (next ≡ length rows)
  pub ends : has_finish put ≡ finished
  pub few : length put + one_if (is_mark_due least mark) ≤ 2 * count + next + one_if finished

pub record StateStands (job : Declared) (n count : ℕ) (taken : ℕ → List Frame) (put : List Frame) (rows : List ProfileRow) (mark next : ℕ) (finished : Bool) : Type 0 where
  pub arrived : List (ℕ × Copies)
  pub arrives : Arrives job n taken arrived rows
  pub sends : Sends job arrived (least_of_links n taken) count put rows mark next finished

-- one frame more was taken on link g, and none on the others
pub record TakesOne (taken more : ℕ → List Frame) (g : ℕ) (frame : Frame) : Type 0 where
  pub here : more g ≡ taken g ++ frame ∷ []
  pub others : (k : ℕ) → (k ≡ g → ⊥) → more k ≡ taken k

-- the rows of the profile with one group more, where the profile is asked for
abbrev pub AddsGroup : (profile : Bool) → Copies → (old new : List ProfileRow) → Type 0
AddsGroup false x old new = new ≡ old
AddsGroup true x old new =
    ((groups : List Copies) → IsProfile groups old → IsProfile (groups ++ x ∷ []) new) × (new ≡ count_all (delays x.members) old)

-- ---- the state

-- the frames taken on link g
abbrev pub taken_on : List (List Frame) → ℕ → List Frame
taken_on taken g = slice_index_or taken g []

-- with one frame more on link g
abbrev pub taken_more : List (List Frame) → ℕ → Frame → List (List Frame)
taken_more taken g frame = slice_set taken g (taken_on taken g ++ frame ∷ [])

-- A state, of which contracts see the groups being taken, the marks of the links, the rows of the profile, the last mark
-- put, how many rows were put, and whether the end was: it stands for what was taken on each link and what was put.
pub record StateIs (job : Declared) (taken : List (List Frame)) (put : List Frame) (lanes : List Begun) (marks : List (Option ℕ)) (rows : List ProfileRow) (mark next : ℕ) (finished : Bool) : Type 0 where
  pub job_is : IsLawful job
  pub few_links : length taken ≤ 16
  pub stands : StateStands job (length taken) (sum_by length taken) (taken_on taken) put rows mark next finished
  pub lane_each : length lanes ≡ length taken
  pub lanes_are : (g : ℕ) → g < length taken → still_begun (slice_index_or lanes g new_taking) ≡ begun_in (taken_on taken g)
  pub marks_are : marks ≡ map (bound_in of_firsts) taken
  pub few_rows : length rows ≤ 4096

abbrev pub state_is : (job : Declared) (taken : List (List Frame)) (put : List Frame) → QueryState → Type 0
state_is job taken put d = StateIs job taken put d.lanes.items d.marks d.profile d.mark d.next d.finished

-- the frame may stand next on link g
pub record MayTake (job : Declared) (taken : List (List Frame)) (g : ℕ) (frame : Frame) : Type 0 where
  pub there : g < length taken
  pub may : MayFollow (GroupRule job) (taken_on taken g) frame

-- it may stand next on a link of what the state stands for
pub record CanTake (job : Declared) (d : QueryState) (g : ℕ) (frame : Frame) : Type 0 where
  pub taken : List (List Frame)
  pub put : List Frame
  pub is : state_is job taken put d
  pub takes : MayTake job taken g frame

-- the answer that was made, as a frame
abbrev pub answer_frames : Option Answer → List Frame
answer_frames None = []
answer_frames (Some answer) = AnswerRow answer ∷ []
