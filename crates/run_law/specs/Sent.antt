-- What the frames of a link have said: the summaries, groups, answers and rows that came in them, and the times
-- of what is still to come.
use Rattle.std.specs.Prelude.{ℕ, ◌-◌, ◌==◌, List, [], ◌∷◌, ◌++◌, Option, Some, None, if◌then◌else◌}
use Rattle.std.specs.List.{AllByRecursion, flat_map}
use Rattle.ds_base.specs.Copies.{Copies}
use Rattle.ds_base.specs.declared.capture.Counts.{Counts}
use Rattle.ds_base.specs.declared.profile_row.ProfileRow.{ProfileRow}
use Rattle.ds_base.specs.declared.stamp.Stamp.{Stamp}
use Rattle.ds_base.specs.declared.summary.Summary.{Summary}
use Rattle.ds_base.specs.declared.verdict.Answer.{Answer}
use Rattle.node_frames.specs.declared.frame.Frame.{Frame}
use Rattle.node_frames.specs.declared.frame.Frame.TheVariants.{Item, Mark, CaptureEnd, GroupHead, Member, GroupMark, AnswerRow, Profile, CountsRow, Finish}
use Rattle.watermarks.specs.Least.{Allows}

-- ---- what came

abbrev pub item_in : Frame → List Summary
item_in (Item s) = s ∷ []
item_in _ = []

-- the summaries
abbrev pub items_in : List Frame → List Summary
items_in frames = flat_map item_in frames

abbrev pub answer_in : Frame → List Answer
answer_in (AnswerRow a) = a ∷ []
answer_in _ = []

-- the answers
abbrev pub answers_in : List Frame → List Answer
answers_in frames = flat_map answer_in frames

abbrev pub row_in : Frame → List ProfileRow
row_in (Profile row) = row ∷ []
row_in _ = []

-- the rows of the profile
abbrev pub rows_in : List Frame → List ProfileRow
rows_in frames = flat_map row_in frames

-- how the records of a capture fared, where its row came
abbrev pub counts_in : (capture : ℕ) → List Frame → Option Counts
counts_in capture [] = None
counts_in capture (CountsRow c counts ∷ frames) = if c == capture then Some counts else counts_in capture frames
counts_in capture (_ ∷ frames) = counts_in capture frames

-- ---- groups, each of which comes in several frames

-- a group of which the head came: its first stamp, its key, the members that came, and how many are still to come
pub record Begun : Type 0 where
  pub first : Stamp
  pub key : List ℕ
  pub members : List Summary
  pub left : ℕ

-- one member more
abbrev pub with_member : Stamp → List ℕ → Begun → Begun
with_member at vals b = record {
  first = b.first;
  key = b.key;
  members = b.members ++ record { at = at; key = b.key; vals = vals } ∷ [];
  left = b.left - 1;
}

-- the group that is not whole after a member came, if there is one
abbrev pub still_begun : Begun → Option Begun
still_begun b = if b.left == 0 then None else Some b

-- the group that became whole with a member, if it did
abbrev pub made_whole : Begun → List Copies
made_whole b = if b.left == 0 then record { key = b.key; members = b.members } ∷ [] else []

-- the group that is not whole after a frame
abbrev pub begun_after : Option Begun → Frame → Option Begun
begun_after begun (GroupHead first members key) = Some (record { first = first; key = key; members = []; left = members })
begun_after (Some b) (Member at vals) = still_begun (with_member at vals b)
begun_after begun _ = begun

-- the group that became whole with a frame
abbrev pub whole_with : Option Begun → Frame → List Copies
whole_with (Some b) (Member at vals) = made_whole (with_member at vals b)
whole_with begun _ = []

-- the group that is not whole after frames
abbrev pub begun_behind : Option Begun → List Frame → Option Begun
begun_behind begun [] = begun
begun_behind begun (frame ∷ frames) = begun_behind (begun_after begun frame) frames

-- the groups that became whole with frames
abbrev pub groups_behind : Option Begun → List Frame → List Copies
groups_behind begun [] = []
groups_behind begun (frame ∷ frames) = whole_with begun frame ++ groups_behind (begun_after begun frame) frames

-- the whole groups
abbrev pub groups_in : List Frame → List Copies
groups_in frames = groups_behind None frames

-- the group of which some frames came, and not the last one
abbrev pub begun_in : List Frame → Option Begun
begun_in frames = begun_behind None frames

-- ---- what is still to come

-- what a frame says of the times to come: nothing, or that there are none below a mark, or, with no mark, that
-- there are none at all
abbrev pub Saying : Type 0
Saying = Option (Option ℕ)

-- of the summaries of a capture
abbrev pub of_items : (capture : ℕ) → Frame → Saying
of_items capture (Mark c mark) = if c == capture then Some (Some mark) else None
of_items capture (CaptureEnd c) = if c == capture then Some None else None
of_items capture Finish = Some None
of_items capture _ = None

-- of the first members of groups and answers
abbrev pub of_firsts : Frame → Saying
of_firsts (GroupMark mark) = Some (Some mark)
of_firsts Finish = Some None
of_firsts _ = None

-- the time may still come, as far as this says
abbrev pub MayCome : Saying → ℕ → Type 0
MayCome None time = Unit {0}
MayCome (Some bound) time = Allows bound time

-- the time may still come, as far as all these frames say
abbrev pub IsLeftOpen : (Frame → Saying) → List Frame → ℕ → Type 0
IsLeftOpen says frames time = AllByRecursion (λ frame. MayCome (says frame) time) frames

-- the bound after one saying more
abbrev pub bound_after : Option ℕ → Saying → Option ℕ
bound_after None saying = None
bound_after (Some mark) None = Some mark
bound_after (Some mark) (Some bound) = bound

abbrev pub bound_behind : (Frame → Saying) → Option ℕ → List Frame → Option ℕ
bound_behind says bound [] = bound
bound_behind says bound (frame ∷ frames) = bound_behind says (bound_after bound (says frame)) frames

-- the last mark, 0 where there is none yet, and no mark once nothing comes any more
abbrev pub bound_in : (Frame → Saying) → List Frame → Option ℕ
bound_in says frames = bound_behind says (Some 0) frames
