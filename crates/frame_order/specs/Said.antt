-- What the frames of a link leave behind: the greatest of the numbers that they tell, and what has ended.
use Rattle.std.specs.Prelude.{ℕ, ◌+◌, ◌==◌, Bool, true, false, List, [], ◌∷◌, max, if◌then◌else◌}
use Rattle.node_frames.specs.declared.frame.Frame.{Frame}
use Rattle.node_frames.specs.declared.frame.Frame.TheVariants.{Item, Mark, CaptureEnd, GroupMark, Profile, CountsRow, Finish}

-- the greatest of the numbers that frames tell, 0 where none tells of any
abbrev pub greatest : (Frame → ℕ) → List Frame → ℕ
greatest says [] = 0
greatest says (frame ∷ frames) = max (says frame) (greatest says frames)

-- the least number that an Item of the capture may have behind the frame
abbrev pub next_of : (capture : ℕ) → Frame → ℕ
next_of capture (Item s) = if s.at.capture == capture then s.at.number + 1 else 0
next_of capture _ = 0

-- the mark of the capture that the frame tells
abbrev pub mark_of : (capture : ℕ) → Frame → ℕ
mark_of capture (Mark c mark) = if c == capture then mark else 0
mark_of capture _ = 0

-- whether the frame is the capture's end
abbrev pub is_end_of : (capture : ℕ) → Frame → Bool
is_end_of capture (CaptureEnd c) = c == capture
is_end_of capture _ = false

-- whether the frame is the capture's row
abbrev pub is_row_of : (capture : ℕ) → Frame → Bool
is_row_of capture (CountsRow c counts) = c == capture
is_row_of capture _ = false

-- the mark of groups that the frame tells
abbrev pub group_mark_of : Frame → ℕ
group_mark_of (GroupMark mark) = mark
group_mark_of _ = 0

-- whether the frame is the link's end
abbrev pub is_finish : Frame → Bool
is_finish Finish = true
is_finish _ = false

-- whether the frame is a row of a profile
abbrev pub is_profile : Frame → Bool
is_profile (Profile row) = true
is_profile _ = false
