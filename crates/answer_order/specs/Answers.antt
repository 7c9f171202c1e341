-- What is kept of the frames from a processor to the merge.
use Rattle.std.specs.Prelude.{ℕ, ◌≡◌, ◌<◌, ◌⊎◌, ◌↔◌, Bool, false, List, Option, Some, None, is_some}
use Rattle.std.specs.List.{AllByRecursion, list_any}
use Rattle.ds_base.specs.declared.profile_row.ProfileRow.{ProfileRow}
use Rattle.node_frames.specs.declared.frame.Frame.{Frame}
use Rattle.node_frames.specs.declared.frame.Frame.TheVariants.{Profile}
use Rattle.profiles.specs.Rows.{PairPrecedes}
use Rattle.run_law.specs.Links.{members_answered}
use Rattle.frame_order.specs.Said.{greatest, group_mark_of, is_profile, is_finish}
use Rattle.answer_order.specs.declared.row_pair.RowPair.{RowPair}

-- the pair is before that of the row
abbrev pub IsBefore : RowPair → ProfileRow → Type 0
IsBefore last row = (last.from < row.from) ⊎ ((last.from ≡ row.from) × (last.to < row.to))

-- the row's pair is behind the last one, where there is one
abbrev pub IsAfter : Option RowPair → ProfileRow → Type 0
IsAfter None row = Unit {0}
IsAfter (Some last) row = IsBefore last row

-- the frame is no row, or one whose pair is before that of this row
abbrev pub IsAfterRow : ProfileRow → Frame → Type 0
IsAfterRow next (Profile row) = PairPrecedes row next
IsAfterRow next _ = Unit {0}

-- the members told, the last mark, the last row's pair, and whether the link has ended
pub record KeepsAnswers (told mark : ℕ) (last : Option RowPair) (finished : Bool) (frames : List Frame) : Type 0 where
  pub count : told ≡ members_answered frames
  pub last_mark : mark ≡ greatest group_mark_of frames
  pub rows : (next : ProfileRow) → IsAfter last next ↔ AllByRecursion (IsAfterRow next) frames
  pub came : is_some last ≡ list_any is_profile frames
  pub finish : finished ≡ list_any is_finish frames

-- no frame before forbids this row
pub record RowFits (frames : List Frame) (row : ProfileRow) : Type 0 where
  pub going : list_any is_finish frames ≡ false
  pub rising : AllByRecursion (IsAfterRow row) frames
