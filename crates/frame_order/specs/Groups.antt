-- What is kept of the frames from a grouper to a processor.
use Rattle.std.specs.Prelude.{ℕ, ◌≡◌, ◌<◌, ◌≤◌, ◌+◌, ◌↔◌, Bool, true, false, List, Option, Some, None, length}
use Rattle.std.specs.List.{AllByRecursion, list_any}
use Rattle.ds_base.specs.Keys.{key_of}
use Rattle.ds_base.specs.Order.{Precedes}
use Rattle.ds_base.specs.declared.stamp.Stamp.{Stamp}
use Rattle.node_frames.specs.declared.frame.Frame.{Frame}
use Rattle.node_frames.specs.declared.frame.Frame.TheVariants.{GroupHead}
use Rattle.summary_spec.specs.Declaration.{Declared}
use Rattle.run_law.specs.Links.{IsStampOf, IsNextStamp, members_announced}
use Rattle.run_law.specs.Sent.{Begun, begun_in}
use Rattle.frame_order.specs.Said.{greatest, group_mark_of, is_profile, is_finish}
use Rattle.frame_order.specs.declared.open_group.OpenGroup.{OpenGroup}

-- the next member's stamp is the head's for the first, and behind the last member's for any other
abbrev pub IsNextOf : (fresh : Bool) → (first last at : Stamp) → Type 0
IsNextOf true first last at = at ≡ first
IsNextOf false first last at = Precedes last at

abbrev pub IsNext : OpenGroup → Stamp → Type 0
IsNext g at = IsNextOf g.fresh g.first g.last at

-- this can be the next member of the group
pub record Joins (job : Declared) (g : OpenGroup) (at : Stamp) (vals : List ℕ) : Type 0 where
  pub some : 0 < g.left
  pub stamp : IsStampOf job at
  pub next : IsNext g at
  pub within : at.time ≤ g.first.time + job.window
  pub values : length vals ≡ length job.vars
  pub key : g.key ≡ key_of job.key vals

-- the group is the one that is begun
pub record IsOpen (g : OpenGroup) (b : Begun) : Type 0 where
  pub some : 1 ≤ g.left
  pub left : b.left ≡ g.left
  pub first : b.first ≡ g.first
  pub key : b.key ≡ g.key
  pub next : (at : Stamp) → IsNext g at ↔ IsNextStamp b.first b.members at

-- it is the one that is begun, or none is
abbrev pub IsGroup : OpenGroup → Option Begun → Type 0
IsGroup g None = g.left ≡ 0
IsGroup g (Some b) = IsOpen g b

-- the frame is no head, or one before this stamp
abbrev pub IsAfterHead : Stamp → Frame → Type 0
IsAfterHead at (GroupHead first members key) = Precedes first at
IsAfterHead at _ = Unit {0}

-- the stamp is behind the last head's, where there is one
abbrev pub IsAfter : Option Stamp → Stamp → Type 0
IsAfter None at = Unit {0}
IsAfter (Some last) at = Precedes last at

-- a group is begun, and its next member may have this stamp
abbrev pub IsNextIn : Option Begun → Stamp → Type 0
IsNextIn None at = ⊥
IsNextIn (Some b) at = IsNextStamp b.first b.members at

-- the group that was begun last, the last head's stamp, the members announced, the last mark, and whether the link has ended
pub record KeepsGroups (g : OpenGroup) (head : Option Stamp) (announced mark : ℕ) (finished : Bool) (frames : List Frame) : Type 0 where
  pub group : IsGroup g (begun_in frames)
  pub heads : (at : Stamp) → IsAfter head at ↔ AllByRecursion (IsAfterHead at) frames
  pub count : announced ≡ members_announced frames
  pub last_mark : mark ≡ greatest group_mark_of frames
  pub plain : list_any is_profile frames ≡ false
  pub finish : finished ≡ list_any is_finish frames

-- no frame before forbids this head
pub record HeadFits (frames : List Frame) (first : Stamp) : Type 0 where
  pub going : list_any is_finish frames ≡ false
  pub marked : greatest group_mark_of frames ≤ first.time
  pub rising : AllByRecursion (IsAfterHead first) frames

-- no frame before forbids this GroupMark
pub record GroupMarkFits (frames : List Frame) (mark : ℕ) : Type 0 where
  pub going : list_any is_finish frames ≡ false
  pub plain : list_any is_profile frames ≡ false
  pub rising : greatest group_mark_of frames ≤ mark
