-- The group that is being sent to a processor.
use Rattle.std.specs.Prelude.{ℕ, ◌≡◌, ◌+◌, ◌-◌, ◌%◌, ◌==◌, Bool, true, false, List, [], ◌∷◌, Option, Some, None, length, take, slice_get, if◌then◌else◌}
use Rattle.ds_base.specs.Copies.{Copies}
use Rattle.ds_base.specs.declared.summary.Summary.{Summary}
use Rattle.node_frames.specs.declared.frame.Frame.{Frame}
use Rattle.node_frames.specs.declared.frame.Frame.TheVariants.{GroupHead, Member}
use Rattle.run_law.specs.Nodes.{first_member}
use Rattle.run_law.specs.Sent.{Begun}

-- a group of which the head was put, and how many of its members were
pub record Outgoing : Type 0 where
  pub group : Copies
  pub next : ℕ

-- the group with no member put
abbrev pub whole_outgoing : Copies → Outgoing
whole_outgoing x = record { group = x; next = 0 }

-- no group
abbrev pub no_outgoing : Outgoing
no_outgoing = whole_outgoing (record { key = []; members = [] })

-- one member more was put
abbrev pub one_further : Outgoing → Outgoing
one_further o = record { group = o.group; next = o.next + 1 }

-- the group, where members are still to be put
abbrev pub still_going : Outgoing → Option Outgoing
still_going o = if o.next == length o.group.members then None else Some o

-- the group as a list of groups
abbrev pub going_groups : Option Outgoing → List Copies
going_groups None = []
going_groups (Some o) = o.group ∷ []

-- what came of it on its link
abbrev pub begun_of : Outgoing → Begun
begun_of o = record {
  first = (first_member o.group.members).at;
  key = o.group.key;
  members = take o.next o.group.members;
  left = length o.group.members - o.next;
}

-- what is begun on link q, where the group goes to the processor `turn`
abbrev pub begun_on : (q turn : ℕ) → Option Outgoing → Option Begun
begun_on q turn None = None
begun_on q turn (Some o) = if q == turn then Some (begun_of o) else None

-- in how many frames it came so far
abbrev pub frames_going : Option Outgoing → ℕ
frames_going None = 0
frames_going (Some o) = o.next + 1

-- how many of its members are still to be put
abbrev pub members_left : Outgoing → ℕ
members_left o = length o.group.members - o.next

-- the processor whose turn it is, of so many, once the group before was sent whole or not
abbrev pub turn_after : (processors turn : ℕ) → (whole : Bool) → ℕ
turn_after processors turn true = (turn + 1) % processors
turn_after processors turn false = turn

-- ---- frames

abbrev pub head_of : Copies → Frame
head_of x = GroupHead (first_member x.members).at (length x.members) x.key

abbrev pub member_of : Summary → Frame
member_of m = Member m.at m.vals

-- the frame of the next member
pub record IsNextMember (o : Outgoing) (frame : Frame) : Type 0 where
  pub member : Summary
  pub there : slice_get o.group.members o.next ≡ Some member
  pub is : frame ≡ member_of member
