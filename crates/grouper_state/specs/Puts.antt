-- What a grouper has taken, and what it has put on each link.
use Rattle.std.specs.Prelude.{ℕ, ◌≡◌, ◌<◌, ◌≤◌, ◌+◌, ◌*◌, ◌%◌, Bool, true, false, nat_lt, List, ◌++◌, Option, Some, None, length, slice_index_or}
use Rattle.std.specs.List.{flat_map}
use Rattle.std.specs.List.Sorted.{IsPermutation}
use Rattle.credit_link.specs.Frames.{has_finish}
use Rattle.ds_base.specs.Copies.{Copies}
use Rattle.ds_base.specs.Fronts.{IsIn}
use Rattle.ds_base.specs.declared.stamp.Stamp.{Stamp}
use Rattle.ds_base.specs.declared.summary.Summary.{Summary}
use Rattle.node_frames.specs.declared.frame.Frame.{Frame}
use Rattle.node_frames.specs.declared.frame.Frame.TheVariants.{GroupHead, GroupMark}
use Rattle.summary_spec.specs.Declaration.{Declared}
use Rattle.watermarks.specs.Least.{least_mark}
use Rattle.window_grouper.specs.Groups.{members_in}
use Rattle.window_grouper.specs.Grouping.{Grouping, StandsFor, out_mark}
use Rattle.run_law.specs.Links.{AreLawfulItems, AreLawfulGroups, members_announced}
use Rattle.run_law.specs.Nodes.{below, first_member, GrouperKeeps}
use Rattle.run_law.specs.Sent.{items_in, groups_in, begun_in, of_items, of_firsts, bound_in}
use Rattle.run_law.specs.Shapes.{Shape, dealt}
use Rattle.grouper_state.specs.Outgoing.{Outgoing, going_groups, begun_on, frames_going}

-- the summaries that came on all links
abbrev pub came_in : Shape → (taken : ℕ → List Frame) → List Summary
came_in shape taken = flat_map (λ p. items_in (taken p)) (below shape.parsers)

-- What came on the links is lawful; its summaries were added to the grouper in some order, `given` are the groups that the
-- grouper gave out, and the marks are those of the links.
pub record Gathers (job : Declared) (shape : Shape) (me : ℕ) (taken : ℕ → List Frame) (g : Grouping) (given : List Copies) (added : List Summary) : Type 0 where
  pub lawful : (p : ℕ) → p < shape.parsers → AreLawfulItems job shape p me (taken p)
  pub same : IsPermutation added (came_in shape taken)
  pub stands : StandsFor g job.window added given
  pub marks_many : length g.marks ≡ length job.captures
  pub marks_are : (c : ℕ) → c < length job.captures → slice_index_or g.marks c None ≡ bound_in (of_items c) (taken (c % shape.parsers))

-- members are still to be put of the group that is being sent
abbrev pub HasMore : Option Outgoing → Type 0
HasMore None = Unit {0}
HasMore (Some o) = o.next < length o.group.members

-- the groups whose heads were put
abbrev pub heads_put : (done : List Copies) → Option Outgoing → List Copies
heads_put done going = done ++ going_groups going

-- one of the groups begins with this stamp
pub record IsLedBy (first : Stamp) (xs : List Copies) : Type 0 where
  pub group : Copies
  pub there : IsIn group xs
  pub is : first ≡ (first_member group.members).at

abbrev pub one_if : Bool → ℕ
one_if true = 1
one_if false = 0

-- What was put on link q: of the groups that were sent whole those that go there, of the group being sent what came so far
-- where it goes there, so many marks of which the last is `mark`, and the end where the state has finished.
pub record LinkHas (job : Declared) (processors me q : ℕ) (frames : List Frame) (done : List Copies) (going : Option Outgoing) (turn mark marks : ℕ) (finished : Bool) : Type 0 where
  pub lawful : AreLawfulGroups job frames
  pub groups : groups_in frames ≡ dealt processors me q done
  pub begun : begun_in frames ≡ begun_on q turn going
  pub heads : (first : Stamp) (members : ℕ) (key : List ℕ) → IsIn (GroupHead first members key) frames → IsLedBy first (heads_put done going)
  pub announced : members_announced frames ≤ members_in (heads_put done going)
  pub told : (m : ℕ) → IsIn (GroupMark m) frames → m ≤ mark
  pub last : 0 < mark → IsIn (GroupMark mark) frames
  pub bound : finished ≡ false → bound_in of_firsts frames ≡ Some mark
  pub ends : has_finish frames ≡ finished
  pub few : length frames ≤ 2 * members_in done + frames_going going + marks + one_if finished

-- the mark that may be put has risen above the last one put
abbrev pub is_mark_due : (out : Option ℕ) → (mark : ℕ) → Bool
is_mark_due None mark = false
is_mark_due (Some out) mark = nat_lt mark out

-- the mark that may be put
abbrev pub mark_of : Grouping → Option ℕ
mark_of g = out_mark (least_mark g.marks) g.window

-- A grouper that has taken `count` frames. The first of `done` went to the processor `me` modulo their number, and each other to
-- the one after.
pub record StateStands (job : Declared) (shape : Shape) (me : ℕ) (taken put : ℕ → List Frame) (count : ℕ) (g : Grouping) (going : Option Outgoing) (turn mark : ℕ) (finished : Bool) : Type 0 where
  pub done : List Copies
  pub added : List Summary
  pub marks : ℕ
  pub gathers : Gathers job shape me taken g (heads_put done going) added
  pub keeps : GrouperKeeps job shape me taken put
  pub links : (q : ℕ) → q < shape.processors → LinkHas job shape.processors me q (put q) done going turn mark marks finished
  pub turn_is : (me + length done) % shape.processors ≡ turn
  pub has_more : HasMore going
  pub over : finished ≡ true → going ≡ None
  pub few : marks + one_if (is_mark_due (mark_of g) mark) + length added ≤ count
