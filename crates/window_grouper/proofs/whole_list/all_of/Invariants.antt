-- The groups that were taken and those that are still held are all that were held.
use Rattle.std.proofs.Common.{◌≡◌, ◌++◌, length, map}
use Rattle.ds_base.specs.Copies.{copies_of}
use Rattle.window_grouper.proofs.whole_list.all_of.Given as goal

abbrev pub invariant-loop-group : goal.invariant-loop-group
invariant-loop-group l = map copies_of l.groups.items ++ l.placed.held ≡ l.initial.placed.held

abbrev pub decreases-loop-group : goal.decreases-loop-group
decreases-loop-group l = length l.placed.held
