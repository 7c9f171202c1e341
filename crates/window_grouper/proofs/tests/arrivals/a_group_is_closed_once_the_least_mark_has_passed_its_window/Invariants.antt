-- The grouper has the marks of eight captures.
use Rattle.std.proofs.Common.{◌≤◌, length}
use Rattle.window_grouper.proofs.tests.arrivals.a_group_is_closed_once_the_least_mark_has_passed_its_window.Given as goal

abbrev pub invariant-loop-capture : goal.invariant-loop-capture
invariant-loop-capture g l = 8 ≤ length l.grouper.marks
