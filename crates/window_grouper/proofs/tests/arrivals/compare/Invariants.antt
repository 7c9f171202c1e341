-- The grouper has the marks of eight captures.
use Rattle.std.proofs.Common.{◌≤◌, length}
use Rattle.window_grouper.proofs.tests.arrivals.compare.Given as goal

abbrev pub invariant-groups : goal.invariant-groups
invariant-groups g l = 8 ≤ length l.grouper.marks
