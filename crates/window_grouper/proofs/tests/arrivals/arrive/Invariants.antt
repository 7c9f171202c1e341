-- The grouper has the marks of eight captures.
use Rattle.std.proofs.Common.{◌≤◌, length}
use Rattle.window_grouper.proofs.tests.arrivals.arrive.Given as goal

abbrev pub invariant-turns : goal.invariant-turns
invariant-turns g l = 8 ≤ length l.grouper.marks
