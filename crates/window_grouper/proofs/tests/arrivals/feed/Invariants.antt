-- The grouper has the marks of eight captures.
use Rattle.std.proofs.Common.{◌≤◌, length}
use Rattle.window_grouper.proofs.tests.arrivals.feed.Given as goal

abbrev pub invariant-loop-back : goal.invariant-loop-back
invariant-loop-back l = 8 ≤ length l.grouper.marks
