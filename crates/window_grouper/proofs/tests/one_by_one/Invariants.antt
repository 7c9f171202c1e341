-- Each turn gives one group out.
use Rattle.std.proofs.Common.{length}
use Rattle.window_grouper.proofs.tests.one_by_one.Given as goal

abbrev pub decreases-loop-group : goal.decreases-loop-group
decreases-loop-group l = length l.held.held

abbrev pub decreases-loop-group-2 : goal.decreases-loop-group-2
decreases-loop-group-2 l = length l.held.held
