use Rattle.std.proofs.Common.{length}
use Rattle.report_run.proofs.opening.+move_all.Given as goal

abbrev pub decreases-move_all : goal.decreases-move_all
decreases-move_all g l = length l.from.now.items
