use Rattle.std.proofs.Common.{length}
use Rattle.report_run.proofs.giving.+give_each.Given as goal

abbrev pub decreases-give_each : goal.decreases-give_each
decreases-give_each g l = length l.sources.now.items
