use Rattle.std.proofs.Common.{◌≡◌, ◌++◌, drop}
use Rattle.job_table.specs.Table.{skews_or}
use Rattle.job_table.proofs.clock_rows.skews.Given as goal

abbrev pub invariant-loop-i : goal.invariant-loop-i
invariant-loop-i l = l.list.items ++ skews_or l.skew (drop l.i l.own_skews.items) ≡ skews_or l.skew l.own_skews.items
