use Rattle.std.proofs.Common.{◌≡◌, ◌++◌, drop}
use Rattle.central_report.specs.Report.{row_texts}
use Rattle.central_report.proofs.closing.push_rows.Given as goal

-- what was put and what is left are together all lines
abbrev pub invariant-loop-i : goal.invariant-loop-i
invariant-loop-i l =
    l.text.items ++ row_texts l.job.names.captures.items (drop l.i l.profile) ≡ l.fn.text.items ++ row_texts l.job.names.captures.items l.profile
