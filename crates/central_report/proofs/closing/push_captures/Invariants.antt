use Rattle.std.proofs.Common.{◌≡◌, ◌++◌, drop}
use Rattle.central_report.specs.Report.{capture_texts}
use Rattle.central_report.proofs.closing.push_captures.Given as goal

-- what was put and what is left are together all lines
abbrev pub invariant-loop-capture : goal.invariant-loop-capture
invariant-loop-capture l =
    l.text.items ++ capture_texts l.job.names.captures.items l.capture (drop l.capture l.counts.items)
    ≡ l.fn.text.items ++ capture_texts l.job.names.captures.items 0 l.counts.items
