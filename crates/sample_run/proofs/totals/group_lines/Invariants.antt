use Rattle.std.proofs.Common.{◌≡◌, ◌≤◌, ◌+◌, true, drop}
use Rattle.sample_run.specs.Starts.{lines_with}
use Rattle.sample_run.proofs.totals.group_lines.Given as goal

abbrev pub invariant-loop-byte : goal.invariant-loop-byte
invariant-loop-byte l = record {
  few : l.lines ≤ l.byte-index;
  all : lines_with 71 true l.report ≡ l.lines + lines_with 71 l.is_start (drop l.byte-index l.report);
}
