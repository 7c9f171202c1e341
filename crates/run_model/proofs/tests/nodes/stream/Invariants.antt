-- The tally is that of the capture, and has taken up no more records than there were rounds.
use Rattle.std.proofs.Common.{◌≡◌, ◌≤◌}
use Rattle.key_select.specs.Tally.{capture_of, records_taken}
use Rattle.run_model.proofs.tests.nodes.stream.Given as goal

abbrev pub invariant-loop-i : goal.invariant-loop-i
invariant-loop-i l = record {
  taken : records_taken l.tally ≤ l.i;
  capture : capture_of l.tally ≡ l.capture;
}
