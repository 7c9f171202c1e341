-- Marks are no end.
use Rattle.std.proofs.Common.{◌≡◌, false}
use Rattle.shuffle_poll.proofs.tests.links.send.Given as goal

abbrev pub invariant-marks : goal.invariant-marks
invariant-marks l = l.tx.finished ≡ false
