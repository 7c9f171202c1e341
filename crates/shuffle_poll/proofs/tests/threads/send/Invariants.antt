-- No frame that was sent is the end.
use Rattle.std.proofs.Common.{◌≡◌, false}
use Rattle.shuffle_poll.proofs.tests.threads.send.Given as goal

abbrev pub invariant-turns : goal.invariant-turns
invariant-turns l = l.tx.finished ≡ false
