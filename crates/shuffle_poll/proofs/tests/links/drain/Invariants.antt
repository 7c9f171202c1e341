-- A pump offers nothing.
use Rattle.std.proofs.Common.{◌≡◌}
use Rattle.shuffle_poll.proofs.tests.links.drain.Given as goal

abbrev pub invariant-loop : goal.invariant-loop
invariant-loop l = l.tx.finished ≡ l.initial.tx.finished
