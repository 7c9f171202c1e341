-- The lanes so far were polled, and the others are as they were.
use Rattle.shuffle_poll.proofs.Sofar.{SoFar}
use Rattle.shuffle_poll.proofs.shuffle.poll_all.Given as goal

abbrev pub invariant-lanes : goal.invariant-lanes
invariant-lanes g l = SoFar l.initial.links.items l.links.items l.initial.queues.items l.queues.items l.cut l.i l.found l.answers.items
