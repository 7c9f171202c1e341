-- In the queues so far nothing waits.
use Rattle.std.proofs.Common.{◌≡◌, ◌<◌, ℕ, [], get_or}
use Rattle.shuffle_poll.proofs.shuffle.some_wait.Given as goal

abbrev pub invariant-queues : goal.invariant-queues
invariant-queues l = (k : ℕ) → k < l.queue-index → get_or l.queues.items k [] ≡ []
