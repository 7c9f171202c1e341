-- The links so far have nothing more to do.
use Rattle.std.proofs.Common.{◌<◌, ℕ}
use Rattle.credit_link.specs.Ends.{TxSeen}
use Rattle.shuffle_poll.specs.Shuffles.{lane_at, IsSettled}
use Rattle.shuffle_poll.proofs.shuffle.Shuffle.settled.Given as goal

abbrev pub invariant-lanes : goal.invariant-lanes
invariant-lanes g l = (k : ℕ) (d : TxSeen) → k < l.i → IsSettled (lane_at l.self.links l.self.queues k d)
