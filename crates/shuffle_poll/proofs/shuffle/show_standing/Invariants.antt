-- The links so far stand.
use Rattle.std.proofs.Common.{◌<◌, ℕ, get_or}
use Rattle.credit_link.specs.Ends.{TxSeen, TxStands}
use Rattle.shuffle_poll.proofs.shuffle.show_standing.Given as goal

abbrev pub invariant-standing : goal.invariant-standing
invariant-standing g l = (k : ℕ) (d : TxSeen) → k < l.i → TxStands (get_or l.links.items k d)
