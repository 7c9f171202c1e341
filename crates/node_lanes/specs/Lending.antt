-- What a loan of a receiving end to the sending node does: both ends of the link are shown its rings.
use Rattle.std.specs.Prelude.{ℕ, ◌≡◌, slice_index_or, slice_set}
use Rattle.credit_link.specs.Ends.{TxSeen, RxSeen}
use Rattle.shuffle_poll.specs.Shuffles.{ShuffleSeen, Shows}

-- link k out and the receiving end were shown their rings, and the other links out were left alone
pub record ShowsOut (before after : ShuffleSeen) (k : ℕ) (rx rx' : RxSeen) : Type 0 where
  pub links : (d : TxSeen) → after.links ≡ slice_set before.links k (slice_index_or after.links k d)
  pub queues : after.queues ≡ before.queues
  pub shows : (d : TxSeen) → Shows (slice_index_or before.links k d) (slice_index_or after.links k d) rx rx'
