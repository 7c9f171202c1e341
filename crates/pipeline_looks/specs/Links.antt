-- What a look does at links from many senders into one node.
use Rattle.std.specs.Prelude.{ℕ, ◌≡◌, ◌≢◌, ◌<◌, ◌≤◌, ◌+◌, ◌⊎◌, List, length, slice_index_or}
use Rattle.credit_link.specs.Ends.{TxSeen, RxSeen}
use Rattle.credit_link.specs.Joined.{AreOneLink}
use Rattle.shuffle_poll.specs.Shuffles.{ShuffleSeen}
use Rattle.round_law.specs.Links.{ring_bytes}
use Rattle.node_lanes.specs.Lending.{ShowsOut}
use Rattle.net_law.specs.Ends.{tx_at}

-- the two ends of one link over rings with so many credits, whatever came and went on it
pub record AreOnRings (number : ℕ) (tx : TxSeen) (rx : RxSeen) : Type 0 where
  pub one : AreOneLink tx rx
  pub data_places : tx.forth_name.capacity ≡ ring_bytes
  pub credit_places : tx.back_name.capacity ≡ number

-- the links out beside the one of this number are as before
abbrev pub OthersStay : (link : ℕ) (before after : ShuffleSeen) → Type 0
OthersStay link before after = (k : ℕ) → k ≢ link → tx_at after.links k ≡ tx_at before.links k

-- Of the first `count` senders each lent its link out of number `link` to the link in of number `first` and its own
-- number, and both ends were shown their rings. The other senders and the other links in were left alone.
pub record ShowsLinks (S : Type 0) (outs : S → ShuffleSeen) (Lends : S → S → Type 0) (first link count : ℕ) (senders senders' : List S) (ins ins' : List RxSeen) : Type 0 where
  pub as_many : (length senders' ≡ length senders) × (length ins' ≡ length ins)
  pub lends : (i : ℕ) (s : S) → i < count → Lends (slice_index_or senders i s) (slice_index_or senders' i s)
  pub shown : (i : ℕ) (s : S) (d : RxSeen) → i < count
      → ShowsOut (outs (slice_index_or senders i s)) (outs (slice_index_or senders' i s)) link (slice_index_or ins (first + i) d) (slice_index_or ins' (first + i) d)
  pub senders_behind : (i : ℕ) (s : S) → count ≤ i → slice_index_or senders' i s ≡ slice_index_or senders i s
  pub other_ins : (j : ℕ) (d : RxSeen) → (j < first) ⊎ (first + count ≤ j) → slice_index_or ins' j d ≡ slice_index_or ins j d
