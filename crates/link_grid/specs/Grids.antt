-- New links between all senders and all receivers.
use Rattle.std.specs.Prelude.{ℕ, ◌≡◌, ◌<◌, ◌≤◌, List, [], ◌∷◌, ◌++◌, length, slice_index_or}
use Rattle.ds_base.specs.Items.{Items}
use Rattle.node_lists.specs.Lists.{items_at}
use Rattle.credit_link.specs.Ends.{TxSeen, RxSeen, TxStands, RxStands}
use Rattle.credit_link.specs.Joined.{IsNewLink}

-- the two ends of a new link, which stand
pub record LinkStarts (credits : ℕ) (tx : TxSeen) (rx : RxSeen) : Type 0 where
  pub new : IsNewLink credits tx rx
  pub sending : TxStands tx
  pub receiving : RxStands rx

-- one new link from each sender to each receiver: sender i has its end of it at place j, and receiver j at place i
pub record IsGrid (credits senders receivers : ℕ) (txs : List (Items TxSeen)) (rxs : List (Items RxSeen)) : Type 0 where
  pub sender_count : length txs ≡ senders
  pub receiver_count : length rxs ≡ receivers
  pub outs : (i : ℕ) → i < senders → length (items_at txs i) ≡ receivers
  pub ins : (j : ℕ) → j < receivers → length (items_at rxs j) ≡ senders
  pub links : (i j : ℕ) (tx : TxSeen) (rx : RxSeen) → i < senders → j < receivers
      → LinkStarts credits (slice_index_or (items_at txs i) j tx) (slice_index_or (items_at rxs j) i rx)

-- ---- one sender more

-- the end of receiver j went behind those that it had, and its other end is at place j of the sender's
pub record Receives (credits : ℕ) (row : List TxSeen) (j : ℕ) (before after : List RxSeen) : Type 0 where
  pub rx : RxSeen
  pub put : after ≡ before ++ rx ∷ []
  pub starts : (tx : TxSeen) → LinkStarts credits (slice_index_or row j tx) rx

-- a new link from one sender to each of the first so many receivers
pub record IsRow (credits count : ℕ) (before after : List (Items RxSeen)) (row : List TxSeen) : Type 0 where
  pub receivers : length after ≡ length before
  pub outs : length row ≡ count
  pub put : (j : ℕ) → j < count → Receives credits row j (items_at before j) (items_at after j)
  pub later : (j : ℕ) → count ≤ j → items_at after j ≡ items_at before j
