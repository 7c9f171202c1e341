-- A node's ends of links by their numbers.
use Rattle.std.proofs.Common.{ℕ, zero, suc, List, [], ◌∷◌, ◌≡◌, refl}
use Rattle.std.specs.Prelude.{map, slice_index_or}
use Rattle.node_frames.specs.declared.frame.Frame.{Frame}
use Rattle.credit_link.specs.Ends.{TxSeen, RxSeen}
use Rattle.shuffle_poll.specs.Shuffles.{ShuffleSeen}
use Rattle.run_law.specs.Shapes.{IsFront}
use Rattle.run_law.proofs.Lists.{front_self}
use Rattle.node_lanes.specs.Ends.{given_on, put_on, puts_with}
use Rattle.net_law.specs.Ends.{sent_on, tx_at, rx_at}

pub given_is : (ins : List RxSeen) (j : ℕ) → given_on ins j ≡ (rx_at ins j).given
given_is [] j = refl
given_is (r ∷ ins) zero = refl
given_is (r ∷ ins) (suc j) = given_is ins j

sent_at : (links : List TxSeen) (k : ℕ) → slice_index_or (map (λ (l : TxSeen). l.offered) links) k [] ≡ (tx_at links k).offered
sent_at [] k = refl
sent_at (l ∷ links) zero = refl
sent_at (l ∷ links) (suc k) = sent_at links k

pub sent_is : (outs : ShuffleSeen) (k : ℕ) → sent_on outs k ≡ (tx_at outs.links k).offered
sent_is outs k = sent_at outs.links k

put_at : (links : List TxSeen) (queues : List (List Frame)) (k : ℕ)
    → IsFront (slice_index_or (map (λ (l : TxSeen). l.offered) links) k []) (slice_index_or (puts_with links queues) k [])
put_at [] queues k = front_self []
put_at (l ∷ links) [] zero = front_self l.offered
put_at (l ∷ links) [] (suc k) = put_at links [] k
put_at (l ∷ links) (q ∷ queues) zero = record { rest = q; joined = refl }
put_at (l ∷ links) (q ∷ queues) (suc k) = put_at links queues k

-- what was offered on a link is a front of what was put for it
pub sent_is_put : (outs : ShuffleSeen) (k : ℕ) → IsFront (sent_on outs k) (put_on outs k)
sent_is_put outs k = put_at outs.links outs.queues k
