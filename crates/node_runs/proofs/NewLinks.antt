-- New links, and what a node asks of them.
use Rattle.std.proofs.Common.{ℕ, ◌≡◌, ◌<◌, [], List, All, length, replicate, refl, sym, subst}
use Rattle.credit_link.specs.Ends.{TxSeen, RxSeen}
use Rattle.net_law.specs.Ends.{no_tx, tx_at}
use Rattle.net_law.specs.Starts.{IsNewTx, IsNewRx, AreNewOuts, new_outs}
use Rattle.shuffle_poll.specs.Shuffles.{ShuffleSeen, ShuffleHolds}

-- they have the credits of the first link out
pub of_first : (outs : List TxSeen) → 0 < length outs → All (IsNewTx 2) outs → (tx_at outs 0).credits ≡ 2
of_first outs some new = (new 0 no_tx some).credits

pub new_ins : (ins : List RxSeen) (outs : List TxSeen) → 0 < length outs → All (IsNewTx 2) outs → All (IsNewRx 2) ins → All (IsNewRx (tx_at outs 0).credits) ins
new_ins ins outs some new news = subst (λ (n : ℕ). All (IsNewRx n) ins) (sym (of_first outs some new)) news

pub new_outs_of : (outs : List TxSeen) → 0 < length outs → All (IsNewTx 2) outs → All (IsNewTx (tx_at outs 0).credits) outs
new_outs_of outs some new = subst (λ (n : ℕ). All (IsNewTx n) outs) (sym (of_first outs some new)) new

-- a shuffle over them is one of a new node
pub new_shuffle : (outs : List TxSeen) (s : ShuffleSeen) → s ≡ record { links = outs; queues = replicate (length outs) [] } → ShuffleHolds s.links s.queues
    → All (IsNewTx 2) outs → AreNewOuts 2 s.links
new_shuffle outs s made holds new =
    let P : ShuffleSeen → Type 0 = λ t. ShuffleHolds t.links t.queues in
    subst (λ (t : ShuffleSeen). AreNewOuts 2 t.links) (sym made) (record { holds = subst P made holds; each = new })

pub is_new_outs : (outs : List TxSeen) (s : ShuffleSeen) → s ≡ record { links = outs; queues = replicate (length outs) [] } → s ≡ new_outs s.links
is_new_outs outs s made = subst (λ (t : ShuffleSeen). t ≡ new_outs t.links) (sym made) refl
