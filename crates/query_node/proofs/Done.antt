-- A node is done exactly where the end was put on its links out, all was taken and all is settled.
use Rattle.std.proofs.Common.{ℕ, ◌<◌, ◌≡◌, IsTrue, true, false, List, [], ◌∷◌, ◌++◌, length, get_or, refl, sym, ap, ◌∙◌, subst, arith, append-nil}
use Rattle.std.proofs.lemmas.List.{length-map}
use Rattle.node_frames.specs.declared.frame.Frame.{Frame}
use Rattle.credit_link.specs.Frames.{has_finish, FinishIsLast}
use Rattle.credit_link.specs.Ends.{TxSeen, RxSeen}
use Rattle.shuffle_poll.specs.Shuffles.{ShuffleSeen, ShuffleHolds}
use Rattle.shuffle_poll.proofs.Passes.{going}
use Rattle.round_law.specs.Links.{new_sender, new_receiver, HasTakenAll, HasSentAll}
use Rattle.round_law.specs.Views.{sender_view, receiver_view}
use Rattle.round_law.specs.Waits.{IsDone}
use Rattle.node_lanes.specs.Ends.{put_on}
use Rattle.node_lanes.specs.Resting.{node_with, HasTakenEach, IsSettledEach, SomeToTake, SomeToSettle}
use Rattle.node_lanes.proofs.Listed.{puts_at, senders_long, senders_at}
use Rattle.node_lanes.proofs.Pumped.{receivers_at, some_of}
use Rattle.node_lanes.proofs.Resting.{tx_of_list}

-- nothing waits behind an end that was offered
none_behind : (offered queue : List Frame) → FinishIsLast (offered ++ queue) → has_finish offered ≡ true → queue ≡ []
none_behind offered [] last ended = refl
none_behind offered (frame ∷ queue) last ended = absurd (let wrong : false ≡ true = sym (going offered frame queue last) ∙ ended in cc)

module _ (r s v : ℕ) (ins : List RxSeen) (outs : ShuffleSeen) (holds : ShuffleHolds outs.links outs.queues) where
  module _ (done : IsDone (node_with r s v true ins outs)) where
    sent : (k : ℕ) (d : TxSeen) → k < length outs.links → HasSentAll (sender_view (length (get_or outs.queues k [])) (get_or outs.links k d))
    sent k d there = subst HasSentAll (senders_at outs.links outs.queues k new_sender d there) (done.outs k new_sender (omega (arith, there, senders_long outs.links outs.queues)))

    none_waits : (k : ℕ) (d : TxSeen) → k < length outs.links → get_or outs.queues k [] ≡ []
    none_waits k d there = none_behind (get_or outs.links k d).offered (get_or outs.queues k []) (holds.last k d there) (sent k d there).finish

    pub done_settled : SomeToSettle outs → ⊥
    done_settled some =
        let d = tx_of_list outs.links some.0 some.1 in
        some.2 d (none_waits some.0 d some.1, (sent some.0 d some.1).left, (sent some.0 d some.1).held)

    pub done_put : (k : ℕ) → k < length outs.links → has_finish (put_on outs k) ≡ true
    done_put k there =
        let d = tx_of_list outs.links k there in
        let tx = get_or outs.links k d in
        let offered : put_on outs k ≡ tx.offered = puts_at outs.links outs.queues k d there ∙ ap (λ (q : List Frame). tx.offered ++ q) (none_waits k d there) ∙ append-nil tx.offered in
        ap has_finish offered ∙ (sent k d there).finish

    pub done_taken : SomeToTake ins → ⊥
    done_taken some =
        let d = some_of ins some.0 some.1 in
        some.2 d (subst HasTakenAll (receivers_at ins some.0 (new_receiver 0) d some.1) (done.ins some.0 (new_receiver 0) (omega (arith, some.1, length-map ins receiver_view))))

  pub is_done : HasTakenEach ins → IsSettledEach outs → ((k : ℕ) → k < length outs.links → has_finish (put_on outs k) ≡ true) → IsDone (node_with r s v true ins outs)
  is_done taken settled put = record {
    ins = λ j x less.
        let there : j < length ins = omega (arith, less, length-map ins receiver_view) in
        let d = some_of ins j there in
        subst HasTakenAll (sym (receivers_at ins j x d there)) (taken j d there);
    outs = λ k x less.
        let there : k < length outs.links = omega (arith, less, senders_long outs.links outs.queues) in
        let d = tx_of_list outs.links k there in
        let here = settled k d there in
        let tx = get_or outs.links k d in
        let offered : put_on outs k ≡ tx.offered = puts_at outs.links outs.queues k d there ∙ ap (λ (q : List Frame). tx.offered ++ q) here.0 ∙ append-nil tx.offered in
        subst HasSentAll (sym (senders_at outs.links outs.queues k x d there)) (record { finish = sym (ap has_finish offered) ∙ put k there; left = here.1; held = here.2 });
    wrote_all = refl;
  }
