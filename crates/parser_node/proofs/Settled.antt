-- A parser is done exactly where the end was put and all its links are settled.
use Rattle.std.proofs.Common.{ℕ, ◌<◌, ◌≡◌, true, false, None, List, [], ◌∷◌, ◌++◌, length, get_or, refl, sym, ap, ◌∙◌, subst, arith, append-nil}
use Rattle.node_frames.specs.declared.frame.Frame.{Frame}
use Rattle.credit_link.specs.Frames.{has_finish, FinishIsLast}
use Rattle.credit_link.specs.Ends.{TxSeen}
use Rattle.shuffle_poll.specs.Shuffles.{ShuffleSeen}
use Rattle.shuffle_poll.proofs.Passes.{going}
use Rattle.round_law.specs.Links.{new_sender, HasSentAll}
use Rattle.round_law.specs.Views.{sender_view}
use Rattle.round_law.specs.Waits.{IsDone}
use Rattle.node_lanes.specs.Ends.{put_on}
use Rattle.node_lanes.specs.Resting.{IsSettledEach, SomeToSettle}
use Rattle.node_lanes.proofs.Listed.{puts_at, senders_long, senders_at}
use Rattle.node_lanes.proofs.Resting.{tx_of_list}
use Rattle.net_law.specs.Parsers.{parser_view}
use Rattle.parser_steps.specs.Seen.{StepsSeen, seen_of}
use Rattle.parser_steps.specs.Holds.{ParserHolds}

-- no frame waits behind an end that was offered
none_behind : (offered queue : List Frame) → FinishIsLast (offered ++ queue) → has_finish offered ≡ true → queue ≡ []
none_behind offered [] last ended = refl
none_behind offered (frame ∷ queue) last ended = absurd (let wrong : false ≡ true = sym (going offered frame queue last) ∙ ended in cc)

module _ (x : StepsSeen) (outs : ShuffleSeen) (holds : ParserHolds x outs None) where
  -- where no frame waits, all that was put was offered
  offered_at : (k : ℕ) (d : TxSeen) → k < length outs.links → get_or outs.queues k [] ≡ [] → put_on outs k ≡ (get_or outs.links k d).offered
  offered_at k d there none =
      let tx = get_or outs.links k d in
      puts_at outs.links outs.queues k d there ∙ ap (λ (q : List Frame). tx.offered ++ q) none ∙ append-nil tx.offered

  pub settled_done : x.finished ≡ true → IsSettledEach outs → IsDone (parser_view (seen_of x outs None))
  settled_done put settled = record {
    ins = λ j r less. absurd (omega (arith, less));
    outs = λ k s less.
        let there : k < length outs.links = omega (arith, less, senders_long outs.links outs.queues) in
        let d = tx_of_list outs.links k there in
        let here = settled k d there in
        subst HasSentAll (sym (senders_at outs.links outs.queues k s d there))
        (record { finish = sym (ap has_finish (offered_at k d there here.0)) ∙ holds.ending k there ∙ put; left = here.1; held = here.2 });
    wrote_all = refl;
  }

  module _ (done : IsDone (parser_view (seen_of x outs None))) where
    sent : (k : ℕ) (d : TxSeen) → k < length outs.links → HasSentAll (sender_view (length (get_or outs.queues k [])) (get_or outs.links k d))
    sent k d there = subst HasSentAll (senders_at outs.links outs.queues k new_sender d there) (done.outs k new_sender (omega (arith, there, senders_long outs.links outs.queues)))

    none_waits : (k : ℕ) (d : TxSeen) → k < length outs.links → get_or outs.queues k [] ≡ []
    none_waits k d there = none_behind (get_or outs.links k d).offered (get_or outs.queues k []) (holds.stands.outs.holds.last k d there) (sent k d there).finish

    pub done_settled : SomeToSettle outs → ⊥
    done_settled some =
        let d = tx_of_list outs.links some.0 some.1 in
        some.2 d (none_waits some.0 d some.1, (sent some.0 d some.1).left, (sent some.0 d some.1).held)

    pub done_finished : x.finished ≡ false → ⊥
    done_finished open_end =
        let first : 0 < length outs.links = omega (arith, holds.stands.groupers.0) in
        let d = tx_of_list outs.links 0 first in
        let wrong : true ≡ false = sym (sent 0 d first).finish ∙ sym (ap has_finish (offered_at 0 d first (none_waits 0 d first))) ∙ holds.ending 0 first ∙ open_end in
        cc
