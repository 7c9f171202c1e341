-- A frame is put on the one link out, where none waits.
use Rattle.std.proofs.Common.{ℕ, zero, suc, ◌+◌, ◌<◌, ◌≡◌, false, None, List, [], ◌∷◌, ◌++◌, length, get_or, set, refl, sym, ap, ap₂, ◌∙◌, subst, arith, append_assoc}
use Rattle.std.specs.List.{All, sum_by}
use Rattle.std.proofs.lemmas.List.{get_or-set_same, length-set, nil_from_length}
use Rattle.std.proofs.lemmas.List.Sums.{sum_by-cons}
use Rattle.node_frames.specs.declared.frame.Frame.{Frame}
use Rattle.credit_link.specs.Ends.{TxSeen}
use Rattle.credit_link.specs.Frames.{has_finish}
use Rattle.shuffle_poll.specs.Lanes.{put_on as all_put}
use Rattle.shuffle_poll.specs.Shuffles.{ShuffleSeen, ShuffleHolds, lane_of}
use Rattle.round_law.specs.Rows.{sent_by}
use Rattle.round_law.specs.Views.{sender_view}
use Rattle.run_law.specs.Shapes.{IsFront}
use Rattle.node_lanes.specs.Ends.{senders_of, senders_with, OutsStand, OutsAreQuiet, OutsGo}
use Rattle.node_lanes.specs.Passes.{OutsAreCalm}
use Rattle.node_lanes.specs.Resting.{NoneHeld}
use Rattle.node_lanes.proofs.Going.{ins_same, outs_same, puts_go}
use Rattle.node_lanes.proofs.Listed.{puts_at}
use Rattle.node_lanes.proofs.Resting.{tx_of_list}
use Rattle.query_state.specs.States.{state_is}
use Rattle.query_state.specs.declared.state.QueryState.{QueryState}
use Rattle.query_node.specs.Works.{WorkSeen, taken_off, put_by, IsSound}
use Rattle.query_node.specs.Steps.{Steps}
use Rattle.query_node.proofs.Lists.{none_front}

-- ---- the queue

pub waits_none : (queues : List (List Frame)) (k : ℕ) → sum_by length queues ≡ 0 → get_or queues k [] ≡ []
waits_none [] k none = refl
waits_none (q ∷ queues) zero none = nil_from_length q (omega (arith, none, sum_by-cons length q queues))
waits_none (q ∷ queues) (suc k) none = waits_none queues k (omega (arith, none, sum_by-cons length q queues))

pub none_waits : (queues : List (List Frame)) → ((k : ℕ) → get_or queues k [] ≡ []) → sum_by length queues ≡ 0
none_waits [] none = refl
none_waits (q ∷ queues) none = omega (arith, sum_by-cons length q queues, ap length (none 0), none_waits queues (λ k. none (suc k)))

-- what waits is not counted as sent
sent_alone : (links : List TxSeen) (queues : List (List Frame)) → sum_by sent_by (senders_with links queues) ≡ sum_by sent_by (senders_with links [])
sent_alone [] queues = refl
sent_alone (l ∷ links) [] = refl
sent_alone (l ∷ links) (q ∷ queues) =
    sum_by-cons sent_by (sender_view (length q) l) (senders_with links queues)
    ∙ ap (λ (n : ℕ). sent_by (sender_view 0 l) + n) (sent_alone links queues)
    ∙ sym (sum_by-cons sent_by (sender_view 0 l) (senders_with links []))

sent_alike : (links : List TxSeen) (queues queues' : List (List Frame)) → sum_by sent_by (senders_with links queues) ≡ sum_by sent_by (senders_with links queues')
sent_alike links queues queues' = sent_alone links queues ∙ sym (sent_alone links queues')

module _ (outs outs' : ShuffleSeen) (frame : Frame) (one : length outs.links ≡ 1) (none : NoneHeld outs) where
  there : 0 < length outs.links
  there = omega (arith, one)

  pub has_room : length (get_or outs.queues 0 []) < 2
  has_room = omega (arith, ap length (none 0))

  pub still_open : has_finish (put_by outs) ≡ false → (d : TxSeen) → has_finish (all_put (lane_of outs 0 d)) ≡ false
  still_open open_yet d = ap has_finish (sym (puts_at outs.links outs.queues 0 d there)) ∙ open_yet

  pub queues_go : (k : ℕ) → IsFront (get_or outs.queues k []) (get_or outs'.queues k [])
  queues_go k = none_front (get_or outs.queues k []) (get_or outs'.queues k []) (none k)

  pub one_put : outs'.links ≡ outs.links → outs'.queues ≡ set outs.queues 0 (get_or outs.queues 0 [] ++ frame ∷ []) → ShuffleHolds outs'.links outs'.queues → put_by outs' ≡ put_by outs ++ frame ∷ []
  one_put links queues holds =
      let long : length outs.queues ≡ length outs'.queues = sym (ap length queues ∙ length-set outs.queues 0 (get_or outs.queues 0 [] ++ frame ∷ [])) in
      let place : 0 < length outs.queues = omega (arith, long, holds.as_many, ap length links, one) in
      let d : TxSeen = tx_of_list outs.links 0 there in
      let first : put_by outs' ≡ (get_or outs'.links 0 d).offered ++ get_or outs'.queues 0 [] = puts_at outs'.links outs'.queues 0 d (omega (arith, ap length links, one)) in
      let second : get_or outs'.queues 0 [] ≡ get_or outs.queues 0 [] ++ frame ∷ [] =
      ap (λ (l : List (List Frame)). get_or l 0 []) queues ∙ get_or-set_same outs.queues 0 (get_or outs.queues 0 [] ++ frame ∷ []) [] place in
      first
      ∙ ap₂ (λ (x y : List Frame). x ++ y) (ap (λ (l : List TxSeen). (get_or l 0 d).offered) links) second
      ∙ sym (append_assoc (get_or outs.links 0 d).offered (get_or outs.queues 0 []) (frame ∷ []))
      ∙ ap (λ (x : List Frame). x ++ frame ∷ []) (sym (puts_at outs.links outs.queues 0 d there))

-- ---- the link out with one frame more

module _ (w : WorkSeen) (outs : ShuffleSeen) (h : IsSound w) (links : outs.links ≡ w.outs.links) (queues : (k : ℕ) → IsFront (get_or w.outs.queues k []) (get_or outs.queues k []))
    (holds : ShuffleHolds outs.links outs.queues) where
  pub put_goes : OutsGo w.outs outs
  put_goes = puts_go w.outs outs links queues

  pub put_stand : OutsStand w.credits outs
  put_stand = record { holds = holds; credits = subst (λ (ls : List TxSeen). All (λ (l : TxSeen). l.credits ≡ w.credits) ls) (sym links) h.outs.credits }

  pub put_quiet : OutsAreQuiet outs
  put_quiet = subst (λ (ls : List TxSeen). All (λ (l : TxSeen). l.fault ≡ None) ls) (sym links) h.quiet.1

  pub put_calm : OutsAreCalm w.outs outs
  put_calm k d less = (ap (λ (ls : List TxSeen). (get_or ls k d).forth.faults) links, ap (λ (ls : List TxSeen). (get_or ls k d).back.faults) links)

  pub put_sent : sum_by sent_by (senders_of w.outs) ≡ sum_by sent_by (senders_of outs)
  put_sent = sent_alike w.outs.links w.outs.queues outs.queues ∙ ap (λ (ls : List TxSeen). sum_by sent_by (senders_with ls outs.queues)) (sym links)

  pub put_steps : (state : QueryState) → state_is w.job (taken_off w.ins) (put_by outs) state → Steps w (record w { outs = outs; state = state })
  put_steps state stands = record {
    sound = record {
      job_is = h.job_is;
      ins_few = h.ins_few;
      one_out = ap length links ∙ h.one_out;
      ins = h.ins;
      outs = put_stand;
      quiet = (h.quiet.0, put_quiet);
      orders = h.orders;
      state = stands;
    };
    goes = record { same = (refl, refl); ins = ins_same w.ins; outs = put_goes };
    calm = ((λ j d less. (refl, refl)), put_calm);
    no_less = λ tells. omega (arith, put_sent);
  }

-- the end was not put before a frame that is due
pub due_open : (w : WorkSeen) → IsSound w → w.state.finished ≡ false → has_finish (put_by w.outs) ≡ false
due_open w h open_yet = h.state.stands.sends.ends ∙ open_yet

-- the state alone was asked
pub same_steps : (w : WorkSeen) (state : QueryState) → IsSound w → state_is w.job (taken_off w.ins) (put_by w.outs) state → Steps w (record w { state = state })
same_steps w state h stands = record {
  sound = record { job_is = h.job_is; ins_few = h.ins_few; one_out = h.one_out; ins = h.ins; outs = h.outs; quiet = h.quiet; orders = h.orders; state = stands };
  goes = record { same = (refl, refl); ins = ins_same w.ins; outs = outs_same w.outs };
  calm = ((λ j d less. (refl, refl)), (λ k d less. (refl, refl)));
  no_less = λ tells. omega arith;
}
