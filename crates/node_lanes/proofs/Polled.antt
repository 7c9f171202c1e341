-- What one poll of all links out is to a node.
use Rattle.std.proofs.Common.{ℕ, ◌+◌, ◌<◌, ◌≤◌, ◌≡◌, nat_lt, Bool, true, false, None, Some, List, [], ◌∷◌, ◌++◌, length, replicate, get_or, refl, sym, ap, ◌∙◌, subst, arith, append-nil, length-append, ⊎_elim, ◌⊎◌}
use Rattle.std.specs.List.{sum_by, All}
use Rattle.std.proofs.lemmas.Bool.Decides.{nat_tests}
use Rattle.std.proofs.lemmas.List.{nil_from_length, length-replicate}
use Rattle.std.proofs.lemmas.List.Sums.{get_or-le-sum_by}
use Rattle.node_frames.specs.declared.frame.Frame.{Frame}
use Rattle.credit_link.specs.declared.link_bad.LinkBad.{LinkBad}
use Rattle.credit_link.specs.declared.turn.NodeFault.TheVariants.{Link}
use Rattle.credit_link.specs.Ends.{TxSeen}
use Rattle.credit_link.specs.Pumping.{TxFails}
use Rattle.shuffle_poll.specs.declared.needs.Passed.{Passed}
use Rattle.shuffle_poll.specs.declared.needs.Need.TheVariants.{Nothing}
use Rattle.shuffle_poll.specs.declared.needs.Needs.{Needs}
use Rattle.shuffle_poll.specs.declared.needs.ShuffleFault.{ShuffleFault}
use Rattle.shuffle_poll.specs.Lanes.{LaneSeen, put_on as all_put}
use Rattle.shuffle_poll.specs.Polling.{LanePolls, LaneFails}
use Rattle.shuffle_poll.specs.Shuffles.{ShuffleSeen, lane_of, ShuffleHolds, PollsLanes, FailsAt}
use Rattle.round_law.specs.Links.{new_sender}
use Rattle.round_law.specs.Rows.{sent_by}
use Rattle.round_law.specs.Views.{sender_view, TxTells}
use Rattle.run_law.specs.Shapes.{IsFront}
use Rattle.node_lanes.specs.Ends.{put_on, senders_of, TxGoes, OutsGo, OutsStand, OutsAreQuiet}
use Rattle.node_lanes.specs.Faults.{TxMeets}
use Rattle.node_lanes.specs.Passes.{OutRests, OutsPass, OutsNoLess, OutsAreCalm, OutsMeet}
use Rattle.node_lanes.proofs.Listed.{front_same, front_of, puts_same, senders_long, senders_at, sum_adds}

-- ---- one link

pub lane_goes : (before after : LaneSeen) (cut : ℕ) (p : Passed) → LanePolls before after cut p → TxGoes before.tx after.tx
lane_goes before after cut p polls = record {
  credits = polls.kept.0;
  names = (polls.kept.1, polls.kept.2);
  told = (polls.forth.told, polls.back.told);
  offered = front_of after.tx.offered after.queue before.tx.offered before.queue polls.all_put polls.fewer;
}

pub lane_fails_goes : (before after : LaneSeen) (cut : ℕ) (bad : LinkBad) → LaneFails before after cut bad → TxGoes before.tx after.tx
lane_fails_goes before after cut bad fails =
    let first = fails.offers in
    let kept = fails.kept in
    record {
      credits = kept.credits ∙ ap (λ (t : TxSeen). t.credits) first.same;
      names = (kept.names.0 ∙ ap (λ (t : TxSeen). t.forth_name) first.same, kept.names.1 ∙ ap (λ (t : TxSeen). t.back_name) first.same);
      told = (kept.told.0 ∙ ap (λ (t : TxSeen). t.forth.told) first.same, kept.told.1 ∙ ap (λ (t : TxSeen). t.back.told) first.same);
      offered =
          subst (λ (fs : List Frame). IsFront before.tx.offered fs) (sym kept.offered)
          (front_of fails.mid.tx.offered fails.mid.queue before.tx.offered before.queue first.all_put first.fewer);
    }

pub tx_stays : (l : TxSeen) → TxGoes l l
tx_stays l = record { credits = refl; names = (refl, refl); told = (refl, refl); offered = front_same l.offered l.offered refl }

pub lane_rests : (before after : LaneSeen) (cut : ℕ) (p : Passed) → 0 < cut → p.moved ≡ 0 → LanePolls before after cut p → OutRests before after
lane_rests before after cut p some none polls =
    let no_byte : length polls.sent ≡ 0 = omega (arith, polls.total, none) in
    let no_credit : polls.paid ≡ 0 = omega (arith, polls.total, none) in
    record {
      told = (polls.forth.told, polls.back.told);
      stays = λ tells. record {
        put = polls.sent_bytes tells.forth ∙ ap (λ (l : List ℕ). before.tx.forth.bytes ++ l) (nil_from_length polls.sent no_byte) ∙ append-nil before.tx.forth.bytes;
        back = ap length (polls.paid_bytes tells.back) ∙ length-append before.tx.back.bytes (replicate polls.paid 1) ∙ ap (λ n. length before.tx.back.bytes + n) (length-replicate polls.paid 1 ∙ no_credit) ∙ omega arith;
      };
      forth = record { sure = omega (arith, polls.forth.sure, no_byte); heard = polls.forth.heard no_byte; zero = polls.data_zero none some };
      back = record { sure = omega (arith, polls.back.sure, no_credit); heard = polls.back.heard no_credit; zero = polls.credit_zero none some };
      unready = polls.unready;
    }

lane_sent : (before after : LaneSeen) (cut : ℕ) (p : Passed) → TxTells before.tx → LanePolls before after cut p
    → sent_by (sender_view (length after.queue) after.tx) ≡ sent_by (sender_view (length before.queue) before.tx) + p.moved
lane_sent before after cut p tells polls =
    let put : length after.tx.forth.bytes ≡ length before.tx.forth.bytes + length polls.sent = ap length (polls.sent_bytes tells.forth) ∙ length-append before.tx.forth.bytes polls.sent in
    let back : length after.tx.back.bytes ≡ length before.tx.back.bytes + polls.paid =
    ap length (polls.paid_bytes tells.back) ∙ length-append before.tx.back.bytes (replicate polls.paid 1) ∙ ap (λ n. length before.tx.back.bytes + n) (length-replicate polls.paid 1) in
    omega (arith, put, back, polls.total)

-- ---- all links

abbrev pub no_answer : Passed
no_answer = record { moved = 0; need = Nothing }

module _ (before after : ShuffleSeen) (long : length after.links ≡ length before.links) where
  pub goes_by : ((k : ℕ) (d : TxSeen) → k < length before.links → TxGoes (get_or before.links k d) (get_or after.links k d))
      → ((k : ℕ) (d : TxSeen) → all_put (lane_of after k d) ≡ all_put (lane_of before k d)) → OutsGo before after
  goes_by each same = record {
    as_many = long;
    each = each;
    put = λ k. front_same (put_on before k) (put_on after k) (puts_same before after long same k);
  }

  pub stand_by : ShuffleHolds after.links after.queues → OutsGo before after → (credits : ℕ) → OutsStand credits before → OutsStand credits after
  stand_by holds goes credits stand = record {
    holds = holds;
    credits = λ k d there. let within : k < length before.links = omega (arith, there, long) in (goes.each k d within).credits ∙ stand.credits k d within;
  }

  module _ (cut : ℕ) (needs : Needs) (answers : List Passed) (count : length answers ≡ length before.links) (polls : PollsLanes before.links after.links before.queues after.queues cut needs answers) where
    pub each : (k : ℕ) (d : TxSeen) → k < length before.links → LanePolls (lane_of before k d) (lane_of after k d) cut (get_or answers k no_answer)
    each k d there = polls.each k d no_answer (omega (arith, there, count))

    pub polled_goes : (k : ℕ) (d : TxSeen) → k < length before.links → TxGoes (get_or before.links k d) (get_or after.links k d)
    polled_goes k d there = lane_goes (lane_of before k d) (lane_of after k d) cut (get_or answers k no_answer) (each k d there)

    pub polled_quiet : OutsAreQuiet after
    polled_quiet k d there = (each k d (omega (arith, there, long))).kept.3

    pub polled_calm : OutsAreCalm before after
    polled_calm k d there = let p = each k d there in (p.forth.faults, p.back.faults)

    pub sent_in_all : All TxTells before.links → sum_by sent_by (senders_of after) ≡ sum_by sent_by (senders_of before) + sum_by (λ (p : Passed). p.moved) answers
    sent_in_all tells =
        sum_adds sent_by (λ (p : Passed). p.moved) new_sender no_answer (senders_of before) (senders_of after) answers
        (senders_long after.links after.queues ∙ long ∙ sym (senders_long before.links before.queues)) (count ∙ sym (senders_long before.links before.queues))
        (λ k less.
        let there : k < length before.links = omega (arith, less, senders_long before.links before.queues) in
        let d : TxSeen = some_of before.links k there in
        ap sent_by (senders_at after.links after.queues k new_sender d (omega (arith, there, long)))
        ∙ lane_sent (lane_of before k d) (lane_of after k d) cut (get_or answers k no_answer) (tells k d there) (each k d there)
        ∙ ap (λ s. sent_by s + (get_or answers k no_answer).moved) (sym (senders_at before.links before.queues k new_sender d there)))
      where
        some_of : (links : List TxSeen) (k : ℕ) → k < length links → TxSeen
        some_of [] k less = absurd (omega arith)
        some_of (l ∷ links) k less = l

    pub polled_no_less : OutsNoLess before after
    polled_no_less tells = omega (arith, sent_in_all tells)

    polled_by : 0 < cut → (moved : Bool) → moved ≡ nat_lt 0 (sum_by (λ (p : Passed). p.moved) answers) → OutsPass moved before after
    polled_by some true is = λ tells.
        let more : 0 < sum_by (λ (p : Passed). p.moved) answers = grind (arith, nat_tests) in
        omega (arith, more, sent_in_all tells)
    polled_by some false is = λ k d there.
        let none : sum_by (λ (p : Passed). p.moved) answers ≡ 0 = grind (arith, nat_tests) in
        let at_most : (get_or answers k no_answer).moved ≤ sum_by (λ (p : Passed). p.moved) answers = get_or-le-sum_by (λ (p : Passed). p.moved) answers k no_answer (omega (arith, there, count)) in
        lane_rests (lane_of before k d) (lane_of after k d) cut (get_or answers k no_answer) some (omega (arith, none, at_most)) (each k d there)

    pub polled_passes : 0 < cut → OutsPass needs.moved before after
    polled_passes some = polled_by some needs.moved polls.moved

  module _ (cut : ℕ) (fault : ShuffleFault) (fails : FailsAt before.links after.links before.queues after.queues cut fault) where
    by_place : (k : ℕ) → (k < fault.link) ⊎ ((k ≡ fault.link) ⊎ (fault.link < k))
    by_place k = grind arith

    pub failed_goes : (k : ℕ) (d : TxSeen) → k < length before.links → TxGoes (get_or before.links k d) (get_or after.links k d)
    failed_goes k d there =
        ⊎_elim
        (λ (earlier : k < fault.link). let p = fails.before k d earlier in lane_goes (lane_of before k d) (lane_of after k d) cut p.0 p.1)
        (λ (other : (k ≡ fault.link) ⊎ (fault.link < k)).
        ⊎_elim
        (λ (here : k ≡ fault.link).
        subst (λ j. TxGoes (get_or before.links j d) (get_or after.links j d)) (sym here)
        (lane_fails_goes (lane_of before fault.link d) (lane_of after fault.link d) cut fault.bad (fails.here d)))
        (λ (later : fault.link < k).
        subst (λ (t : TxSeen). TxGoes (get_or before.links k d) t) (sym (ap (λ (l : LaneSeen). l.tx) (fails.behind k d later))) (tx_stays (get_or before.links k d)))
        other)
        (by_place k)

    pub failed_meets : (first : ℕ) → OutsAreQuiet before → OutsMeet first before after (Link (first + fault.link) fault.bad)
    failed_meets first quiet = record {
      k = fault.link;
      bad = fault.bad;
      named = refl;
      there = fails.there;
      meets = λ d. lane_meets (lane_of before fault.link d) (lane_of after fault.link d) (quiet fault.link d fails.there) (fails.here d);
    }
      where
        lane_meets : (a b : LaneSeen) → a.tx.fault ≡ None → LaneFails a b cut fault.bad → TxMeets a.tx b.tx fault.bad
        lane_meets a b none here =
            let same = here.offers.same in
            record {
              kept = here.fault;
              mid = here.mid.tx;
              stands = here.stands;
              quiet = ap (λ (t : TxSeen). t.fault) same ∙ none;
              calm = (ap (λ (t : TxSeen). t.forth.faults) same, ap (λ (t : TxSeen). t.back.faults) same);
              same = here.kept;
              cut = cut;
              fails = ⊎_elim (λ (again : (a.tx.fault ≡ Some fault.bad) × (b.tx ≡ here.mid.tx)). let wrong : None ≡ Some fault.bad = sym none ∙ again.0 in cc) (λ (met : (a.tx.fault ≡ None) × TxFails here.mid.tx b.tx cut fault.bad). met.1) here.how;
            }
