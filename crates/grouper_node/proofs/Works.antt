-- What follows from a sound work, and from one that met a fault.
use Rattle.std.proofs.Common.{ℕ, ◌+◌, ◌*◌, ◌<◌, ◌≤◌, ◌≡◌, true, None, Some, Option, List, length, inl, inr, refl, sym, ap, subst, arith}
use Rattle.std.specs.List.{sum_by}
use Rattle.node_frames.specs.declared.frame.Frame.{Frame}
use Rattle.credit_link.specs.Ends.{RxSeen}
use Rattle.credit_link.specs.declared.turn.NodeFault.{NodeFault}
use Rattle.shuffle_poll.specs.Shuffles.{ShuffleSeen}
use Rattle.summary_spec.specs.Declaration.{Declared}
use Rattle.round_law.specs.Rows.{OffersFew, frames_beside}
use Rattle.run_law.specs.Links.{AreLawfulItems}
use Rattle.run_law.specs.Nodes.{GrouperKeeps}
use Rattle.node_lanes.specs.Ends.{given_on, put_on, InsStand, OutsStand, InsGo, OutsGo}
use Rattle.node_lanes.specs.Passes.{InsMeet, OutsMeet}
use Rattle.node_lanes.proofs.Going.{few_by_put}
use Rattle.grouper_state.specs.Outgoing.{still_going}
use Rattle.grouper_state.specs.States.{state_is, taken_on}
use Rattle.grouper_state.specs.declared.state.GrouperState.{GrouperState}
use Rattle.grouper_state.proofs.Stepping as stepping
use Rattle.net_law.specs.Groupers.{GrouperStands, GrouperMeets, TakesLawful, grouper_view}
use Rattle.grouper_node.specs.Works.{WorkSeen, grouper_of, shape_with, shape_in, taken_off, puts_of, IsSound, PutsFew}
use Rattle.grouper_node.specs.Steps.{Fails}
use Rattle.grouper_node.proofs.Lists.{sum_taken, puts_alike}

-- ---- the same over lists that are the same

module _ (job : Declared) (me groupers m n m' n' : ℕ) (taken taken' put put' : List (List Frame)) (ins : m' ≡ m) (outs : n' ≡ n) (took : taken' ≡ taken) (puts : put' ≡ put) where
  pub keeps_as : GrouperKeeps job (shape_with m groupers n) me (taken_on taken) (taken_on put) → GrouperKeeps job (shape_with m' groupers n') me (taken_on taken') (taken_on put')
  keeps_as h =
      subst (λ (k : ℕ). GrouperKeeps job (shape_with k groupers n') me (taken_on taken') (taken_on put')) (sym ins)
      (subst (λ (k : ℕ). GrouperKeeps job (shape_with m groupers k) me (taken_on taken') (taken_on put')) (sym outs)
      (subst (λ (l : List (List Frame)). GrouperKeeps job (shape_with m groupers n) me (taken_on l) (taken_on put')) (sym took)
      (subst (λ (l : List (List Frame)). GrouperKeeps job (shape_with m groupers n) me (taken_on taken) (taken_on l)) (sym puts) h)))

  pub state_as : (s : GrouperState) → state_is job (shape_with m groupers n) me taken put s → state_is job (shape_with m' groupers n') me taken' put' s
  state_as s h =
      subst (λ (k : ℕ). state_is job (shape_with k groupers n') me taken' put' s) (sym ins)
      (subst (λ (k : ℕ). state_is job (shape_with m groupers k) me taken' put' s) (sym outs)
      (subst (λ (l : List (List Frame)). state_is job (shape_with m groupers n) me l put' s) (sym took)
      (subst (λ (l : List (List Frame)). state_is job (shape_with m groupers n) me taken l s) (sym puts) h)))

-- ---- a sound work

pub few_offered : (ins : List RxSeen) (outs : ShuffleSeen) (w : WorkSeen) (fault : Option NodeFault) → ((k : ℕ) → k < length outs.links → length (put_on outs k) ≤ 2 * sum_by length (taken_off ins) + 1)
    → OffersFew (grouper_view (grouper_of (record w { ins = ins; outs = outs }) fault))
unfolding frames_beside
few_offered ins outs w fault few = few_by_put 0 0 0 true ins outs (λ k there. omega (arith, few k there, sum_taken ins))

module _ (w : WorkSeen) (h : IsSound w) where
  pub lawful_by : (p : ℕ) → p < length w.ins → AreLawfulItems w.job (shape_in w) p w.me (given_on w.ins p)
  lawful_by p less = h.state.stands.gathers.lawful p less

  pub keeps_by : GrouperKeeps w.job (shape_in w) w.me (given_on w.ins) (put_on w.outs)
  keeps_by = h.state.stands.keeps

  pub few_by : PutsFew w
  few_by k less =
      stepping.few_put w.job (shape_in w) w.me (taken_on (taken_off w.ins)) (taken_on (puts_of w.outs)) (sum_by length (taken_off w.ins)) w.state.grouper (still_going w.state.going) w.state.turn w.state.mark w.state.finished
      h.state.stands k less

  pub stands_of : GrouperStands (grouper_of w None)
  stands_of = record {
    job_is = h.state.job_is;
    place = h.place;
    ins_few = h.ins_few;
    outs_few = h.outs_few;
    ins = h.ins;
    outs = h.outs;
    keeps = λ takes. keeps_by;
    lawful = λ none p less. lawful_by p less;
    offers_few = few_offered w.ins w.outs w None few_by;
    quiet = λ none. h.quiet;
  }

-- ---- after a fault

module _ (w : WorkSeen) (ins : List RxSeen) (orders : List (List Frame)) (outs : ShuffleSeen) (state : GrouperState) (bad : NodeFault) (h : IsSound w) (ins_go : InsGo w.ins ins) (outs_go : OutsGo w.outs outs)
    (ins_stand : InsStand w.credits ins) (outs_stand : OutsStand w.credits outs) (put : (k : ℕ) → put_on outs k ≡ put_on w.outs k) where
  abbrev pub failed : WorkSeen
  failed = record w { ins = ins; orders = orders; outs = outs; state = state }

  few_failed : sum_by length (taken_off w.ins) ≤ sum_by length (taken_off ins) → PutsFew failed
  few_failed more k less = omega (arith, few_by w h k (omega (arith, less, outs_go.as_many)), more, ap length (put k))

  -- where what was put keeps the promise over what was taken
  pub fails_by : sum_by length (taken_off w.ins) ≤ sum_by length (taken_off ins)
      → (TakesLawful (grouper_of failed (Some bad)) → GrouperKeeps w.job (shape_in w) w.me (given_on ins) (put_on w.outs))
      → GrouperMeets (grouper_of w None) (grouper_of failed (Some bad)) bad → Fails w failed bad
  fails_by more keeps meets = record {
    goes = record { same = (refl, refl, refl, refl); ins = ins_go; outs = outs_go };
    stands = record {
      job_is = h.state.job_is;
      place = h.place;
      ins_few = (subst (λ (n : ℕ). 1 ≤ n) (sym ins_go.as_many) h.ins_few.0, subst (λ (n : ℕ). n ≤ 16) (sym ins_go.as_many) h.ins_few.1);
      outs_few = (subst (λ (n : ℕ). 1 ≤ n) (sym outs_go.as_many) h.outs_few.0, subst (λ (n : ℕ). n ≤ 16) (sym outs_go.as_many) h.outs_few.1);
      ins = ins_stand;
      outs = outs_stand;
      keeps = λ takes.
          keeps_as w.job w.me w.groupers (length w.ins) (length w.outs.links) (length ins) (length outs.links) (taken_off ins) (taken_off ins) (puts_of w.outs) (puts_of outs)
          ins_go.as_many outs_go.as_many refl (puts_alike w.outs outs outs_go.as_many put) (keeps takes);
      lawful = λ none. absurd (let e : Some bad ≡ None = none in cc);
      offers_few = few_offered ins outs failed (Some bad) (few_failed more);
      quiet = λ none. absurd (let e : Some bad ≡ None = none in cc);
    };
    few = few_failed more;
    meets = meets;
  }

  -- where no frame was taken
  pub fails_same : taken_off ins ≡ taken_off w.ins → GrouperMeets (grouper_of w None) (grouper_of failed (Some bad)) bad → Fails w failed bad
  fails_same same meets =
      fails_by (omega (arith, ap (sum_by length) same))
      (λ takes.
      keeps_as w.job w.me w.groupers (length w.ins) (length w.outs.links) (length w.ins) (length w.outs.links) (taken_off w.ins) (taken_off ins) (puts_of w.outs) (puts_of w.outs) refl refl same refl (keeps_by w h))
      meets

-- ---- why

pub ins_meet : (w after : WorkSeen) (bad : NodeFault) → InsMeet w.ins after.ins bad → GrouperMeets (grouper_of w None) (grouper_of after (Some bad)) bad
ins_meet w after bad met =
    subst (λ (f : NodeFault). GrouperMeets (grouper_of w None) (grouper_of after (Some f)) f) (sym met.named) (inl (met.there, λ d. inl (refl, met.failed d)))

pub outs_meet : (first : ℕ) (w after : WorkSeen) (bad : NodeFault) → first ≡ length w.ins → OutsMeet first w.outs after.outs bad → GrouperMeets (grouper_of w None) (grouper_of after (Some bad)) bad
outs_meet first w after bad count met =
    subst (λ (f : NodeFault). GrouperMeets (grouper_of w None) (grouper_of after (Some f)) f) (sym met.named)
    (inr (met.k, ap (λ (n : ℕ). n + met.k) count, met.there, met.meets))
