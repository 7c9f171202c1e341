-- What follows from a sound work, and from one that met a fault.
use Rattle.std.proofs.Common.{ℕ, ◌+◌, ◌*◌, ◌<◌, ◌≤◌, ◌≡◌, true, None, Some, Option, List, length, get_or, inl, inr, refl, sym, ap, ◌∙◌, subst, arith}
use Rattle.std.specs.List.{sum_by}
use Rattle.node_frames.specs.declared.frame.Frame.{Frame}
use Rattle.credit_link.specs.Ends.{RxSeen}
use Rattle.credit_link.specs.declared.turn.NodeFault.{NodeFault}
use Rattle.shuffle_poll.specs.Shuffles.{ShuffleSeen}
use Rattle.summary_spec.specs.Declaration.{Declared}
use Rattle.round_law.specs.Rows.{OffersFew, frames_beside, taken_up}
use Rattle.run_law.specs.Links.{AreLawfulGroups}
use Rattle.run_law.specs.Nodes.{ProcessorKeeps}
use Rattle.node_lanes.specs.Ends.{given_on, put_on, InsStand, OutsStand, InsGo, OutsGo}
use Rattle.node_lanes.specs.Faults.{TxMeets}
use Rattle.node_lanes.specs.Passes.{InsMeet, OutsMeet}
use Rattle.node_lanes.proofs.Going.{few_by_put}
use Rattle.query_state.specs.States.{state_is, taken_on}
use Rattle.query_state.specs.declared.state.QueryState.{QueryState}
use Rattle.query_state.proofs.Stepping as stepping
use Rattle.net_law.specs.Processors.{ProcessorStands, ProcessorMeets, TakesLawful, processor_view}
use Rattle.query_node.specs.Works.{WorkSeen, processor_of, taken_off, put_by, IsSound}
use Rattle.query_node.specs.Steps.{Fails}
use Rattle.query_node.proofs.Lists.{taken_long, sum_taken}

-- ---- the state over the links

module _ (job : Declared) (ins : List RxSeen) (put : List Frame) (s : QueryState) (h : state_is job (taken_off ins) put s) where
  pub lawful_by : (g : ℕ) → g < length ins → AreLawfulGroups job (given_on ins g)
  lawful_by g less = h.stands.arrives.lawful g (omega (arith, less, taken_long ins))

  pub keeps_by : (parsers processors : ℕ) → ProcessorKeeps job (record { parsers = parsers; groupers = length ins; processors = processors }) (given_on ins) put
  keeps_by parsers processors =
      subst (λ (n : ℕ). ProcessorKeeps job (record { parsers = parsers; groupers = n; processors = processors }) (given_on ins) put) (taken_long ins)
      (stepping.promised job (length (taken_off ins)) (sum_by length (taken_off ins)) (taken_on (taken_off ins)) put s.profile s.mark s.next s.finished h.stands parsers processors)

  pub few_by : length put ≤ 2 * sum_by length (taken_off ins) + 4097
  few_by = stepping.few_put job (length (taken_off ins)) (sum_by length (taken_off ins)) (taken_on (taken_off ins)) put s.profile s.mark s.next s.finished h.stands 0 0 h.few_rows

pub few_offered : (ins : List RxSeen) (outs : ShuffleSeen) (w : WorkSeen) (fault : Option NodeFault) → length outs.links ≡ 1 → length (put_by outs) ≤ 2 * sum_by length (taken_off ins) + 4097
    → OffersFew (processor_view (processor_of (record w { ins = ins; outs = outs }) fault))
unfolding frames_beside
few_offered ins outs w fault one few =
    few_by_put 0 0 0 true ins outs
    (λ k there.
    let first : 0 ≡ k = omega (arith, there, one) in
    subst (λ (i : ℕ). length (put_on outs i) ≤ 2 * taken_up (processor_view (processor_of (record w { ins = ins; outs = outs }) fault)) + frames_beside) first (omega (arith, few, sum_taken ins)))

pub stands_of : (w : WorkSeen) → IsSound w → ProcessorStands (processor_of w None)
stands_of w h = record {
  job_is = h.job_is;
  ins_few = h.ins_few;
  one_out = h.one_out;
  ins = h.ins;
  outs = h.outs;
  keeps = λ takes parsers processors. keeps_by w.job w.ins (put_by w.outs) w.state h.state parsers processors;
  lawful = λ none g less. lawful_by w.job w.ins (put_by w.outs) w.state h.state g less;
  offers_few = few_offered w.ins w.outs w None h.one_out (few_by w.job w.ins (put_by w.outs) w.state h.state);
  quiet = λ none. h.quiet;
}

-- ---- after a fault

module _ (w : WorkSeen) (ins : List RxSeen) (orders : List (List Frame)) (outs : ShuffleSeen) (state : QueryState) (bad : NodeFault) (h : IsSound w) (ins_go : InsGo w.ins ins) (outs_go : OutsGo w.outs outs)
    (ins_stand : InsStand w.credits ins) (outs_stand : OutsStand w.credits outs) (put : put_by outs ≡ put_by w.outs) where
  abbrev pub failed : WorkSeen
  failed = record w { ins = ins; orders = orders; outs = outs; state = state }

  -- where what was put keeps the promise over what was taken
  pub fails_by : sum_by length (taken_off w.ins) ≤ sum_by length (taken_off ins)
      → (TakesLawful (processor_of failed (Some bad)) → (parsers processors : ℕ) → ProcessorKeeps w.job (record { parsers = parsers; groupers = length ins; processors = processors }) (given_on ins) (put_by w.outs))
      → ProcessorMeets (processor_of w None) (processor_of failed (Some bad)) bad → Fails w failed bad
  fails_by more keeps meets = record {
    goes = record { same = (refl, refl); ins = ins_go; outs = outs_go };
    stands = record {
      job_is = h.job_is;
      ins_few = (subst (λ (n : ℕ). 1 ≤ n) (sym ins_go.as_many) h.ins_few.0, subst (λ (n : ℕ). n ≤ 16) (sym ins_go.as_many) h.ins_few.1);
      one_out = outs_go.as_many ∙ h.one_out;
      ins = ins_stand;
      outs = outs_stand;
      keeps = λ takes parsers processors.
          subst (λ (frames : List Frame). ProcessorKeeps w.job (record { parsers = parsers; groupers = length ins; processors = processors }) (given_on ins) frames) (sym put) (keeps takes parsers processors);
      lawful = λ none. absurd (let e : Some bad ≡ None = none in cc);
      offers_few = few_offered ins outs failed (Some bad) (outs_go.as_many ∙ h.one_out) (omega (arith, few_by w.job w.ins (put_by w.outs) w.state h.state, more, ap length put));
      quiet = λ none. absurd (let e : Some bad ≡ None = none in cc);
    };
    few = omega (arith, few_by w.job w.ins (put_by w.outs) w.state h.state, more, ap length put);
    meets = meets;
  }

  -- where no frame was taken
  pub fails_same : taken_off ins ≡ taken_off w.ins → ProcessorMeets (processor_of w None) (processor_of failed (Some bad)) bad → Fails w failed bad
  fails_same same meets =
      fails_by (omega (arith, ap (sum_by length) same))
      (λ takes parsers processors.
      subst (λ (n : ℕ). ProcessorKeeps w.job (record { parsers = parsers; groupers = n; processors = processors }) (given_on ins) (put_by w.outs)) (sym ins_go.as_many)
      (subst (λ (lists : List (List Frame)). ProcessorKeeps w.job (record { parsers = parsers; groupers = length w.ins; processors = processors }) (taken_on lists) (put_by w.outs)) (sym same)
      (keeps_by w.job w.ins (put_by w.outs) w.state h.state parsers processors)))
      meets

-- ---- why

pub ins_meet : (w after : WorkSeen) (bad : NodeFault) → InsMeet w.ins after.ins bad → ProcessorMeets (processor_of w None) (processor_of after (Some bad)) bad
ins_meet w after bad met =
    subst (λ (f : NodeFault). ProcessorMeets (processor_of w None) (processor_of after (Some f)) f) (sym met.named) (inl (met.there, λ d. inl (refl, met.failed d)))

pub outs_meet : (first : ℕ) (w after : WorkSeen) (bad : NodeFault) → first ≡ length w.ins → length w.outs.links ≡ 1 → OutsMeet first w.outs after.outs bad
    → ProcessorMeets (processor_of w None) (processor_of after (Some bad)) bad
outs_meet first w after bad count one met =
    let zero : met.k ≡ 0 = omega (arith, met.there, one) in
    subst (λ (f : NodeFault). ProcessorMeets (processor_of w None) (processor_of after (Some f)) f) (sym met.named)
    (inr (omega (arith, count, zero), λ d. subst (λ (k : ℕ). TxMeets (get_or w.outs.links k d) (get_or after.outs.links k d) met.bad) zero (met.meets d)))
