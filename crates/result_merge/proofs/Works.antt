-- What follows from a sound work, and from one that met a fault.
use Rattle.std.proofs.Common.{ℕ, ◌+◌, ◌<◌, ◌≤◌, ◌≡◌, true, false, None, Some, Option, List, [], ◌++◌, inl, inr, refl, sym, ◌∙◌, subst, arith, ⊎_elim}
use Rattle.ds_base.specs.Outside.{SinkStays}
use Rattle.node_frames.specs.declared.frame.Frame.{Frame}
use Rattle.credit_link.specs.Ends.{RxSeen}
use Rattle.credit_link.specs.declared.turn.NodeFault.{NodeFault}
use Rattle.summary_spec.specs.Declaration.{Declared}
use Rattle.summary_spec.specs.Lawful.{IsLawful}
use Rattle.run_law.specs.Nodes.{MergeKeeps, HasWrittenDue}
use Rattle.run_law.specs.Shapes.{IsFront}
use Rattle.node_lanes.specs.Ends.{InsStand, InsGo}
use Rattle.node_lanes.specs.Passes.{InsMeet}
use Rattle.node_lanes.proofs.Listed.{before_or_not, front_same}
use Rattle.merge_state.specs.declared.state.MergeState.{MergeState}
use Rattle.net_law.specs.Merges as mn
use Rattle.net_law.specs.Merges.{MergeSeen, MergeStands, MergeMeets, MergeRests}
use Rattle.result_merge.specs.Works.{WorkSeen, merge_of, taken_off, taken_on, shape_by, keeps_over, rests_over, IsSound}
use Rattle.result_merge.specs.Steps.{Fails}
use Rattle.result_merge.proofs.Lists.{taken_long}

-- ---- over the links that there are

pub keeps_by : (w : WorkSeen) (fault : Option NodeFault) → keeps_over w.job w.parsers (taken_off w.ins) w.gained
    → (groupers : ℕ) → MergeKeeps w.job (mn.shape_with (merge_of w fault) groupers) (mn.counts_on (merge_of w fault)) (mn.answers_on (merge_of w fault)) [] w.gained
keeps_by w fault keeps groupers =
    subst (λ (n : ℕ). MergeKeeps w.job (shape_by w.parsers n groupers) (taken_on (taken_off w.ins)) (λ q. taken_on (taken_off w.ins) (w.parsers + q)) [] w.gained) (taken_long w.ins) (keeps groupers)

pub rests_by : (w : WorkSeen) (fault : Option NodeFault) → rests_over w.job w.parsers (taken_off w.ins) w.gained → MergeRests (merge_of w fault)
rests_by w fault rests groupers =
    subst (λ (n : ℕ). HasWrittenDue w.job (shape_by w.parsers n groupers) (taken_on (taken_off w.ins)) (λ q. taken_on (taken_off w.ins) (w.parsers + q)) [] w.gained) (taken_long w.ins) (rests groupers)

pub rests_of : (w : WorkSeen) (fault : Option NodeFault) → MergeRests (merge_of w fault) → rests_over w.job w.parsers (taken_off w.ins) w.gained
rests_of w fault rests groupers =
    subst (λ (n : ℕ). HasWrittenDue w.job (shape_by w.parsers n groupers) (taken_on (taken_off w.ins)) (λ q. taken_on (taken_off w.ins) (w.parsers + q)) [] w.gained) (sym (taken_long w.ins)) (rests groupers)

-- what may be written in all is a front of it
pub rests_keeps : (job : Declared) (parsers : ℕ) (taken : List (List Frame)) (written front rest : List ℕ) → written ≡ front ++ rest → rests_over job parsers taken written → keeps_over job parsers taken front
rests_keeps job parsers taken written front rest joined rests groupers = record {
  gained = front;
  since = refl;
  due = λ ordered h. record { rest = rest; joined = sym (rests groupers ordered h) ∙ joined };
}

pub stands_of : (w : WorkSeen) → IsSound w → MergeRests (merge_of w None) → MergeStands (merge_of w None)
stands_of w h rests = record {
  job_is = h.job_is;
  parsers = h.parsers;
  processors = h.processors;
  ins = h.ins;
  keeps = λ takes groupers. keeps_by w None h.keeps groupers;
  whole = λ takes all groupers. rests groupers;
  lawful = λ none. h.lawful;
  quiet = λ none. h.quiet;
}

-- ---- after a fault

module _ (w after : WorkSeen) (bad : NodeFault) (h : IsSound w) (same : (after.job ≡ w.job) × (after.parsers ≡ w.parsers) × (after.credits ≡ w.credits)) (lent : after.lent ≡ w.lent) (ins_go : InsGo w.ins after.ins)
    (ins_stand : InsStand w.credits after.ins) (stays : SinkStays w.sink after.sink) (gained : IsFront w.gained after.gained) (written : mn.SinkGains (merge_of w None) (merge_of after (Some bad))) where
  -- where what was written keeps the promise over what was taken
  pub fails_by : (mn.TakesLawful (merge_of after (Some bad)) → keeps_over after.job after.parsers (taken_off after.ins) after.gained) → MergeMeets (merge_of w None) (merge_of after (Some bad)) bad → Fails w after bad
  fails_by keeps meets = record {
    goes = record {
      same = same;
      ins = ins_go;
      sink = stays;
      gained = gained;
      written = written;
      calm = λ none. absurd (let e : Some bad ≡ None = none in cc);
      kept = λ other e. absurd (let wrong : None ≡ Some other = e in cc);
    };
    lent = lent;
    stands = record {
      job_is = subst (λ job. IsLawful job) (sym same.0) h.job_is;
      parsers = subst (λ (n : ℕ). (1 ≤ n) × (n ≤ 16)) (sym same.1) h.parsers;
      processors = (omega (arith, same.1, ins_go.as_many, h.processors.0), omega (arith, same.1, ins_go.as_many, h.processors.1));
      ins = subst (λ (n : ℕ). InsStand n after.ins) (sym same.2) ins_stand;
      keeps = λ takes groupers. keeps_by after (Some bad) (keeps takes) groupers;
      whole = λ takes all. absurd (let e : false ≡ true = all in cc);
      lawful = λ none. absurd (let e : Some bad ≡ None = none in cc);
      quiet = λ none. absurd (let e : Some bad ≡ None = none in cc);
    };
    meets = meets;
  }

-- ---- why

-- where no frame was taken and nothing was written
pub fails_same : (w : WorkSeen) (ins : List RxSeen) (counts answers : List (List Frame)) (state : MergeState) (bad : NodeFault) → IsSound w → InsGo w.ins ins → InsStand w.credits ins → taken_off ins ≡ taken_off w.ins
    → MergeMeets (merge_of w None) (merge_of (record w { ins = ins; counts = counts; answers = answers; state = state }) (Some bad)) bad → Fails w (record w { ins = ins; counts = counts; answers = answers; state = state }) bad
fails_same w ins counts answers state bad h ins_go ins_stand same meets =
    fails_by w (record w { ins = ins; counts = counts; answers = answers; state = state }) bad h (refl, refl, refl) refl ins_go ins_stand (record { told = refl; label = refl }) (front_same w.gained w.gained refl)
    (λ told start e. e)
    (λ takes. subst (λ (taken : List (List Frame)). keeps_over w.job w.parsers taken w.gained) (sym same) h.keeps)
    meets

pub ins_meet : (w after : WorkSeen) (bad : NodeFault) → InsMeet w.ins after.ins bad → MergeMeets (merge_of w None) (merge_of after (Some bad)) bad
ins_meet w after bad met =
    subst (λ (f : NodeFault). MergeMeets (merge_of w None) (merge_of after (Some f)) f) (sym met.named)
    (⊎_elim
    (λ (parser : met.j < w.parsers). inl (parser, λ groupers d. inl (refl, met.failed d)))
    (λ (processor : w.parsers ≤ met.j). inr (processor, met.there, λ d. inl (refl, met.failed d)))
    (before_or_not met.j w.parsers))
