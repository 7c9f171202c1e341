-- What one push leaves, and several.
use Rattle.std.proofs.Common.{ℕ, List, [], ◌++◌, ◌≡◌, None, sym, ap, subst, ◌∙◌}
use Rattle.std.proofs.lemmas.List.{append-nil}
use Rattle.ds_base.specs.Fronts.{upto}
use Rattle.node_frames.specs.declared.frame.Frame.{Frame}
use Rattle.summary_spec.specs.Declaration.{Declared}
use Rattle.watermarks.specs.Least.{least_mark, under}
use Rattle.run_law.specs.Shapes.{Shape}
use Rattle.merge_state.specs.Promised.{NoneIsDue, Pushes}
use Rattle.merge_state.specs.States.{state_is}
use Rattle.merge_state.specs.declared.stage.Stage.TheVariants.{Answers}
use Rattle.merge_state.specs.declared.state.MergeState.{MergeState}
use Rattle.merge_state.proofs.Stepped as stepped

-- nothing was pushed
pub unpushed : (job : Declared) (old new : MergeState) (before after : List ℕ) → new ≡ old → after ≡ before → Pushes job old new before after
unpushed job old new before after e f = record {
  more = [];
  text = f ∙ sym (append-nil before);
  stands = λ shape counts taken gained h.
      subst (λ (d : MergeState). state_is job shape counts taken (gained ++ []) d) (sym e)
      (subst (λ (text : List ℕ). state_is job shape counts taken text old) (sym (append-nil gained)) h);
}

-- the state changed before, and the text did not
pub pushes_later : (job : Declared) (old now new : MergeState) (before between after : List ℕ)
    → ((shape : Shape) (counts taken : ℕ → List Frame) (gained : List ℕ) → state_is job shape counts taken gained old → state_is job shape counts taken gained now)
    → between ≡ before → Pushes job now new between after → Pushes job old new before after
pushes_later job old now new before between after changes e p = record {
  more = p.more;
  text = p.text ∙ ap (λ (text : List ℕ). text ++ p.more) e;
  stands = λ shape counts taken gained h. p.stands shape counts taken gained (changes shape counts taken gained h);
}

-- no answer is due, and what comes then is not due either
pub no_answer : (job : Declared) (d : MergeState) → d.stage ≡ Answers → upto (λ a. under (least_mark d.marks) a.first.time) d.waiting ≡ [] → ((least_mark d.marks ≡ None) × (d.waiting ≡ []) → ⊥)
    → NoneIsDue job d
no_answer job d is none going = λ shape counts taken gained h.
    stepped.answers_rest job shape counts taken gained d.waiting d.marks d.profile d.counts.items d.groups d.stage h is none going
