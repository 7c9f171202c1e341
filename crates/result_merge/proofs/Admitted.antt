-- A frame that may stand where it came is noted and taken up; one that may not is refused.
use Rattle.std.proofs.Common.{ℕ, ◌-◌, ◌<◌, ◌≤◌, ◌≡◌, List, ◌++◌, length, inl, inr, refl, sym, ap, ◌∙◌, subst, arith, length-append}
use Rattle.node_frames.specs.declared.frame.Frame.{Frame}
use Rattle.credit_link.specs.Frames.{capped, bytes_of_all}
use Rattle.credit_link.specs.declared.link_bad.LinkBad.TheVariants.{Order}
use Rattle.credit_link.specs.declared.turn.NodeFault.{NodeFault}
use Rattle.credit_link.specs.declared.turn.NodeFault.TheVariants.{Link, OutOfMemory}
use Rattle.run_law.specs.Links.{MayFollow, CountsRule, AnswerRule}
use Rattle.run_law.specs.Shapes.{Shape}
use Rattle.merge_state.specs.States.{StateIs, StandsFor, CanTakeCounts, CanTakeAnswers, TakesCounts, TakesAnswers, state_is}
use Rattle.merge_state.specs.declared.state.MergeState.{MergeState}
use Rattle.result_merge.specs.Works.{WorkSeen, noted, taken_on, taken_more, shape_by, state_holds}
use Rattle.result_merge.specs.Steps.{HoldsNoted, TakesUp, Refuses}
use Rattle.result_merge.proofs.Lists.{on_left, on_right, more_left, more_right, more_long}
use Rattle.result_merge.proofs.Taking.{more_here, more_other}

module _ (w : WorkSeen) (j : ℕ) (frame : Frame) (h : HoldsNoted w) where
  abbrev own : Shape
  own = record { parsers = w.parsers; groupers = 0; processors = length w.answers }

  abbrev pub stands_for : StandsFor w.job w.state
  stands_for = record { shape = own; counts = taken_on w.counts; taken = taken_on w.answers; gained = w.gained; is = h.state }

  -- ---- of a parser

  module _ (parser : j < w.parsers) where
    pub in_counts : j < length w.counts
    in_counts = subst (λ (n : ℕ). j < n) (sym h.apart) parser

    takes_counts : MayFollow (CountsRule w.job own j) (taken_on w.counts j) frame → TakesCounts w.job own (taken_on w.counts) (taken_on (taken_more w.counts j frame)) j frame
    takes_counts may = record {
      takes = record {
        there = parser;
        here = more_here w.counts j frame in_counts;
        others = λ k less differs. more_other w.counts j frame in_counts k differs;
      };
      may = may;
    }

    pub can_take_counts : MayFollow (CountsRule w.job own j) (taken_on w.counts j) frame → CanTakeCounts w.state frame
    can_take_counts may = record {
      job = w.job;
      stands = stands_for;
      more = taken_on (taken_more w.counts j frame);
      parser = j;
      takes = takes_counts may;
    }

    pub counts_taken : (counts : List (List Frame)) (state : MergeState) → counts ≡ taken_more w.counts j frame
        → ((shape : Shape) → shape.parsers ≡ w.parsers → MayFollow (CountsRule w.job shape j) (taken_on w.counts j) frame)
        → (state_is w.job own (taken_on w.counts) (taken_on w.answers) w.gained w.state → TakesCounts w.job own (taken_on w.counts) (taken_on (taken_more w.counts j frame)) j frame
        → state_is w.job own (taken_on (taken_more w.counts j frame)) (taken_on w.answers) w.gained state)
        → TakesUp w (record w { counts = counts; state = state }) j frame
    counts_taken counts state more may takes = record {
      rest = refl;
      apart = ap length more ∙ more_long w.counts j frame ∙ h.apart;
      orders = ap (λ (l : List (List Frame)). l ++ w.answers) more ∙ more_left w.counts w.answers j frame in_counts;
      may = record {
        counts = λ less groupers.
            subst (λ (fs : List Frame). MayFollow (CountsRule w.job (shape_by w.parsers (length w.ins) groupers) j) fs frame) (sym (on_left w.counts w.answers j in_counts))
            (may (shape_by w.parsers (length w.ins) groupers) refl);
        answers = λ past. absurd (omega (arith, past, parser));
      };
      state = subst (λ (l : List (List Frame)). state_holds w.job w.parsers l w.answers w.gained state) (sym more) (takes h.state (takes_counts (may own refl)));
    }

    pub counts_refused : (bad : NodeFault) → bad ≡ Link j (Order (capped (length (bytes_of_all (taken_on (noted w) j)))))
        → ((shape : Shape) → shape.parsers ≡ w.parsers → ¬ MayFollow (CountsRule w.job shape j) (taken_on w.counts j) frame) → (counts : List (List Frame))
        → Refuses w (record w { counts = counts }) j frame bad
    counts_refused bad named wrong counts =
        subst (λ (b : NodeFault). Refuses w (record w { counts = counts }) j frame b) (sym named)
        (record {
          rest = refl;
          why = (
            refl,
            refl,
            inl (
              parser,
              λ groupers may. wrong (shape_by w.parsers (length w.ins) groupers) refl
                  (subst (λ (fs : List Frame). MayFollow (CountsRule w.job (shape_by w.parsers (length w.ins) groupers) j) fs frame) (on_left w.counts w.answers j in_counts) may),
            ),
          );
        })

  -- ---- of a processor

  module _ (processor : w.parsers ≤ j) (there : j < length w.ins) where
    pub in_answers : j - w.parsers < length w.answers
    in_answers = omega (arith, processor, there, h.each, h.apart, length-append w.counts w.answers)

    takes_answers : MayFollow (AnswerRule w.job) (taken_on w.answers (j - w.parsers)) frame
        → TakesAnswers w.job own (taken_on w.answers) (taken_on (taken_more w.answers (j - w.parsers) frame)) (j - w.parsers) frame
    takes_answers may = record {
      takes = record {
        there = in_answers;
        here = more_here w.answers (j - w.parsers) frame in_answers;
        others = λ k less differs. more_other w.answers (j - w.parsers) frame in_answers k differs;
      };
      may = may;
    }

    pub can_take_answers : MayFollow (AnswerRule w.job) (taken_on w.answers (j - w.parsers)) frame → CanTakeAnswers w.state (j - w.parsers) frame
    can_take_answers may = record {
      job = w.job;
      stands = stands_for;
      more = taken_on (taken_more w.answers (j - w.parsers) frame);
      takes = takes_answers may;
    }

    pub answers_taken : (answers : List (List Frame)) (state : MergeState) → answers ≡ taken_more w.answers (j - w.parsers) frame → MayFollow (AnswerRule w.job) (taken_on w.answers (j - w.parsers)) frame
        → (state_is w.job own (taken_on w.counts) (taken_on w.answers) w.gained w.state
        → TakesAnswers w.job own (taken_on w.answers) (taken_on (taken_more w.answers (j - w.parsers) frame)) (j - w.parsers) frame
        → state_is w.job own (taken_on w.counts) (taken_on (taken_more w.answers (j - w.parsers) frame)) w.gained state)
        → TakesUp w (record w { answers = answers; state = state }) j frame
    answers_taken answers state more may takes = record {
      rest = refl;
      apart = h.apart;
      orders = ap (λ (l : List (List Frame)). w.counts ++ l) more ∙ more_right w.counts w.answers w.parsers j frame h.apart processor;
      may = record {
        counts = λ less. absurd (omega (arith, less, processor));
        answers = λ past. subst (λ (fs : List Frame). MayFollow (AnswerRule w.job) fs frame) (sym (on_right w.counts w.answers w.parsers j h.apart processor)) may;
      };
      state =
          subst (λ (l : List (List Frame)). StateIs w.job w.parsers (length l) (taken_on w.counts) (taken_on l) w.gained state.waiting state.marks state.profile state.counts.items state.groups state.stage) (sym more)
          (subst (λ (n : ℕ). StateIs w.job w.parsers n (taken_on w.counts) (taken_on (taken_more w.answers (j - w.parsers) frame)) w.gained state.waiting state.marks state.profile state.counts.items state.groups state.stage)
          (sym (more_long w.answers (j - w.parsers) frame)) (takes h.state (takes_answers may)));
    }

    pub answers_refused : (bad : NodeFault) → bad ≡ Link j (Order (capped (length (bytes_of_all (taken_on (noted w) j)))))
        → ¬ MayFollow (AnswerRule w.job) (taken_on w.answers (j - w.parsers)) frame → (answers : List (List Frame)) → Refuses w (record w { answers = answers }) j frame bad
    answers_refused bad named wrong answers =
        subst (λ (b : NodeFault). Refuses w (record w { answers = answers }) j frame b) (sym named)
        (record {
          rest = refl;
          why = (
            refl,
            refl,
            inr (processor, λ may. wrong (subst (λ (fs : List Frame). MayFollow (AnswerRule w.job) fs frame) (on_right w.counts w.answers w.parsers j h.apart processor) may)),
          );
        })

    pub out_of_memory : (answers : List (List Frame)) (state : MergeState) → Refuses w (record w { answers = answers; state = state }) j frame OutOfMemory
    out_of_memory answers state = record { rest = refl; why = tt }
