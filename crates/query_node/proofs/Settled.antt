-- A processor's work is done exactly where the end was put, all was taken and all is settled.
use Rattle.std.proofs.Common.{ℕ, ◌<◌, ◌≡◌, Bool, true, false, List, length, sym, ap, ◌∙◌, subst, arith}
use Rattle.node_frames.specs.declared.frame.Frame.{Frame}
use Rattle.credit_link.specs.Frames.{has_finish}
use Rattle.summary_spec.specs.Declaration.{Declared}
use Rattle.round_law.specs.Waits.{IsDone}
use Rattle.node_lanes.specs.Ends.{put_on}
use Rattle.node_lanes.specs.Resting.{HasTakenEach, IsSettledEach, SomeToTake, SomeToSettle}
use Rattle.query_state.specs.States.{state_is}
use Rattle.query_state.specs.declared.state.QueryState.{QueryState}
use Rattle.query_node.specs.Works.{WorkSeen, IsSound, taken_off, put_by}
use Rattle.query_node.specs.Steps.{work_view}
use Rattle.query_node.proofs.Done.{is_done, done_put, done_settled, done_taken}

-- what the state says of the end
abbrev pub EndsBy : Bool → QueryState → Type 0
EndsBy ended state = (job : Declared) (taken : List (List Frame)) (put : List Frame) → state_is job taken put state → has_finish put ≡ ended

-- on its one link out
ends_at : (w : WorkSeen) (ended : Bool) → IsSound w → EndsBy ended w.state → (k : ℕ) → k < length w.outs.links → has_finish (put_on w.outs k) ≡ ended
ends_at w ended sound ends k there =
    let first : 0 ≡ k = omega (arith, there, sound.one_out) in
    subst (λ (i : ℕ). has_finish (put_on w.outs i) ≡ ended) first (ends w.job (taken_off w.ins) (put_by w.outs) sound.state)

pub work_done : (w : WorkSeen) (ended : Bool) → IsSound w → EndsBy ended w.state → ended ≡ true → HasTakenEach w.ins → IsSettledEach w.outs → IsDone (work_view w)
work_done w ended sound ends is taken settled = is_done 0 0 0 w.ins w.outs sound.outs.holds taken settled (λ k there. ends_at w ended sound ends k there ∙ is)

pub work_open : (w : WorkSeen) (ended : Bool) → IsSound w → EndsBy ended w.state → ended ≡ false → ¬ IsDone (work_view w)
work_open w ended sound ends is done =
    let first : 0 < length w.outs.links = omega (arith, sound.one_out) in
    let wrong : true ≡ false = sym (done_put 0 0 0 w.ins w.outs sound.outs.holds done 0 first) ∙ ends_at w ended sound ends 0 first ∙ is in
    cc

pub work_unsettled : (w : WorkSeen) → IsSound w → SomeToSettle w.outs → ¬ IsDone (work_view w)
work_unsettled w sound some done = done_settled 0 0 0 w.ins w.outs sound.outs.holds done some

pub work_untaken : (w : WorkSeen) → IsSound w → SomeToTake w.ins → ¬ IsDone (work_view w)
work_untaken w sound some done = done_taken 0 0 0 w.ins w.outs sound.outs.holds done some
