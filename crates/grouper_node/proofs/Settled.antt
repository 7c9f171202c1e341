-- A grouper's work is done exactly where the end was put, all was taken and all is settled.
use Rattle.std.proofs.Common.{ℕ, ◌<◌, ◌≡◌, Bool, true, false, List, length, sym, ◌∙◌, subst, arith}
use Rattle.node_frames.specs.declared.frame.Frame.{Frame}
use Rattle.credit_link.specs.Frames.{has_finish}
use Rattle.summary_spec.specs.Declaration.{Declared}
use Rattle.run_law.specs.Shapes.{Shape}
use Rattle.round_law.specs.Waits.{IsDone}
use Rattle.node_lanes.specs.Ends.{put_on}
use Rattle.node_lanes.specs.Resting.{HasTakenEach, IsSettledEach, SomeToTake, SomeToSettle}
use Rattle.grouper_state.specs.States.{state_is, taken_on}
use Rattle.grouper_state.specs.declared.state.GrouperState.{GrouperState}
use Rattle.grouper_node.specs.Works.{WorkSeen, IsSound, shape_in, taken_off, puts_of}
use Rattle.grouper_node.specs.Steps.{work_view}
use Rattle.grouper_node.proofs.Done.{is_done, done_put, done_settled, done_taken}

-- what the state says of the end
abbrev pub EndsBy : Bool → GrouperState → Type 0
EndsBy ended state =
    (job : Declared) (shape : Shape) (me : ℕ) (taken put : List (List Frame)) → state_is job shape me taken put state → (q : ℕ) → q < length put → has_finish (taken_on put q) ≡ ended

ends_at : (w : WorkSeen) (ended : Bool) → IsSound w → EndsBy ended w.state → (k : ℕ) → k < length w.outs.links → has_finish (put_on w.outs k) ≡ ended
ends_at w ended sound ends k there =
    ends w.job (shape_in w) w.me (taken_off w.ins) (puts_of w.outs) sound.state k (omega (arith, there, sound.state.links_out))

pub work_done : (w : WorkSeen) (ended : Bool) → IsSound w → EndsBy ended w.state → ended ≡ true → HasTakenEach w.ins → IsSettledEach w.outs → IsDone (work_view w)
work_done w ended sound ends is taken settled = is_done 0 0 0 w.ins w.outs sound.outs.holds taken settled (λ k there. ends_at w ended sound ends k there ∙ is)

pub work_open : (w : WorkSeen) (ended : Bool) → IsSound w → EndsBy ended w.state → ended ≡ false → ¬ IsDone (work_view w)
work_open w ended sound ends is done =
    let first : 0 < length w.outs.links = omega (arith, sound.outs_few.0) in
    let wrong : true ≡ false = sym (done_put 0 0 0 w.ins w.outs sound.outs.holds done 0 first) ∙ ends_at w ended sound ends 0 first ∙ is in
    cc

pub work_unsettled : (w : WorkSeen) → IsSound w → SomeToSettle w.outs → ¬ IsDone (work_view w)
work_unsettled w sound some done = done_settled 0 0 0 w.ins w.outs sound.outs.holds done some

pub work_untaken : (w : WorkSeen) → IsSound w → SomeToTake w.ins → ¬ IsDone (work_view w)
work_untaken w sound some done = done_taken 0 0 0 w.ins w.outs sound.outs.holds done some
