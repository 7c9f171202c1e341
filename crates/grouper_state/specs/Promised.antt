-- What the state of a grouper stands for, as a grouper's promise.
use Rattle.std.specs.Prelude.{ℕ, ◌≡◌, ◌<◌, ◌≤◌, ◌+◌, ◌*◌, true, List, None, length, sum_by}
use Rattle.ds_base.specs.Fronts.{IsIn}
use Rattle.node_frames.specs.declared.frame.Frame.{Frame}
use Rattle.node_frames.specs.declared.frame.Frame.TheVariants.{Finish}
use Rattle.summary_spec.specs.Declaration.{Declared}
use Rattle.run_law.specs.Nodes.{GrouperKeeps, GrouperSendsAll, least_of_captures}
use Rattle.run_law.specs.Shapes.{Shape}
use Rattle.grouper_state.specs.States.{state_is, taken_on, taken_more, MayTake, IsAtRest}
use Rattle.grouper_state.specs.declared.state.GrouperState.{GrouperState}

abbrev pub IsPromised : Declared → Shape → (me : ℕ) (taken put : List (List Frame)) → GrouperState → Type 0
IsPromised job shape me taken put s = state_is job shape me taken put s → GrouperKeeps job shape me (taken_on taken) (taken_on put)

-- the same with one frame more taken, which need not have been added
abbrev pub KeepsPromise : Declared → Shape → (me : ℕ) (taken put : List (List Frame)) → GrouperState → Type 0
KeepsPromise job shape me taken put s = state_is job shape me taken put s → (link : ℕ) (frame : Frame) → MayTake job shape me taken link frame
    → GrouperKeeps job shape me (taken_on (taken_more taken link frame)) (taken_on put)

-- where nothing is due, nothing is held back, and the end was put if all captures have ended
abbrev pub SendsAll : Declared → Shape → (me : ℕ) (taken put : List (List Frame)) → GrouperState → Type 0
SendsAll job shape me taken put s = state_is job shape me taken put s → IsAtRest s
    → GrouperSendsAll job shape me (taken_on taken) (taken_on put)
    × (least_of_captures job shape (taken_on taken) ≡ None → s.finished ≡ true)

-- two frames on each link for each one taken, and the end
abbrev pub PutsFew : Declared → Shape → (me : ℕ) (taken put : List (List Frame)) → GrouperState → Type 0
PutsFew job shape me taken put s = state_is job shape me taken put s → (q : ℕ) → q < shape.processors
    → length (taken_on put q) ≤ 2 * sum_by length taken + 1

abbrev pub HasPutEnds : Declared → Shape → (me : ℕ) (taken put : List (List Frame)) → GrouperState → Type 0
HasPutEnds job shape me taken put s = state_is job shape me taken put s → s.finished ≡ true → (q : ℕ) → q < shape.processors
    → IsIn Finish (taken_on put q)
