-- What the state of a query processor stands for, as a processor's promise.
use Rattle.std.specs.Prelude.{ℕ, ◌≡◌, ◌≤◌, ◌+◌, ◌*◌, false, List, length, sum_by}
use Rattle.node_frames.specs.declared.frame.Frame.{Frame}
use Rattle.summary_spec.specs.Declaration.{Declared}
use Rattle.run_law.specs.Nodes.{ProcessorKeeps, ProcessorSendsAll, least_of_links}
use Rattle.run_law.specs.Shapes.{Shape}
use Rattle.query_state.specs.States.{state_is, is_mark_due, taken_on}
use Rattle.query_state.specs.declared.state.QueryState.{QueryState}

-- a link in from each grouper, and any numbers of the others
abbrev pub shape_over : (taken : List (List Frame)) → (parsers processors : ℕ) → Shape
shape_over taken parsers processors = record { parsers = parsers; groupers = length taken; processors = processors }

abbrev pub IsPromised : Declared → (taken : List (List Frame)) (put : List Frame) → QueryState → Type 0
IsPromised job taken put s = state_is job taken put s
    → (parsers processors : ℕ) → ProcessorKeeps job (shape_over taken parsers processors) (taken_on taken) put

-- where no mark is due, nothing is held back
abbrev pub NothingIsDue : Declared → (taken : List (List Frame)) (put : List Frame) → QueryState → Type 0
NothingIsDue job taken put s = state_is job taken put s → is_mark_due (least_of_links (length taken) (taken_on taken)) s.mark ≡ false
    → (parsers processors : ℕ) → ProcessorSendsAll job (shape_over taken parsers processors) (taken_on taken) put

-- two frames for each one taken, and those of the profile and the end
abbrev pub PutsFew : Declared → (taken : List (List Frame)) (put : List Frame) → QueryState → Type 0
PutsFew job taken put s = state_is job taken put s → length put ≤ 2 * sum_by length taken + 4097
