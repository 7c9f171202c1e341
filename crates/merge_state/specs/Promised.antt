-- What the state of the merge stands for, as the promise of the merge; and what a push adds to the text.
use Rattle.std.specs.Prelude.{ℕ, ◌≡◌, ◌<◌, ◌+◌, ◌-◌, List, [], ◌++◌, length}
use Rattle.node_frames.specs.declared.frame.Frame.{Frame}
use Rattle.summary_spec.specs.Declaration.{Declared}
use Rattle.run_law.specs.Nodes.{MergeKeeps, HasWrittenDue}
use Rattle.run_law.specs.Shapes.{Shape}
use Rattle.merge_state.specs.States.{state_is}
use Rattle.merge_state.specs.declared.stage.Stage.{Stage}
use Rattle.merge_state.specs.declared.stage.Stage.TheVariants.{Answers, Rows, Captures, Ended}
use Rattle.merge_state.specs.declared.state.MergeState.{MergeState}

-- the text got longer by what the new state stands for more
pub record Pushes (job : Declared) (old new : MergeState) (before after : List ℕ) : Type 0 where
  pub more : List ℕ
  pub text : after ≡ before ++ more
  pub stands : (shape : Shape) (counts taken : ℕ → List Frame) (gained : List ℕ) → state_is job shape counts taken gained old → state_is job shape counts taken (gained ++ more) new

-- how many lines may be pushed behind the answers, and one more for each stage that is still to come
abbrev pub left_at : Stage → (rows captures : ℕ) → ℕ
left_at Answers rows captures = rows + captures + 3
left_at (Rows next) rows captures = (rows - next) + captures + 2
left_at (Captures next summaries) rows captures = (captures - next) + 1
left_at Ended rows captures = 0

-- how often a line can still be pushed, if no frame comes
abbrev pub lines_left : MergeState → ℕ
lines_left d = length d.waiting + left_at d.stage (length d.profile) (length d.counts.items)

-- all lines that are due were pushed
abbrev pub NoneIsDue : Declared → MergeState → Type 0
NoneIsDue job d = (shape : Shape) (counts taken : ℕ → List Frame) (gained : List ℕ) → state_is job shape counts taken gained d → HasWrittenDue job shape counts taken [] gained

-- what was pushed is a front of the lines that are due
abbrev pub IsPromised : Declared → Shape → (counts taken : ℕ → List Frame) (gained : List ℕ) → MergeState → Type 0
IsPromised job shape counts taken gained d = state_is job shape counts taken gained d → MergeKeeps job shape counts taken [] gained

-- both have the same on each of n links
abbrev pub AgreeBelow : (n : ℕ) (taken others : ℕ → List Frame) → Type 0
AgreeBelow n taken others = (k : ℕ) → k < n → others k ≡ taken k

-- what a state stands for is told by the links that there are
abbrev pub IsOfLinks : Declared → Shape → (counts others taken more : ℕ → List Frame) (gained : List ℕ) → MergeState → Type 0
IsOfLinks job shape counts others taken more gained d = AgreeBelow shape.parsers counts others → AgreeBelow shape.processors taken more
    → state_is job shape counts taken gained d → state_is job shape others more gained d
