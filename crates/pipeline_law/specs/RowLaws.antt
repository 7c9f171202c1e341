-- What is true of the rows of the links of a pipeline.
use Rattle.std.specs.Prelude.{ℕ, ◌≡◌, ◌<◌, ◌≤◌, ◌+◌, ◌*◌, List, All, length, slice_index_or}
use Rattle.credit_link.specs.declared.row.LinkRow.{LinkRow}
use Rattle.round_law.specs.Waits.{IsDone}
use Rattle.round_law.specs.Pipeline.{EachNode}
use Rattle.run_law.specs.Laws.{accepted_between, captures_of}
use Rattle.net_law.specs.Nets.{Net, NetStands}
use Rattle.net_law.specs.Rounds.{view}
use Rattle.run_rounds.specs.Runs.{AllAreDone}
use Rattle.pipeline_law.specs.Laws.{TellsFiles}
use Rattle.pipeline_law.specs.Rows.{AreNumbered, rows_of}

abbrev pub RowsAreNumbered : Type 0
RowsAreNumbered = (net : Net) → NetStands net → AreNumbered net (rows_of net)

-- the most that was held is at most the credits
abbrev pub HeldIsWithin : Type 0
HeldIsWithin = (net : Net) → NetStands net → All (λ (row : LinkRow). row.most_held ≤ net.credits) (rows_of net)

-- as many frames were sent as taken, and at least one
abbrev pub IsWhole : LinkRow → Type 0
IsWhole row = (row.sent ≡ row.taken) × (1 ≤ row.sent)

abbrev pub DoneRowsAgree : Type 0
DoneRowsAgree = (net : Net) → NetStands net → EachNode IsDone (view net) → All IsWhole (rows_of net)

-- from parser p to grouper g
abbrev pub DoneRowsHaveBound : Type 0
DoneRowsHaveBound = (net : Net) (files : List (List ℕ)) → NetStands net → AllAreDone net → TellsFiles net files
    → (p g : ℕ) (d : LinkRow) → p < net.shape.parsers → g < net.shape.groupers
    → length (accepted_between net.job files net.shape p g) + length (captures_of net.job net.shape p) + 1
    ≤ (slice_index_or (rows_of net) (p * net.shape.groupers + g) d).sent
