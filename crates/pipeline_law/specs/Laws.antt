-- What is true of a pipeline at every moment, and at its end.
use Rattle.std.specs.Prelude.{ℕ, ◌≡◌, ◌++◌, List, length}
use Rattle.run_law.specs.Laws.{HasWrittenFront, HasEndedWhole}
use Rattle.run_law.specs.Snapshot.{Snapshot}
use Rattle.net_law.specs.Nets.{Net, NetStands, AreFiles, lists_of}
use Rattle.run_rounds.specs.Runs.{AllAreDone}

-- there is a file for each capture of the job, and the sources tell that they have these
pub record TellsFiles (net : Net) (files : List (List ℕ)) : Type 0 where
  pub count : length files ≡ length net.job.captures
  pub are : AreFiles net files

-- each moment is a Snapshot
abbrev pub MomentIsSnapshot : Type 0
MomentIsSnapshot = (net : Net) (files : List (List ℕ)) (start : List ℕ) → NetStands net → TellsFiles net files
    → Snapshot net.job files net.shape start (lists_of net start)

-- what was written is what was there and a front of the report
abbrev pub MomentIsWritten : Type 0
MomentIsWritten = (net : Net) (files : List (List ℕ)) (start : List ℕ) → NetStands net → TellsFiles net files
    → HasWrittenFront net.job files start (start ++ net.merge.gained)

-- where all nodes are done, the report was written, and every link is settled
abbrev pub DoneIsWhole : Type 0
DoneIsWhole = (net : Net) (files : List (List ℕ)) (start : List ℕ) → NetStands net → AllAreDone net → TellsFiles net files
    → HasEndedWhole net.job files net.shape start (lists_of net start)
