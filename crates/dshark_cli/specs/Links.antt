-- What a run says of the links of its pipeline.
use Rattle.std.specs.Prelude.{ℕ, ◌≡◌, true, IsTrue, List, [], Option, Some, None}
use Rattle.command_words.specs.Words.{Asked}
use Rattle.command_words.specs.Words.Asked.{AskedRun, AskedSample}
use Rattle.command_words.specs.declared.command.Sizes.{Sizes}
use Rattle.ds_base.specs.Outside.{FolderSeen}
use Rattle.job_inputs.specs.Captures.{AreFiles}
use Rattle.job_inputs.specs.Jobs.{Declares}
use Rattle.summary_spec.specs.Declaration.{Declared}
use Rattle.trace_gen.specs.SampleJob.{sample_job}
use Rattle.new_pipeline.specs.Shapes.{counts_of}
use Rattle.link_rows.specs.Rows.{RowsSeen}
use Rattle.job_run.specs.Rows.{AreRowsOf, AreBoundBelow}
use Rattle.run_faults.specs.declared.fault.RunFault.{RunFault}
use Rattle.sample_run.specs.Made.{made_files}
use Rattle.dshark_cli.specs.Run.{Run}
use Rattle.dshark_cli.specs.Shapes.{shape_of}
use Rattle.dshark_cli.specs.Words.{Give}

-- the rows are those of a pipeline of these sizes, and done where the command ended Ok
pub record ArePipelines (sizes : Sizes) (ended : Option RunFault) (rows : RowsSeen) : Type 0 where
  pub rows_are : AreRowsOf (counts_of (shape_of sizes)) sizes.credits rows
  pub done : ended ≡ None → rows.done ≡ true

-- What the rows say by the command: those of its pipeline, with at least so many frames from each parser to each grouper
-- as its files call for; and no row where it has none.
abbrev pub RowsSay : Asked → FolderSeen → Option RunFault → RowsSeen → Type 0
RowsSay (AskedRun job sizes) folder ended rows = ArePipelines sizes ended rows
    × ((declared : Declared) (files : List (List ℕ)) → IsTrue folder.told → Declares folder job declared → AreFiles folder declared.files files
    → AreBoundBelow declared files (counts_of (shape_of sizes)) rows)
RowsSay (AskedSample number sizes) folder ended rows = ArePipelines sizes ended rows
    × AreBoundBelow sample_job (made_files number) (counts_of (shape_of sizes)) rows
RowsSay _ folder ended rows = rows.rows ≡ []

-- by what the words ask, and none where they are refused
abbrev pub SaysLinks : Run → Option RunFault → RowsSeen → Option Asked → Type 0
SaysLinks run ended rows None = rows.rows ≡ []
SaysLinks run ended rows (Some asked) = RowsSay asked run.before ended rows

abbrev pub SaysRows : Run → Option RunFault → RowsSeen → Type 0
SaysRows run ended rows = (asked : Option Asked) → Give run.words asked → SaysLinks run ended rows asked
