-- What a command over a job opens and owes, where the folder's file declares one.
use Rattle.std.proofs.Common.{ℕ, List, ◌≡◌, ◌∙◌, Option, Some, ap}
use Rattle.std.specs.Prelude.{option_map}
use Rattle.command_words.specs.Words.Asked.{AskedCentral}
use Rattle.ds_base.specs.Outside.{FolderSeen}
use Rattle.summary_spec.specs.Declaration.{Declared}
use Rattle.summary_spec.specs.Reads.{reads}
use Rattle.job_inputs.specs.Jobs.{Declares}
use Rattle.dshark_cli.specs.Said.{said_in, files_said, names_said}
use Rattle.job_inputs.specs.Reports.{report_in}
use Rattle.dshark_cli.specs.Reports.{report_said}
use Rattle.dshark_cli.specs.Rooms.{AJobAndItsCaptures, room_of, captures_of}

-- the captures' files are those that it declares
pub captures_declared : (folder : FolderSeen) (name : List ℕ) (declared : Declared) → Declares folder name declared
    → captures_of (AJobAndItsCaptures name) folder ≡ declared.files
captures_declared folder name declared (bytes, file, is) =
    ap (λ (found : Option (List ℕ)). files_said (option_map reads found)) file ∙ ap (λ said. files_said (Some said)) is

-- and the captures' names
pub names_declared : (folder : FolderSeen) (name : List ℕ) (declared : Declared) → Declares folder name declared
    → names_said (said_in folder name) ≡ declared.captures
names_declared folder name declared (bytes, file, is) =
    ap (λ (found : Option (List ℕ)). names_said (option_map reads found)) file ∙ ap (λ said. names_said (Some said)) is

-- what is due is the report of the job
pub report_declared : (folder : FolderSeen) (name : List ℕ) (declared : Declared) → Declares folder name declared
    → (room_of (AskedCentral name)).due folder ≡ report_in folder declared
report_declared folder name declared (bytes, file, is) =
    ap (λ (found : Option (List ℕ)). report_said folder (option_map reads found)) file ∙ ap (λ said. report_said folder (Some said)) is
