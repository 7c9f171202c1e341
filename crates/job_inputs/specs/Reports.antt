-- The report of a job over the files that a folder has, and what is true once it was written.
use Rattle.std.specs.Prelude.{◌≡◌, ◌++◌, ℕ, List, [], ◌∷◌, Option, Some, None, option_map, IsTrue}
use Rattle.std.specs.List.{AllByRecursion}
use Rattle.ds_base.specs.Outside.{FolderSeen, SinkSeen, file_named}
use Rattle.central_report.specs.Report.{report}
use Rattle.input_files.specs.Files.{HasSound}
use Rattle.summary_spec.specs.Declaration.{Declared}

-- the bytes of a file before those of others, where all are there
abbrev pub with_bytes : Option (List ℕ) → Option (List (List ℕ)) → Option (List (List ℕ))
with_bytes None files = None
with_bytes (Some bytes) files = option_map (λ later. bytes ∷ later) files

-- the bytes of the files of these names, where all are there
abbrev pub files_named : FolderSeen → List (List ℕ) → Option (List (List ℕ))
files_named folder [] = Some []
files_named folder (name ∷ names) = with_bytes (file_named folder.files name) (files_named folder names)

-- the report of a job over these files, and nothing where one is not there
abbrev pub report_where : Declared → Option (List (List ℕ)) → List ℕ
report_where job None = []
report_where job (Some files) = report job files

-- the report of a job over its captures' files
abbrev pub report_in : FolderSeen → Declared → List ℕ
report_in folder job = report_where job (files_named folder job.files)

-- each of these captures is there and not malformed
abbrev pub AreAllSound : FolderSeen → (names : List (List ℕ)) → Type 0
AreAllSound folder names = AllByRecursion (HasSound folder) names

-- All captures were read, none is malformed, and the whole report was written. Nothing failed.
pub record WritesReport (job : Declared) (before after : FolderSeen) (old new : SinkSeen) : Type 0 where
  pub folder_quiet : after.faults ≡ before.faults
  pub out_quiet : new.faults ≡ old.faults
  pub sound : IsTrue before.told → AreAllSound before job.files
  pub whole : IsTrue before.told → IsTrue old.told → new.written ≡ old.written ++ report_in before job
