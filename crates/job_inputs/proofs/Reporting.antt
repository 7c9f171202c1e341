-- The report of a job over files that are there.
use Rattle.std.proofs.Common.{ℕ, List, [], ◌∷◌, ◌≡◌, ◌∙◌, Some, refl, ap}
use Rattle.ds_base.specs.Outside.{FolderSeen}
use Rattle.central_report.specs.Report.{report}
use Rattle.summary_spec.specs.Declaration.{Declared}
use Rattle.job_inputs.specs.Captures.{AreFiles, AreSound}
use Rattle.job_inputs.specs.Reports.{with_bytes, files_named, report_where, report_in, AreAllSound}

-- these are all there
pub files_are : (folder : FolderSeen) (names files : List (List ℕ)) → AreFiles folder names files → files_named folder names ≡ Some files
files_are folder [] [] are = refl
files_are folder [] (bytes ∷ files) are = absurd are
files_are folder (name ∷ names) [] are = absurd are
files_are folder (name ∷ names) (bytes ∷ files) are =
    ap (λ found. with_bytes found (files_named folder names)) are.0 ∙ ap (with_bytes (Some bytes)) (files_are folder names files are.1)

-- and sound, where none is malformed
pub all_sound : (folder : FolderSeen) (names files : List (List ℕ)) → AreFiles folder names files → AreSound files → AreAllSound folder names
all_sound folder [] files are sound = tt
all_sound folder (name ∷ names) [] are sound = absurd are
all_sound folder (name ∷ names) (bytes ∷ files) are sound = ((bytes, are.0, sound.0), all_sound folder names files are.1 sound.1)

-- the report over them
pub report_is : (folder : FolderSeen) (job : Declared) (files : List (List ℕ)) → AreFiles folder job.files files → report_in folder job ≡ report job files
report_is folder job files are = ap (report_where job) (files_are folder job.files files are)
