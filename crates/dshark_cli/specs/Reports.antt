-- The report of a job over the files that a folder has, and how the writing of it ends.
use Rattle.std.specs.Prelude.{ℕ, ◌≡◌, List, [], Option, Some, None, Ok, Err, IsTrue, length}
use Rattle.ds_base.specs.Faults.{Rose}
use Rattle.ds_base.specs.Outside.{FolderSeen, SinkSeen}
use Rattle.central_report.specs.Report.{report}
use Rattle.job_inputs.specs.Captures.{AreFiles, AreSound, StopsCaptures}
use Rattle.job_inputs.specs.declared.fault.CapturesFault.TheVariants.{Malformed, Unread}
use Rattle.job_inputs.specs.Reports.{report_in, AreAllSound}
use Rattle.job_values.specs.Said.{Said}
use Rattle.summary_spec.specs.Declaration.{Declared}
use Rattle.job_inputs.specs.declared.fault.ReportFault.{ReportFault}
use Rattle.job_inputs.specs.declared.fault.ReportFault.TheVariants.{Captures, Unwritten}

-- the report of what a job's file reads as, and nothing where there is no job
abbrev pub report_said : FolderSeen → Option (Said Declared) → List ℕ
report_said folder None = []
report_said folder (Some (Err fault)) = []
report_said folder (Some (Ok job)) = report_in folder job

-- All captures were read to their ends, none is malformed, and the text is the report of the job over them.
pub record ReportsCaptures (job : Declared) (before after : FolderSeen) (text : List ℕ) : Type 0 where
  pub faults : after.faults ≡ before.faults
  pub given : List (List ℕ)
  pub as_many : length given ≡ length job.files
  pub sound : AreSound given
  pub says : text ≡ report job given
  pub files : IsTrue before.told → AreFiles before job.files given

-- this holds of the capture that the fault is of, where it is one's
abbrev pub IfCapture : ReportFault → (ℕ → Type 0) → Type 0
IfCapture (Captures (Malformed capture at what)) P = P capture
IfCapture (Captures (Unread capture)) P = P capture
IfCapture _ P = Unit {0}

-- Why the report was not written whole. Nothing is written before all captures were read, and no read had
-- failed where a write fails.
abbrev pub StopsReport : Declared → FolderSeen → FolderSeen → SinkSeen → SinkSeen → ReportFault → Type 0
StopsReport job before after old new (Captures fault) = StopsCaptures job.files before after fault × (new.written ≡ old.written)
StopsReport job before after old new Unwritten = Rose old.faults new.faults × (after.faults ≡ before.faults)
    × (IsTrue before.told → AreAllSound before job.files)
