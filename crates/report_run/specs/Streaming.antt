-- Why the report of a job was not written whole, where it is written while its captures are read.
use Rattle.std.specs.Prelude.{ℕ, ◌≡◌, ◌<◌, IsTrue, List, Some, length, slice_get}
use Rattle.ds_base.specs.Faults.{Rose}
use Rattle.ds_base.specs.Outside.{FolderSeen, SinkSeen}
use Rattle.input_files.specs.Files.{IsMalformed}
use Rattle.job_inputs.specs.Captures.{AreThere, IsUnreadAt}
use Rattle.job_inputs.specs.declared.fault.CapturesFault.TheVariants.{Malformed, Unread, OutOfMemory}
use Rattle.job_inputs.specs.declared.fault.ReportFault.{ReportFault}
use Rattle.job_inputs.specs.declared.fault.ReportFault.TheVariants.{Captures, Unwritten}
use Rattle.summary_spec.specs.Declaration.{Declared}

-- A capture is malformed, whichever it is; a read failed, or it is the first file that is not there; a write failed, and
-- then all files are there; or no memory.
abbrev pub StopsStream : Declared → FolderSeen → FolderSeen → SinkSeen → SinkSeen → ReportFault → Type 0
StopsStream job before after old new (Captures (Malformed capture at what)) = (capture < length job.files)
    × (IsTrue before.told → (name : List ℕ) × (slice_get job.files capture ≡ Some name) × IsMalformed before name at what)
StopsStream job before after old new (Captures (Unread capture)) = (capture < length job.files)
    × (IsTrue before.told → IsUnreadAt before after job.files capture)
StopsStream job before after old new (Captures OutOfMemory) = Unit {0}
StopsStream job before after old new Unwritten = Rose old.faults new.faults × (IsTrue before.told → AreThere before job.files)
