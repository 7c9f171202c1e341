-- What the reading of a job's file answers.
use Rattle.std.specs.Prelude.{ℕ, ◌≡◌, ◌≤◌, ◌++◌, List, IsTrue, Ok, Err, length}
use Rattle.ds_base.specs.Faults.{Rose}
use Rattle.ds_base.specs.Outside.{SourceSeen, FolderSeen}
use Rattle.input_files.specs.Files.{IsUnread}
use Rattle.input_files.specs.declared.fault.FileFault.{FileFault}
use Rattle.input_files.specs.declared.fault.FileFault.TheVariants as file
use Rattle.summary_spec.specs.declared.job.Job.{Job}
use Rattle.summary_spec.specs.Job.{declared_of}
use Rattle.summary_spec.specs.Reads.{reads}
use Rattle.job_inputs.specs.declared.fault.JobFileFault.{JobFileFault}
use Rattle.job_inputs.specs.declared.fault.JobFileFault.TheVariants.{Bad, Unread, OutOfMemory}
use Rattle.job_inputs.specs.Jobs.{Declares, IsDeclared, IsBadJob}

-- the fault is that of the file
abbrev pub IsOfFile : FileFault → JobFileFault → Type 0
IsOfFile file.Unread fault = fault ≡ Unread
IsOfFile file.OutOfMemory fault = fault ≡ OutOfMemory

-- Where the source tells, at most so many of its bytes were taken.
abbrev pub TakesAtMost : (most : ℕ) → SourceSeen → SourceSeen → Type 0
TakesAtMost most before after = IsTrue before.told → (taken : List ℕ) × (before.whole ≡ taken ++ after.left) × (length taken ≤ most)

-- No read failed, the bytes that were read declare this job, and where the source tells, so does its whole file.
pub record TakesJob (before after : SourceSeen) (job : Job) : Type 0 where
  pub faults : after.faults ≡ before.faults
  pub said : IsDeclared (declared_of job)
  pub declares : IsTrue before.told → reads before.whole ≡ Ok (declared_of job)

-- Why no job was taken: the first fault of the bytes, a failed read, or no memory.
abbrev pub StopsTaking : SourceSeen → SourceSeen → JobFileFault → Type 0
StopsTaking before after (Bad fault) = (after.faults ≡ before.faults) × (IsTrue before.told → reads before.whole ≡ Err fault)
StopsTaking before after Unread = Rose before.faults after.faults
StopsTaking before after OutOfMemory = after.faults ≡ before.faults

-- The file of that name was read, what was read declares this job, and where the folder tells, so does the file.
pub record ReadsJob (before after : FolderSeen) (name : List ℕ) (job : Job) : Type 0 where
  pub faults : after.faults ≡ before.faults
  pub said : IsDeclared (declared_of job)
  pub declares : IsTrue before.told → Declares before name (declared_of job)

-- Why no job was read: the first fault of the file, a failed read or no such file, or no memory. Only a
-- failed read was counted.
abbrev pub StopsJob : FolderSeen → FolderSeen → List ℕ → JobFileFault → Type 0
StopsJob before after name (Bad fault) = (after.faults ≡ before.faults) × (IsTrue before.told → IsBadJob before name fault)
StopsJob before after name Unread = IsTrue before.told → IsUnread before after name
StopsJob before after name OutOfMemory = after.faults ≡ before.faults
