-- What a folder says of a job by the file of its name.
use Rattle.std.specs.Prelude.{ℕ, ◌≡◌, List, Some, Ok, Err}
use Rattle.ds_base.specs.Outside.{FolderSeen, file_named}
use Rattle.job_values.specs.declared.fault.JobFault.{JobFault}
use Rattle.summary_spec.specs.Declaration.{Declared}
use Rattle.summary_spec.specs.Reads.{reads}

-- some bytes declare this
abbrev pub IsDeclared : Declared → Type 0
IsDeclared declared = (bytes : List ℕ) × (reads bytes ≡ Ok declared)

-- the file of that name declares this
abbrev pub Declares : FolderSeen → List ℕ → Declared → Type 0
Declares folder name declared = (bytes : List ℕ) × (file_named folder.files name ≡ Some bytes) × (reads bytes ≡ Ok declared)

-- the file of that name declares a job
abbrev pub HasJob : FolderSeen → List ℕ → Type 0
HasJob folder name = (declared : Declared) × Declares folder name declared

-- the file of that name declares none, and this is its first fault
abbrev pub IsBadJob : FolderSeen → List ℕ → JobFault → Type 0
IsBadJob folder name fault = (bytes : List ℕ) × (file_named folder.files name ≡ Some bytes) × (reads bytes ≡ Err fault)
