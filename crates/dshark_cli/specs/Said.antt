-- What a folder says of a job by the file of its name.
use Rattle.std.specs.Prelude.{ℕ, ◌++◌, List, [], Option, Some, None, Ok, Err, option_map, codes}
use Rattle.ds_base.specs.Outside.{FolderSeen, file_named}
use Rattle.job_values.specs.Said.{Said}
use Rattle.summary_spec.specs.Canonical.{canonical}
use Rattle.summary_spec.specs.Declaration.{Declared}
use Rattle.summary_spec.specs.Reads.{reads}

-- what the file of that name reads as, where the folder has it
abbrev pub said_in : FolderSeen → List ℕ → Option (Said Declared)
said_in folder name = option_map reads (file_named folder.files name)

-- the names of the captures' files that a job declares, where it is one
abbrev pub files_said : Option (Said Declared) → List (List ℕ)
files_said None = []
files_said (Some (Err fault)) = []
files_said (Some (Ok declared)) = declared.files

-- the names of the captures that a job declares, where it is one
abbrev pub names_said : Option (Said Declared) → List (List ℕ)
names_said None = []
names_said (Some (Err fault)) = []
names_said (Some (Ok declared)) = declared.captures

-- the canonical text of a job on a line, and nothing where there is none
abbrev pub canonical_said : Option (Said Declared) → List ℕ
canonical_said None = []
canonical_said (Some (Err fault)) = []
canonical_said (Some (Ok declared)) = canonical declared ++ codes "\n"
