-- Files that are there, and the first that is missing.
use Rattle.std.proofs.Common.{ℕ, List, ◌≡◌, Some, None, ap, inl, inr}
use Rattle.std.specs.Prelude.{◌⊎◌, is_some}
use Rattle.ds_base.specs.Faults.{Rose}
use Rattle.ds_base.specs.Outside.{FolderSeen, file_named}
use Rattle.job_inputs.specs.Captures.{AreThereBefore}
use Rattle.input_files.specs.Files.{HasFile, IsUnread}

pub has_file : (folder : FolderSeen) (name bytes : List ℕ) → file_named folder.files name ≡ Some bytes → HasFile folder name
has_file folder name bytes file = ap is_some file

-- a failed read, or a missing file, before which these are there
abbrev pub IsFirstUnread : FolderSeen → FolderSeen → (name : List ℕ) → (names : List (List ℕ)) → (number : ℕ) → Type 0
IsFirstUnread before after name names number =
    Rose before.faults after.faults ⊎ ((file_named before.files name ≡ None) × AreThereBefore before names number)

-- a file that is not read, where those before it are there
pub first_unread : (before after : FolderSeen) (name : List ℕ) (names : List (List ℕ)) (number : ℕ) → AreThereBefore before names number
    → IsUnread before after name → IsFirstUnread before after name names number
first_unread before after name names number there (inl rose) = inl rose
first_unread before after name names number there (inr lacks) = inr (lacks, there)
