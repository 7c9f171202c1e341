-- Sources given back to their folder.
use Rattle.std.specs.Prelude.{ℕ, ◌≡◌, ◌<◌, ◌≤◌, ◌⊎◌, List, length, slice_index_or}
use Rattle.ds_base.specs.Faults.{Rose}
use Rattle.ds_base.specs.Outside.{FolderSeen, FolderStays, SourceSeen}
use Rattle.job_run.specs.Sources.{AreQuiet}

-- the count of failures is as it was, or rose
abbrev pub Grows : (old new : ℕ) → Type 0
Grows old new = (new ≡ old) ⊎ Rose old new

-- The folder goes on as it was. Its count of failures stays where no source has one, and rises where one has.
pub record GivesBack (sources : List SourceSeen) (before after : FolderSeen) : Type 0 where
  pub stays : FolderStays before after
  pub quiet : AreQuiet sources → after.faults ≡ before.faults
  pub rose : (c : ℕ) (d : SourceSeen) → c < length sources → 1 ≤ (slice_index_or sources c d).faults → Rose before.faults after.faults
  pub grows : Grows before.faults after.faults
