-- What contracts see of sources, sinks and folders.
use Rattle.std.specs.Prelude.{ℕ, List, [], ◌∷◌, ◌≡◌, Bool, true, IsTrue, Option, Some, None, if◌then◌else◌}
use Rattle.std.specs.Str.{bytes_eq}

-- what a contract sees of a source: whether it tells, all its bytes, those left, and its failures
pub record SourceSeen : Type 0 where
  pub told : Bool
  pub whole : List ℕ
  pub left : List ℕ
  pub faults : ℕ

-- it goes on telling, of the same bytes
pub record SourceStays (old new : SourceSeen) : Type 0 where
  pub told : new.told ≡ old.told
  pub whole : IsTrue old.told → new.whole ≡ old.whole

-- as it is when it was just opened: no failure yet, and all its bytes left
pub record IsFresh (source : SourceSeen) : Type 0 where
  pub faults : source.faults ≡ 0
  pub left : IsTrue source.told → source.left ≡ source.whole

-- what a contract sees of a sink: whether it tells, what was written, its failures, and its label
pub record SinkSeen : Type 0 where
  pub told : Bool
  pub written : List ℕ
  pub faults : ℕ
  pub label : List ℕ

-- it goes on telling, and keeps its label
pub record SinkStays (old new : SinkSeen) : Type 0 where
  pub told : new.told ≡ old.told
  pub label : new.label ≡ old.label

-- a file: the bytes of its name, and its bytes
pub record NamedBytes : Type 0 where
  pub name : List ℕ
  pub bytes : List ℕ

-- the bytes of the first file of that name
abbrev pub file_named : List NamedBytes → List ℕ → Option (List ℕ)
file_named [] name = None
file_named (file ∷ files) name = if bytes_eq file.name name then Some file.bytes else file_named files name

-- what a contract sees of a folder: whether it tells, its files, and its failures
pub record FolderSeen : Type 0 where
  pub told : Bool
  pub files : List NamedBytes
  pub faults : ℕ

-- it goes on telling, of the same files
pub record FolderStays (old new : FolderSeen) : Type 0 where
  pub told : new.told ≡ old.told
  pub files : IsTrue old.told → new.files ≡ old.files

-- a source that tells
abbrev pub source_of : List ℕ → List ℕ → ℕ → SourceSeen
source_of whole left faults = record { told = true; whole = whole; left = left; faults = faults }

-- a sink that tells, and has no label
abbrev pub sink_of : List ℕ → ℕ → SinkSeen
sink_of written faults = record { told = true; written = written; faults = faults; label = [] }

-- a folder that tells
abbrev pub folder_of : List NamedBytes → ℕ → FolderSeen
folder_of files faults = record { told = true; files = files; faults = faults }
