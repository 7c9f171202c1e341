-- What becomes of the captures of a job when they are opened and read. The names are those of their files,
-- in the order of the captures' numbers.
use Rattle.std.specs.Prelude.{ℕ, ◌≡◌, ◌⊎◌, ◌<◌, List, [], ◌∷◌, Some, None, IsTrue, length, slice_get}
use Rattle.std.specs.List.{AllByRecursion}
use Rattle.ds_base.specs.Faults.{Rose}
use Rattle.ds_base.specs.Outside.{FolderSeen, file_named}
use Rattle.ds_base.specs.declared.capture.Counts.{Counts}
use Rattle.ds_base.specs.declared.capture.PcapFault.{PcapFault}
use Rattle.ds_base.specs.declared.summary.Summary.{Summary}
use Rattle.central_report.specs.Report.{accepted_from, counts_from}
use Rattle.input_files.specs.Files.{HasFile, HasSound, IsMalformed}
use Rattle.pcap_reader.specs.Good.{good}
use Rattle.summary_spec.specs.Declaration.{Declared}
use Rattle.job_inputs.specs.declared.fault.CapturesFault.{CapturesFault}
use Rattle.job_inputs.specs.declared.fault.CapturesFault.TheVariants.{Malformed, Unread, OutOfMemory}

-- the files of these names have these bytes
abbrev pub AreFiles : FolderSeen → (names files : List (List ℕ)) → Type 0
AreFiles folder [] [] = Unit {0}
AreFiles folder [] (bytes ∷ files) = ⊥
AreFiles folder (name ∷ names) [] = ⊥
AreFiles folder (name ∷ names) (bytes ∷ files) = (file_named folder.files name ≡ Some bytes) × AreFiles folder names files

-- no capture is malformed, whichever interfaces are wanted
abbrev pub AreSound : List (List ℕ) → Type 0
AreSound files = AllByRecursion (λ bytes. (good None bytes).bad ≡ None) files

-- the captures before this one are there and not malformed
abbrev pub AreSoundBefore : FolderSeen → (names : List (List ℕ)) → (capture : ℕ) → Type 0
AreSoundBefore folder names capture = (k : ℕ) (name : List ℕ) → k < capture → slice_get names k ≡ Some name → HasSound folder name

-- all these files are there
abbrev pub AreThere : FolderSeen → (names : List (List ℕ)) → Type 0
AreThere folder names = AllByRecursion (HasFile folder) names

-- the files before this one are there
abbrev pub AreThereBefore : FolderSeen → (names : List (List ℕ)) → (number : ℕ) → Type 0
AreThereBefore folder names number = (k : ℕ) (name : List ℕ) → k < number → slice_get names k ≡ Some name → HasFile folder name

-- This capture has its first malformed place there, it is the first malformed one, and none is missing: all
-- are opened before one is read.
abbrev pub IsFirstMalformed : FolderSeen → (names : List (List ℕ)) → (capture at : ℕ) → PcapFault → Type 0
IsFirstMalformed folder names capture at what =
    (name : List ℕ) × (slice_get names capture ≡ Some name) × IsMalformed folder name at what × AreSoundBefore folder names capture
    × AreThere folder names

-- a read of this file failed, or it is the first that the folder lacks
abbrev pub IsUnreadAt : FolderSeen → FolderSeen → (names : List (List ℕ)) → (number : ℕ) → Type 0
IsUnreadAt before after names number = (name : List ℕ) × (slice_get names number ≡ Some name)
    × (Rose before.faults after.faults ⊎ ((file_named before.files name ≡ None) × AreThereBefore before names number))

-- The captures of these files, the first ones of the job, were read to their ends and none is malformed; the
-- list has the accepted summaries, and the counts say how the records fared.
pub record GathersCaptures (job : Declared) (names : List (List ℕ)) (before after : FolderSeen) (list : List Summary) (counts : List Counts) : Type 0 where
  pub faults : after.faults ≡ before.faults
  pub given : List (List ℕ)
  pub as_many : length given ≡ length names
  pub sound : AreSound given
  pub accepted : list ≡ accepted_from job 0 given
  pub counted : counts ≡ counts_from job 0 given
  pub files : IsTrue before.told → AreFiles before names given

-- Why the captures were not all gathered: the first malformed one, a failed read or a file that is not there, or
-- no memory. Only a failed read was counted.
abbrev pub StopsCaptures : (names : List (List ℕ)) → FolderSeen → FolderSeen → CapturesFault → Type 0
StopsCaptures names before after (Malformed capture at what) = (after.faults ≡ before.faults) × (capture < length names)
    × (IsTrue before.told → IsFirstMalformed before names capture at what)
StopsCaptures names before after (Unread capture) = (capture < length names)
    × (IsTrue before.told → IsUnreadAt before after names capture)
StopsCaptures names before after OutOfMemory = after.faults ≡ before.faults
