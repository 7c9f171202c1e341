-- What a folder says of the file of a name, and how the opening of it ends.
use Rattle.std.specs.Prelude.{ℕ, ◌≡◌, ◌⊎◌, List, [], ◌∷◌, Some, None, IsSome, IsTrue}
use Rattle.ds_base.specs.Faults.{Rose}
use Rattle.ds_base.specs.Outside.{FolderSeen, SourceSeen, IsFresh, file_named}
use Rattle.ds_base.specs.declared.capture.PcapFault.{PcapFault}
use Rattle.input_files.specs.declared.fault.FileFault.{FileFault}
use Rattle.input_files.specs.declared.fault.FileFault.TheVariants.{Unread, OutOfMemory}
use Rattle.pcap_reader.specs.Format.{bad_at}
use Rattle.pcap_reader.specs.Good.{good}

-- the folder has the file of that name
abbrev pub HasFile : FolderSeen → List ℕ → Type 0
HasFile folder name = IsSome (file_named folder.files name)

-- the folder has the file of that name, and as a capture it is not malformed, whichever interface is wanted
abbrev pub HasSound : FolderSeen → List ℕ → Type 0
HasSound folder name = (bytes : List ℕ) × (file_named folder.files name ≡ Some bytes) × ((good None bytes).bad ≡ None)

-- the file of that name has its first malformed place there
abbrev pub IsMalformed : FolderSeen → List ℕ → ℕ → PcapFault → Type 0
IsMalformed folder name at what = (bytes : List ℕ) × (file_named folder.files name ≡ Some bytes) × ((good None bytes).bad ≡ Some (bad_at at what))

-- a read failed, or the folder lacks the file
abbrev pub IsUnread : FolderSeen → FolderSeen → List ℕ → Type 0
IsUnread before after name = Rose before.faults after.faults ⊎ (file_named before.files name ≡ None)

-- the source is as the folder has just opened it: nothing of it was read, and where the folder tells, it is
-- the file of that name
abbrev pub IsOpened : FolderSeen → (name : List ℕ) → SourceSeen → Type 0
IsOpened folder name source = IsFresh source
    × (IsTrue folder.told → IsTrue source.told × (file_named folder.files name ≡ Some source.whole))

-- the sources are those of the files of these names, as the folder has just opened them
abbrev pub AreOpened : FolderSeen → (names : List (List ℕ)) → List SourceSeen → Type 0
AreOpened folder [] [] = Unit {0}
AreOpened folder [] (source ∷ sources) = ⊥
AreOpened folder (name ∷ names) [] = ⊥
AreOpened folder (name ∷ names) (source ∷ sources) = IsOpened folder name source × AreOpened folder names sources

-- Why the file of that name was not opened: the folder failed or lacks it, or no memory.
abbrev pub StopsOpening : (name : List ℕ) → FolderSeen → FolderSeen → FileFault → Type 0
StopsOpening name before after Unread = IsTrue before.told → IsUnread before after name
StopsOpening name before after OutOfMemory = after.faults ≡ before.faults
