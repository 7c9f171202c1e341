-- The reading of a capture: what was read of its source so far, and which records were given so far.
use Rattle.std.specs.Prelude.{ℕ, ◌≡◌, ◌<◌, ◌≤◌, ◌+◌, ◌*◌, ◌-◌, ◌^◌, ◌++◌, List, Option, Result, length, IsTrue}
use Rattle.ds_base.specs.Faults.{Rose}
use Rattle.ds_base.specs.Outside.{SourceSeen}
use Rattle.ds_base.specs.declared.capture.Bad.{Bad}
use Rattle.input_files.specs.declared.fault.FileFault.{FileFault}
use Rattle.input_files.specs.declared.fault.FileFault.TheVariants.{Unread, OutOfMemory}
use Rattle.input_files.specs.declared.reading.Piece.{Piece}
use Rattle.input_files.specs.declared.reading.Piece.TheVariants.{More, End}
use Rattle.pcap_reader.specs.Captured.{Captured}
use Rattle.pcap_reader.specs.Lent.{Gives}
use Rattle.pcap_reader.specs.Reader.{Reader, StandsFor, bytes_fed, bytes_held, bytes_left, records_given}
use Rattle.pcap_reader.specs.declared.record.RecordRef.{RecordRef}

-- what contracts see of a reading: its reader, and how many bytes a read asks for
pub record Reading : Type 0 where
  pub reader : Reader
  pub piece : ℕ

-- how many bytes were read
abbrev pub bytes_read : Reading → ℕ
bytes_read reading = bytes_fed reading.reader

-- how many records were given
abbrev pub records_read : Reading → ℕ
records_read reading = records_given reading.reader

-- What is left to do: a loop over `next` and `read` ends, since each record and each piece makes it less.
abbrev pub work_left : Reading → ℕ
work_left reading = (2 ^ 62 - bytes_read reading) * 2 ^ 62 + bytes_left reading.reader

-- These bytes of the source were read, and these records of them that are wanted were given. Where the source tells,
-- the bytes are the front of its file, and what is left of it stands after them.
pub record HasRead (wanted : Option ℕ) (reading : Reading) (source : SourceSeen) (bytes : List ℕ) (given : List Captured) : Type 0 where
  pub stands : StandsFor wanted reading.reader bytes given
  pub front : IsTrue source.told → source.whole ≡ bytes ++ source.left

-- One piece more of the source was read: it stands after what was read before, and no record of it was given.
pub record ReadsMore (old new : Reading) (before after : SourceSeen) : Type 0 where
  pub piece : List ℕ
  pub some : 0 < length piece
  pub most : length piece ≤ old.piece
  pub reads : (wanted : Option ℕ) (bytes : List ℕ) (given : List Captured) → HasRead wanted old before bytes given → HasRead wanted new after (bytes ++ piece) given
  pub given : records_read new ≡ records_read old
  pub read : bytes_read new ≡ bytes_read old + length piece
  pub held : bytes_held new.reader ≤ bytes_held old.reader + length piece
  pub asks : new.piece ≡ old.piece
  pub less : (first : Reading) → bytes_read old ≡ bytes_read first → work_left new < work_left first

-- The source is at its end: where it tells, what was read is its whole file.
pub record ReadsEnd (old new : Reading) (before after : SourceSeen) : Type 0 where
  pub same : new ≡ old
  pub reads : (wanted : Option ℕ) (bytes : List ℕ) (given : List Captured) → HasRead wanted old before bytes given → HasRead wanted new after bytes given
  pub whole : (wanted : Option ℕ) (bytes : List ℕ) (given : List Captured) → HasRead wanted old before bytes given → IsTrue before.told → before.whole ≡ bytes

-- what a read answers, and the reading and the source afterwards
abbrev pub Reads : Reading → Reading → SourceSeen → SourceSeen → Piece → Type 0
Reads old new before after More = (after.faults ≡ before.faults) × ReadsMore old new before after
Reads old new before after End = (after.faults ≡ before.faults) × ReadsEnd old new before after

-- the same, where the bytes read so far are noted: those of the piece stand at the end of the notes
abbrev pub ReadsNoted : Reading → Reading → SourceSeen → SourceSeen → (noted noted' : List ℕ) → Piece → Type 0
ReadsNoted old new before after noted noted' More =
    (after.faults ≡ before.faults) × ((more : ReadsMore old new before after) × (noted' ≡ noted ++ more.piece))
ReadsNoted old new before after noted noted' End = (after.faults ≡ before.faults) × ReadsEnd old new before after × (noted' ≡ noted)

-- Why nothing was read, and what stays: the reading is as it was. After a failed read what was read and what is
-- left are the file as before; where there was no memory for a piece, it was taken of the source and is lost.
abbrev pub StopsPiece : Reading → Reading → SourceSeen → SourceSeen → FileFault → Type 0
StopsPiece old new before after Unread = (new ≡ old) × Rose before.faults after.faults
    × ((wanted : Option ℕ) (bytes : List ℕ) (given : List Captured) → HasRead wanted old before bytes given → HasRead wanted new after bytes given)
StopsPiece old new before after OutOfMemory = (new ≡ old) × (after.faults ≡ before.faults)

-- what a call of `next` answers, and the reading afterwards
abbrev pub GivesOf : Reading → Result (Option RecordRef) Bad → Reading → Type 0
GivesOf old answer new = Gives old.reader answer new.reader × (new.piece ≡ old.piece)
