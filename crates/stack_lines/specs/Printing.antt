-- What was written of the lines of a capture, what waits to be written, and how the printing ends.
use Rattle.std.specs.Prelude.{ℕ, ◌≡◌, List, [], ◌++◌, Some, None, IsTrue}
use Rattle.std.specs.Option.{option_map_or}
use Rattle.ds_base.specs.Faults.{Rose}
use Rattle.ds_base.specs.Gain.{Gains, GainsPrefix}
use Rattle.ds_base.specs.Outside.{FolderSeen, SourceSeen, SinkSeen, file_named}
use Rattle.input_files.specs.Files.{HasSound, IsMalformed, IsUnread}
use Rattle.input_files.specs.Reading.{Reading, HasRead}
use Rattle.input_files.specs.declared.fault.CaptureFault.TheVariants.{Malformed, Unread, OutOfMemory}
use Rattle.pcap_reader.specs.Captured.{Captured}
use Rattle.pcap_reader.specs.Format.{bad_at}
use Rattle.pcap_reader.specs.Good.{good}
use Rattle.pcap_reader.specs.Reader.{IsWaiting}
use Rattle.stack_lines.specs.declared.fault.PrintFault.{PrintFault}
use Rattle.stack_lines.specs.declared.fault.PrintFault.TheVariants as print
use Rattle.stack_lines.specs.declared.fault.StackFault.{StackFault}
use Rattle.stack_lines.specs.declared.fault.StackFault.TheVariants.{Capture, Unwritten}
use Rattle.stack_lines.specs.declared.line.Asking.{Asking}
use Rattle.stack_lines.specs.declared.printer.Printer.{Printer}
use Rattle.stack_lines.specs.Stacks.{stack_lines, stack_report}

-- the lines of these records, as they are asked for
abbrev pub lines_by : Asking → List Captured → List ℕ
lines_by asking rs = stack_lines asking.port asking.field rs

-- the lines of a capture file, as they are asked for
abbrev pub report_by : Asking → List ℕ → List ℕ
report_by asking bytes = stack_report asking.port asking.field bytes

-- the lines of the file of that name, and nothing where the folder lacks it
abbrev pub lines_in : FolderSeen → Asking → (name : List ℕ) → List ℕ
lines_in folder asking name = option_map_or (report_by asking) (file_named folder.files name) []

-- Where the output tells, the front of this text was written after `start`, and its rest waits.
abbrev pub HasPrinted : (start : List ℕ) → SinkSeen → (waiting text : List ℕ) → Type 0
HasPrinted start out waiting text = IsTrue out.told → Gains start out.written text waiting

-- Where the output tells, a front of this text was written after `start`.
abbrev pub HasBegun : (start : List ℕ) → SinkSeen → List ℕ → Type 0
HasBegun start out text = IsTrue out.told → GainsPrefix start out.written text

-- The text is longer by this, and no write failed.
pub record IsPrinted (old new : Printer) (before after : SinkSeen) (more : List ℕ) : Type 0 where
  pub asking : new.asking ≡ old.asking
  pub faults : after.faults ≡ before.faults
  pub text : (start text : List ℕ) → HasPrinted start before old.text.items text → HasPrinted start after new.text.items (text ++ more)

-- All of the text, and this after it, was written. No write failed.
pub record IsWritten (old : Printer) (before after : SinkSeen) (more : List ℕ) : Type 0 where
  pub faults : after.faults ≡ before.faults
  pub whole : (start text : List ℕ) → HasPrinted start before old.text.items text → IsTrue before.told → after.written ≡ start ++ (text ++ more)

-- Why it was not: a failed write, or no memory, and then no write failed.
abbrev pub StopsPrint : SinkSeen → SinkSeen → PrintFault → Type 0
StopsPrint before after print.Unwritten = Rose before.faults after.faults
StopsPrint before after print.OutOfMemory = after.faults ≡ before.faults

-- ---- of a source

-- The source was read to its end, and the lines of all its records were printed; where it tells, these are
-- those of the whole file.
pub record IsReadTo (asking : Asking) (before after : SourceSeen) (reading : Reading) (printer : Printer) (old new : SinkSeen) : Type 0 where
  pub faults : after.faults ≡ before.faults
  pub quiet : new.faults ≡ old.faults
  pub waiting : IsWaiting reading.reader
  pub given : List ℕ
  pub read : HasRead None reading after given (good None given).records
  pub text : HasPrinted old.written new printer.text.items (lines_by asking (good None given).records)
  pub whole : IsTrue before.told → before.whole ≡ given

-- Why it was not: the first malformed place, before which all lines were written, a failed read, a failed
-- write, or no memory, and then nothing failed.
abbrev pub StopsReadTo : Asking → SourceSeen → SourceSeen → SinkSeen → SinkSeen → StackFault → Type 0
StopsReadTo asking before after old new (Capture (Malformed at what)) = (after.faults ≡ before.faults)
    × (IsTrue before.told → (good None before.whole).bad ≡ Some (bad_at at what))
    × (IsTrue before.told → IsTrue old.told → new.written ≡ old.written ++ lines_by asking (good None before.whole).records)
StopsReadTo asking before after old new (Capture Unread) = Rose before.faults after.faults
StopsReadTo asking before after old new (Capture OutOfMemory) = (after.faults ≡ before.faults) × (new.faults ≡ old.faults)
StopsReadTo asking before after old new Unwritten = Rose old.faults new.faults

-- The lines of all that the source gave were written, and it is not malformed; where it tells, that is the
-- whole file.
pub record PrintsWhole (asking : Asking) (before after : SourceSeen) (old new : SinkSeen) : Type 0 where
  pub faults : after.faults ≡ before.faults
  pub quiet : new.faults ≡ old.faults
  pub given : List ℕ
  pub sound : (good None given).bad ≡ None
  pub written : IsTrue old.told → new.written ≡ old.written ++ report_by asking given
  pub whole : IsTrue before.told → before.whole ≡ given

-- ---- of a file

-- The file of that name was read to its end and is not malformed, and its lines were written. Nothing failed.
pub record PrintsFile (asking : Asking) (name : List ℕ) (before after : FolderSeen) (old new : SinkSeen) : Type 0 where
  pub folder_quiet : after.faults ≡ before.faults
  pub out_quiet : new.faults ≡ old.faults
  pub sound : IsTrue before.told → HasSound before name
  pub whole : IsTrue before.told → IsTrue old.told → new.written ≡ old.written ++ lines_in before asking name

-- Why they were not all written: the first malformed place, before which all lines were written, a file that was
-- not read, a failed write, or no memory, and then nothing failed.
abbrev pub StopsFile : Asking → (name : List ℕ) → FolderSeen → FolderSeen → SinkSeen → SinkSeen → StackFault → Type 0
StopsFile asking name before after old new (Capture (Malformed at what)) = (after.faults ≡ before.faults)
    × (IsTrue before.told → IsMalformed before name at what)
    × (IsTrue before.told → IsTrue old.told → new.written ≡ old.written ++ lines_in before asking name)
StopsFile asking name before after old new (Capture Unread) = IsTrue before.told → IsUnread before after name
StopsFile asking name before after old new (Capture OutOfMemory) = (after.faults ≡ before.faults) × (new.faults ≡ old.faults)
StopsFile asking name before after old new Unwritten = Rose old.faults new.faults
