-- Which capture the line of a fault names.
use Rattle.std.specs.Prelude.{ℕ, ◌≡◌, ◌++◌, List, true, Option, Some, None, slice_get}
use Rattle.ds_base.specs.Faults.{IsQuiet}
use Rattle.ds_base.specs.Gain.{GainsPrefix}
use Rattle.ds_base.specs.Outside.{FolderSeen, SinkSeen}
use Rattle.job_table.specs.Words.{is_identifier}
use Rattle.run_faults.specs.FaultLine.{owed_line}
use Rattle.run_faults.specs.declared.fault.RunFault.{RunFault}
use Rattle.run_faults.specs.declared.fault.RunFault.TheVariants.{Malformed}
use Rattle.run_faults.specs.declared.fault.Stop.{Stop}
use Rattle.dshark_cli.specs.Rooms.{Opens, NamesCapture}
use Rattle.dshark_cli.specs.Promises.{IfAsked}
use Rattle.dshark_cli.specs.Run.{Run}

-- this holds of the capture, where the fault is that one is malformed
abbrev pub IfMalformed : RunFault → (ℕ → Type 0) → Type 0
IfMalformed (Malformed capture at what) P = P capture
IfMalformed _ P = Unit {0}

-- the name is an identifier, and the capture of this number has it
abbrev pub IsNameAt : List (List ℕ) → (name : List ℕ) → (capture : ℕ) → Type 0
IsNameAt names name capture = (is_identifier name ≡ true) × (slice_get names capture ≡ Some name)

-- Where a capture is malformed, the name is an identifier, and that of the capture. No other fault has one.
abbrev pub NamesFault : Opens → FolderSeen → (name : List ℕ) → RunFault → Type 0
NamesFault opens folder name fault = IfMalformed fault (λ capture. (is_identifier name ≡ true) × NamesCapture opens folder name capture)

-- the same, by whatever the words ask
abbrev pub HasName : Run → Option RunFault → (name : List ℕ) → Type 0
HasName run None name = Unit {0}
HasName run (Some fault) name =
    IfMalformed fault (λ capture. (is_identifier name ≡ true) × IfAsked run (λ room. NamesCapture room.opens run.before name capture))

-- What the standard error gained is a prefix of the fault's line, and all of it where nothing failed there. The
-- line of a malformed capture names that one.
abbrev pub SaysFault : Run → SinkSeen → SinkSeen → Option RunFault → Type 0
SaysFault run old new ended = (name : List ℕ) × HasName run ended name × GainsPrefix old.written new.written (owed_line name ended)
    × (IsQuiet old.faults new.faults → new.written ≡ old.written ++ owed_line name ended)

-- ---- how a run stopped

-- the fault by which it stopped, where it did
abbrev pub fault_of : Option Stop → Option RunFault
fault_of None = None
fault_of (Some stop) = Some stop.fault

-- the name that it has is that of the capture
abbrev pub IsNamed : Run → Option Stop → Type 0
IsNamed run None = Unit {0}
IsNamed run (Some stop) = HasName run (Some stop.fault) stop.name
