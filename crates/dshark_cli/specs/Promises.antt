-- The promises of the top call, one a field.
use Rattle.std.specs.Prelude.{ℕ, ◌≡◌, ◌<◌, ◌⊎◌, ◌++◌, List, Option, Some, None, IsSome, IsSomeAnd, IsTrue}
use Rattle.command_words.specs.Words.{Asked, Accepts, IsPlace}
use Rattle.ds_base.specs.Faults.{Rose, IsQuiet}
use Rattle.ds_base.specs.Gain.{GainsPrefix}
use Rattle.ds_base.specs.declared.capture.PcapFault.{PcapFault}
use Rattle.job_values.specs.declared.fault.JobFault.{JobFault}
use Rattle.run_faults.specs.declared.fault.RunFault.{RunFault}
use Rattle.run_faults.specs.declared.fault.RunFault.TheVariants.{Usage, BadJob, Malformed, ReadFault, WriteFault, OutOfMemory}
use Rattle.job_inputs.specs.Captures.{IsUnreadAt}
use Rattle.job_inputs.specs.Jobs.{IsBadJob}
use Rattle.dshark_cli.specs.Rooms.{Room, room_of, job_of, captures_of, most_captures, files_of, most_files, IsSound, LeavesFolder, IsReady, HasReadAll, HasWaited, HasWritten, IsBlamed, HasReadSo}
use Rattle.dshark_cli.specs.Run.{Run}
use Rattle.dshark_cli.specs.Words.{Give, due}

-- the words are accepted, and this holds of the command that they ask for
abbrev pub Asks : Run → (Room → Type 0) → Type 0
Asks run P = (asked : Asked) × Accepts run.words asked × P (room_of asked)

-- this holds of whatever command the words ask for
abbrev pub IfAsked : Run → (Room → Type 0) → Type 0
IfAsked run P = (asked : Asked) → Accepts run.words asked → P (room_of asked)

-- the words are accepted, and what they open is there and sound
abbrev pub AsksSound : Run → Type 0
AsksSound run = Asks run (λ room. IsSound room.opens run.before)

-- the words ask for a job that the folder has and that is refused with this fault
abbrev pub AsksBadJob : Run → JobFault → Type 0
AsksBadJob run fault = Asks run (λ room. IsSomeAnd (job_of room.opens) (λ name. IsBadJob run.before name fault))

-- over accepted words a command that writes at the end answers this fault before it writes
abbrev pub WaitsBefore : RunFault → Type 0
WaitsBefore (Usage place) = ⊥
WaitsBefore WriteFault = ⊥
WaitsBefore _ = Unit {0}

pub record Promises (run : Run) (ended : Option RunFault) : Type 0 where
  -- The words ask at most one thing.
  pub one : (a b : Asked) → Accepts run.words a → Accepts run.words b → a ≡ b
  -- Ok comes only where nothing failed, and where the outside tells, what was opened is sound and the whole text
  -- that is due was written.
  pub ok_is_quiet : ended ≡ None → (run.after.faults ≡ run.before.faults) × (run.new.faults ≡ run.old.faults)
  pub ok_is_whole : ended ≡ None → IsTrue run.before.told → IsTrue run.old.told →
      Asks run (λ room. IsSound room.opens run.before × (run.new.written ≡ run.old.written ++ room.due run.before))
  pub ok_is_sound : ended ≡ None → IsTrue run.before.told → AsksSound run
  -- Whenever it ends, what was written is a prefix of what is due, which is nothing where the words are refused.
  pub always_a_prefix : IsTrue run.before.told → IsTrue run.old.told → (asked : Option Asked) → Give run.words asked →
      GainsPrefix run.old.written run.new.written (due asked run.before)
  -- `Usage` comes exactly where the words are refused, and then nothing is touched.
  pub usage : (place : ℕ) → ended ≡ Some (Usage place) → IsPlace run.words place
  pub refused : (place : ℕ) → IsPlace run.words place → ended ≡ Some (Usage place)
  pub untouched : (place : ℕ) → IsPlace run.words place → (run.after ≡ run.before) × (run.new ≡ run.old)
  -- `BadJob` comes only from a command with a job, where no read failed, and with the first fault of its bytes;
  -- and where these have one and nothing failed, it comes, but for want of memory.
  pub bad_job : (fault : JobFault) → ended ≡ Some (BadJob fault) → Asks run (λ room. IsSome (job_of room.opens))
      × (run.after.faults ≡ run.before.faults) × (IsTrue run.before.told → AsksBadJob run fault)
  pub job_refused : (fault : JobFault) → IsTrue run.before.told → AsksBadJob run fault → IsQuiet run.before.faults run.after.faults →
      (ended ≡ Some (BadJob fault)) ⊎ (ended ≡ Some OutOfMemory)
  -- `Malformed` names a capture that the command opens, the one that it has to name, with its first malformed
  -- place; no read failed, if captures are read one by one. A command that writes in step has written all that is due.
  pub malformed : (capture at : ℕ) (what : PcapFault) → ended ≡ Some (Malformed capture at what) →
      Asks run (λ room. capture < most_captures room.opens) × Asks run (λ room. HasReadSo room.blames run.before run.after)
      × (IsTrue run.before.told → Asks run (λ room. IsBlamed room.blames run.before (captures_of room.opens run.before) capture at what))
  pub written : (capture at : ℕ) (what : PcapFault) → ended ≡ Some (Malformed capture at what) → IsTrue run.before.told → IsTrue run.old.told →
      IfAsked run (λ room. HasWritten room.writes (room.due run.before) run.old run.new)
  -- `ReadFault` names a file that the command opens: a call of the folder or of a source failed, or it is the
  -- first file that the folder lacks.
  pub unread : (file : ℕ) → ended ≡ Some (ReadFault file) → Asks run (λ room. file < most_files room.opens)
      × (IsTrue run.before.told → Asks run (λ room. IsUnreadAt run.before run.after (files_of room.opens run.before) file))
  -- Before a fault other than `WriteFault` a command that writes at the end has written nothing.
  pub waited : (fault : RunFault) → ended ≡ Some fault → WaitsBefore fault → IsTrue run.old.told →
      IfAsked run (λ room. HasWaited room.writes run.old run.new)
  -- `WriteFault` comes only where a write failed, and hides no failed read of a command that writes at the end.
  pub unwritten : ended ≡ Some WriteFault → Rose run.old.faults run.new.faults
  pub ready : ended ≡ Some WriteFault → Asks run (λ room. HasReadAll room.writes run.before run.after)
      × (IsTrue run.before.told → Asks run (λ room. IsReady room.writes room.opens run.before))
  -- A command that opens no file leaves the folder alone.
  pub opens_nothing : IfAsked run (λ room. LeavesFolder room.opens run.before run.after)
  -- Where nothing is wrong and nothing failed, it ends Ok or for want of memory.
  pub complete : IsTrue run.before.told → AsksSound run → IsQuiet run.before.faults run.after.faults → IsQuiet run.old.faults run.new.faults →
      (ended ≡ None) ⊎ (ended ≡ Some OutOfMemory)
