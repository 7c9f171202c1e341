-- What becomes of a run: Ok, or a fault with its cause, and what it has written by then.
use Rattle.std.specs.Prelude.{ℕ, ◌≡◌, ◌<◌, ◌++◌, List, Option, Some, None, IsTrue, IsSome, IsSomeAnd, MatchOption}
use Rattle.ds_base.specs.Faults.{Rose}
use Rattle.ds_base.specs.Outside.{FolderSeen, SinkSeen}
use Rattle.run_faults.specs.declared.fault.RunFault.{RunFault}
use Rattle.run_faults.specs.declared.fault.RunFault.TheVariants.{Usage, BadJob, Malformed, ReadFault, WriteFault, OutOfMemory}
use Rattle.job_inputs.specs.Captures.{IsUnreadAt}
use Rattle.job_inputs.specs.Jobs.{IsBadJob}
use Rattle.dshark_cli.specs.Rooms.{Room, job_of, captures_of, most_captures, files_of, most_files, IsSound, LeavesFolder, IsReady, HasReadAll, HasWaited, HasWritten, IsBlamed, HasReadSo}

-- a run: the words, each as its bytes, and what contracts see of the folder and the output before it and after it
pub record Run : Type 0 where
  pub words : List (List ℕ)
  pub before : FolderSeen
  pub after : FolderSeen
  pub old : SinkSeen
  pub new : SinkSeen

abbrev pub run_of : List (List ℕ) → FolderSeen → FolderSeen → SinkSeen → SinkSeen → Run
run_of words before after old new = record { words = words; before = before; after = after; old = old; new = new }

-- A command that ends Ok: nothing failed, and where both tell, what is opened is sound, and all that is due was
-- written.
pub record EndsOk (room : Room) (before after : FolderSeen) (old new : SinkSeen) : Type 0 where
  pub folder_quiet : after.faults ≡ before.faults
  pub out_quiet : new.faults ≡ old.faults
  pub leaves : LeavesFolder room.opens before after
  pub sound : IsTrue before.told → IsSound room.opens before
  pub whole : IsTrue before.told → IsTrue old.told → new.written ≡ old.written ++ room.due before

-- Why a command ends with a fault, and what it has written by then. It is not asked where the words are refused.
abbrev pub EndsBy : Room → FolderSeen → FolderSeen → SinkSeen → SinkSeen → RunFault → Type 0
EndsBy room before after old new (Usage place) = ⊥
EndsBy room before after old new (BadJob fault) = IsSome (job_of room.opens) × (after.faults ≡ before.faults)
    × (IsTrue before.told → IsSomeAnd (job_of room.opens) (λ name. IsBadJob before name fault))
    × (IsTrue old.told → HasWaited room.writes old new)
EndsBy room before after old new (Malformed capture at what) = (capture < most_captures room.opens) × HasReadSo room.blames before after
    × (IsTrue before.told → IsBlamed room.blames before (captures_of room.opens before) capture at what)
    × (IsTrue before.told → IsTrue old.told → HasWritten room.writes (room.due before) old new)
    × (IsTrue old.told → HasWaited room.writes old new)
EndsBy room before after old new (ReadFault file) = (file < most_files room.opens)
    × (IsTrue before.told → IsUnreadAt before after (files_of room.opens before) file)
    × (IsTrue old.told → HasWaited room.writes old new)
EndsBy room before after old new WriteFault = Rose old.faults new.faults × HasReadAll room.writes before after
    × LeavesFolder room.opens before after × (IsTrue before.told → IsReady room.writes room.opens before)
EndsBy room before after old new OutOfMemory = LeavesFolder room.opens before after × (IsTrue old.told → HasWaited room.writes old new)

-- how a command ends
abbrev pub Ends : Room → Run → Option RunFault → Type 0
Ends room run ended = MatchOption ended
    (EndsOk room run.before run.after run.old run.new)
    (EndsBy room run.before run.after run.old run.new)
