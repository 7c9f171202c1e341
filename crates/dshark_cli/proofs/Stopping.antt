-- How a run stopped, and what its line names.
use Rattle.std.proofs.Common.{ℕ, List, ◌++◌, ◌≡◌, Option, Some, None, sym, subst}
use Rattle.std.specs.Prelude.{codes}
use Rattle.command_words.specs.Words.{Asked, Accepts}
use Rattle.ds_base.specs.Faults.{IsQuiet}
use Rattle.ds_base.specs.Gain.{GainsPrefix}
use Rattle.ds_base.specs.Outside.{SinkSeen}
use Rattle.run_faults.specs.declared.fault.RunFault.{RunFault}
use Rattle.run_faults.specs.declared.fault.RunFault.TheVariants.{Usage, BadJob, Malformed, ReadFault, WriteFault, OutOfMemory}
use Rattle.run_faults.specs.declared.fault.Stop.{Stop}
use Rattle.run_faults.specs.FaultLine.{line_of}
use Rattle.dshark_cli.specs.Naming.{NamesFault, HasName, SaysFault, IsNamed, fault_of}
use Rattle.dshark_cli.specs.Rooms.{room_of, NamesCapture}
use Rattle.dshark_cli.specs.Run.{Run}

-- the name is the one for what the words ask, which is one thing
pub has_name : (run : Run) (asked : Asked) (name : List ℕ) (fault : RunFault) → ((other : Asked) → Accepts run.words other → other ≡ asked)
    → NamesFault (room_of asked).opens run.before name fault → HasName run (Some fault) name
has_name run asked name (Usage place) only h = tt
has_name run asked name (BadJob fault) only h = tt
has_name run asked name (Malformed capture at what) only h =
    (h.0, λ other asks. subst (λ (a : Asked). NamesCapture (room_of a).opens run.before name capture) (sym (only other asks)) h.1)
has_name run asked name (ReadFault file) only h = tt
has_name run asked name WriteFault only h = tt
has_name run asked name OutOfMemory only h = tt

-- the line of how it stopped is that of its fault
pub line_named : (run : Run) (stop : Option Stop) (fault : Option RunFault) (old new : SinkSeen)
    → fault ≡ fault_of stop → IsNamed run stop → GainsPrefix old.written new.written (line_of stop)
    → (IsQuiet old.faults new.faults → new.written ≡ old.written ++ line_of stop) → SaysFault run old new fault
line_named run stop fault old new is named gained whole = subst (SaysFault run old new) (sym is) (by_stop stop named gained whole)
  where
    by_stop : (stop : Option Stop) → IsNamed run stop → GainsPrefix old.written new.written (line_of stop)
        → (IsQuiet old.faults new.faults → new.written ≡ old.written ++ line_of stop) → SaysFault run old new (fault_of stop)
    by_stop None named gained whole = (codes "c", tt, gained, whole)
    by_stop (Some stop) named gained whole = (stop.name, named, gained, whole)
