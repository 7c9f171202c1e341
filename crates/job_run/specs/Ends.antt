-- How the run of a job ends: whole, or by a fault with its cause.
use Rattle.std.specs.Prelude.{ℕ, ◌≡◌, ◌<◌, ◌≤◌, ◌++◌, true, IsTrue, List, None, Some, length, slice_index_or}
use Rattle.std.specs.List.{AllByRecursion}
use Rattle.ds_base.specs.Faults.{Rose}
use Rattle.ds_base.specs.Gain.{GainsPrefix}
use Rattle.ds_base.specs.Outside.{SourceSeen, SinkSeen}
use Rattle.credit_link.specs.declared.turn.NodeFault.{NodeFault}
use Rattle.credit_link.specs.declared.turn.NodeFault.TheVariants.{Malformed, Read, Write, Link, OutOfMemory}
use Rattle.pcap_reader.specs.Good.{good}
use Rattle.central_report.specs.Report.{report}
use Rattle.summary_spec.specs.Declaration.{Declared}
use Rattle.run_law.specs.Snapshot.{file_of}
use Rattle.link_rows.specs.Rows.{RowsSeen}
use Rattle.job_run.specs.Sources.{AllTell, AreQuiet, files_of}

-- no capture is malformed, whichever interfaces are wanted
abbrev pub AreSound : List (List ℕ) → Type 0
AreSound files = AllByRecursion (λ bytes. (good None bytes).bad ≡ None) files

-- However it ends, what was written is what was there and a front of the report over the files that the sources tell.
pub record WritesFront (job : Declared) (sources : List SourceSeen) (old new : SinkSeen) : Type 0 where
  pub front : AllTell sources → IsTrue old.told → GainsPrefix old.written new.written (report job (files_of sources))

-- Nothing failed; every capture was read to its end and is not malformed; the report was written; and the rows are done.
pub record EndsWhole (job : Declared) (sources left : List SourceSeen) (old new : SinkSeen) (rows : RowsSeen) : Type 0 where
  pub quiet : AreQuiet left
  pub out_quiet : new.faults ≡ old.faults
  pub done : rows.done ≡ true
  pub sound : AllTell sources → AreSound (files_of sources)
  pub whole : AllTell sources → IsTrue old.told → new.written ≡ old.written ++ report job (files_of sources)

-- Why it ends otherwise: the capture is malformed there; a read of its source failed, which had not failed before; a write
-- failed; or no memory. It is never a fault of a link.
abbrev pub EndsBy : (sources left : List SourceSeen) (old new : SinkSeen) → NodeFault → Type 0
EndsBy sources left old new (Malformed capture bad) =
    (capture < length sources) × (AllTell sources → (good None (file_of (files_of sources) capture)).bad ≡ Some bad)
EndsBy sources left old new (Read capture) = (capture < length sources) × ((d : SourceSeen) → 1 ≤ (slice_index_or left capture d).faults)
EndsBy sources left old new Write = Rose old.faults new.faults
EndsBy sources left old new (Link link bad) = ⊥
EndsBy sources left old new OutOfMemory = Unit {0}
