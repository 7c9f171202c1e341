use Rattle.std.proofs.Common.{ℕ, List, ◌≡◌}
use Rattle.ds_base.specs.Outside.{SourceStays}
use Rattle.input_files.specs.Reading.{HasRead, records_read, work_left}
use Rattle.key_select.specs.Wanted.{wanted_of}
use Rattle.key_select.specs.Tally.{capture_of, records_taken}
use Rattle.pcap_reader.specs.Captured.{Captured}
use Rattle.summary_spec.specs.Job.{declared_of}
use Rattle.job_inputs.specs.Gathering.{Collects}
use Rattle.job_inputs.proofs.gather.gather_records.Given as goal

-- the records given so far were taken up
abbrev pub invariant-records : goal.invariant-records
invariant-records g l = record {
  stays : SourceStays (g.S.Source.seen l.fn.source) (g.S.Source.seen l.source);
  faults : (g.S.Source.seen l.source).faults ≡ (g.S.Source.seen l.fn.source).faults;
  taken : (bytes : List ℕ) × (given : List Captured) × HasRead (wanted_of (declared_of l.job) (capture_of l.fn.tally)) l.reading (g.S.Source.seen l.source) bytes given
      × Collects (declared_of l.job) (capture_of l.fn.tally) l.tally l.fn.accepted.items l.accepted.items given;
  given : records_taken l.tally ≡ records_read l.reading;
  capture : capture_of l.tally ≡ capture_of l.fn.tally;
}

-- a record or a piece less is left to do
abbrev pub decreases-records : goal.decreases-records
decreases-records g l = work_left l.reading
