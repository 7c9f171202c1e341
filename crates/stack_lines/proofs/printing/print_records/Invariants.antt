use Rattle.std.proofs.Common.{None, ℕ, List, ◌≡◌}
use Rattle.ds_base.specs.Outside.{SourceStays, SinkStays}
use Rattle.input_files.specs.Reading.{HasRead, work_left}
use Rattle.pcap_reader.specs.Captured.{Captured}
use Rattle.stack_lines.specs.Printing.{HasPrinted, lines_by}
use Rattle.stack_lines.proofs.printing.print_records.Given as goal

-- the lines of the records given so far are printed
abbrev pub invariant-records : goal.invariant-records
invariant-records g l = record {
  stays : SourceStays (g.S.Source.seen l.fn.source) (g.S.Source.seen l.source);
  out_stays : SinkStays (g.O.Sink.seen l.fn.out) (g.O.Sink.seen l.out);
  faults : (g.S.Source.seen l.source).faults ≡ (g.S.Source.seen l.fn.source).faults;
  quiet : (g.O.Sink.seen l.out).faults ≡ (g.O.Sink.seen l.fn.out).faults;
  asking : l.printer.asking ≡ l.fn.printer.asking;
  printed : (bytes : List ℕ) × (given : List Captured) × HasRead None l.reading (g.S.Source.seen l.source) bytes given
      × HasPrinted (g.O.Sink.seen l.fn.out).written (g.O.Sink.seen l.out) l.printer.text.items (lines_by l.fn.printer.asking given);
}

-- a record or a piece less is left to do
abbrev pub decreases-records : goal.decreases-records
decreases-records g l = work_left l.reading
