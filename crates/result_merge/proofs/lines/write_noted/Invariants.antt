-- The sink has taken the first bytes of the text, which were noted, and no write has failed.
use Rattle.std.proofs.Common.{◌≡◌, ◌≤◌, ◌-◌, ◌++◌, length, take}
use Rattle.std.specs.Prelude.{IsTrue}
use Rattle.ds_base.specs.Outside.{SinkStays}
use Rattle.result_merge.proofs.lines.write_noted.Given as goal

abbrev pub invariant-pieces : goal.invariant-pieces
invariant-pieces g l = record {
  within : l.written ≤ length l.text;
  stays : SinkStays (g.O.Sink.seen l.fn.out) (g.O.Sink.seen l.out);
  faults : (g.O.Sink.seen l.out).faults ≡ (g.O.Sink.seen l.fn.out).faults;
  noted : l.gained.items ≡ l.fn.gained.items ++ take l.written l.text;
  taken : IsTrue (g.O.Sink.seen l.fn.out).told → (g.O.Sink.seen l.out).written ≡ (g.O.Sink.seen l.fn.out).written ++ take l.written l.text;
}

abbrev pub decreases-pieces : goal.decreases-pieces
decreases-pieces g l = length l.text - l.written
