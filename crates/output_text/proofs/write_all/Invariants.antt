use Rattle.std.proofs.Common.{◌≡◌, ◌≤◌, ◌-◌, ◌++◌, length, take}
use Rattle.std.specs.Prelude.{IsTrue}
use Rattle.ds_base.specs.Outside.{SinkStays}
use Rattle.output_text.proofs.write_all.Given as goal

-- the sink has taken the first bytes of the text, and no write has failed
abbrev pub invariant-pieces : goal.invariant-pieces
invariant-pieces g l = record {
  within : l.written ≤ length l.text;
  stays : SinkStays (g.O.Sink.seen l.fn.out) (g.O.Sink.seen l.out);
  faults : (g.O.Sink.seen l.out).faults ≡ (g.O.Sink.seen l.fn.out).faults;
  taken : IsTrue (g.O.Sink.seen l.fn.out).told → (g.O.Sink.seen l.out).written ≡ (g.O.Sink.seen l.fn.out).written ++ take l.written l.text;
}

abbrev pub decreases-pieces : goal.decreases-pieces
decreases-pieces g l = length l.text - l.written
