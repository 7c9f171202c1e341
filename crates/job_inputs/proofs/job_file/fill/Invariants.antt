use Rattle.std.proofs.Common.{◌≡◌, ◌≤◌, ◌-◌, ◌++◌, length, take}
use Rattle.std.specs.Prelude.{IsTrue}
use Rattle.ds_base.specs.Outside.{SourceStays}
use Rattle.job_inputs.proofs.job_file.fill.Given as goal

-- the buffer has the first bytes of the source, and no read has failed
abbrev pub invariant-pieces : goal.invariant-pieces
invariant-pieces g l = record {
  within : l.len ≤ length l.fn.buffer;
  long : length l.buffer ≡ length l.fn.buffer;
  stays : SourceStays (g.S.Source.seen l.fn.source) (g.S.Source.seen l.source);
  faults : (g.S.Source.seen l.source).faults ≡ (g.S.Source.seen l.fn.source).faults;
  taken : IsTrue (g.S.Source.seen l.fn.source).told → (g.S.Source.seen l.fn.source).whole ≡ take l.len l.buffer ++ (g.S.Source.seen l.source).left;
}

abbrev pub decreases-pieces : goal.decreases-pieces
decreases-pieces g l = length l.buffer - l.len
