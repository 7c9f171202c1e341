use Rattle.std.proofs.Common.{◌≡◌, ◌-◌, length}
use Rattle.node_frames.proofs.Reading.{Reads}
use Rattle.node_frames.proofs.take.take_counted.Given as goal

abbrev pub invariant-loop-i : goal.invariant-loop-i
invariant-loop-i l = (length l.nums ≡ l.i) × Reads 16 l.count l.bytes l.nums (l.count - l.i) l.rest
