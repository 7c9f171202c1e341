use Rattle.std.proofs.Common.{◌-◌, ◌≤◌, length}
use Rattle.profiles.proofs.Places.{AreBelow, AreAbove}
use Rattle.profiles.proofs.rows.find.Given as goal

abbrev pub invariant-loop-low : goal.invariant-loop-low
invariant-loop-low l = record {
  ordered : l.low ≤ l.high;
  within : l.high ≤ length l.rows;
  below : AreBelow l.number l.rows l.low;
  above : AreAbove l.number l.rows l.high;
}

abbrev pub decreases-loop-low : goal.decreases-loop-low
decreases-loop-low l = l.high - l.low
