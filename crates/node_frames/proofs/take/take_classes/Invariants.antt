use Rattle.std.proofs.Common.{◌≡◌, ◌-◌, length, take}
use Rattle.node_frames.proofs.Reading.{Reads}
use Rattle.node_frames.proofs.take.take_classes.Given as goal

abbrev pub invariant-loop-i : goal.invariant-loop-i
invariant-loop-i l = (length l.classes ≡ 64) × Reads 8 64 l.bytes (take l.i l.classes) (64 - l.i) l.rest
