use Rattle.std.proofs.Common.{◌-◌, length}
use Rattle.header_stack.proofs.Placing.{Walked}
use Rattle.header_stack.proofs.packet.walk.Given as goal

abbrev pub invariant-loop-rest : goal.invariant-loop-rest
invariant-loop-rest l = Walked l.link l.port l.bytes l.stack l.next l.from l.rest

abbrev pub decreases-loop-rest : goal.decreases-loop-rest
decreases-loop-rest l = 16 - length l.stack
