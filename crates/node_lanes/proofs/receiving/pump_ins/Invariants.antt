-- The links so far were pumped, and the others are as they were.
use Rattle.node_lanes.proofs.Pumped.{SoFar}
use Rattle.node_lanes.proofs.receiving.pump_ins.Given as goal

abbrev pub invariant-links : goal.invariant-links
invariant-links g l = SoFar l.initial.ins.items l.ins.items l.cut l.j l.counts.items l.moved
