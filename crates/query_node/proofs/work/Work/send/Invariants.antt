-- What was polled and put so far; the loop ends, since few frames are put.
use Rattle.query_node.specs.Steps.{SendsSoFar}
use Rattle.query_node.proofs.Resting.{frames_left}
use Rattle.query_node.proofs.work.Work.send.Given as goal

abbrev pub invariant-due : goal.invariant-due
invariant-due g l = SendsSoFar l.moved l.fn.self l.self

abbrev pub decreases-due : goal.decreases-due
decreases-due g l = frames_left l.self
