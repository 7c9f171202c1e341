-- What was polled and put so far; the loop ends, since fewer frames are due each time.
use Rattle.grouper_state.specs.States.{due_count}
use Rattle.grouper_node.specs.Steps.{SendsSoFar}
use Rattle.grouper_node.proofs.work.Work.send.Given as goal

abbrev pub invariant-due : goal.invariant-due
invariant-due g l = SendsSoFar l.moved l.fn.self l.self

abbrev pub decreases-due : goal.decreases-due
decreases-due g l = due_count l.self.state
