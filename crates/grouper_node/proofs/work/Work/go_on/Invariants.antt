-- The passes so far are one step.
use Rattle.grouper_node.specs.Steps.{Steps}
use Rattle.grouper_node.proofs.work.Work.go_on.Given as goal

abbrev pub invariant-passes : goal.invariant-passes
invariant-passes g l = Steps l.fn.self l.self
