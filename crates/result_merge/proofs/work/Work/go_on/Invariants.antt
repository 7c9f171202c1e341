-- The passes so far.
use Rattle.result_merge.specs.Steps.{Steps}
use Rattle.result_merge.proofs.work.Work.go_on.Given as goal

abbrev pub invariant-passes : goal.invariant-passes
invariant-passes g l = Steps l.fn.self l.self
