-- The frames taken off the links so far.
use Rattle.result_merge.specs.Steps.{TakesOff}
use Rattle.result_merge.proofs.work.Work.take_each.Given as goal

abbrev pub invariant-links : goal.invariant-links
invariant-links g l = TakesOff l.took l.j l.fn.self l.self
