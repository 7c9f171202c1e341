-- One pass more.
use Rattle.result_merge.proofs.Stepping.{steps_same, steps_on, fails_on}
use Rattle.result_merge.proofs.work.Work.go_on.Goals as goal

pub passes-init : goal.passes-init
passes-init g c = steps_same c.args.self.now c.requires.0

pub returns-in-Err-clause-fails : goal.returns-in-Err-clause-fails
returns-in-Err-clause-fails g c = fails_on c.args.self.now c.passes.self c.pass.new.self c.passes.invariant c.in-Err.bad c.in-Err.ensures.fails

pub returns-then-not-moved-clause-steps : goal.returns-then-not-moved-clause-steps
returns-then-not-moved-clause-steps g c = steps_on c.args.self.now c.passes.self c.pass.new.self c.passes.invariant c.in-Ok.ensures.passes.0

pub passes-preserved : goal.passes-preserved
passes-preserved g c = steps_on c.args.self.now c.passes.self c.pass.new.self c.passes.invariant c.in-Ok.ensures.passes.0
