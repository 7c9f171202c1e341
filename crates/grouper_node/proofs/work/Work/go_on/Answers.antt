-- One pass more.
use Rattle.grouper_node.proofs.Stepping.{steps_on, fails_on, steps_same}
use Rattle.grouper_node.proofs.work.Work.go_on.Goals as goal

pub passes-init : goal.passes-init
passes-init g c = steps_same c.args.self.now c.requires.sound

pub returns-in-Err-clause-fails : goal.returns-in-Err-clause-fails
returns-in-Err-clause-fails g c = fails_on c.args.self.now c.passes.self c.pass.new.self c.passes.invariant c.in-Err.bad c.in-Err.ensures.fails

pub returns-then-not-moved-clause-steps : goal.returns-then-not-moved-clause-steps
returns-then-not-moved-clause-steps g c = steps_on c.args.self.now c.passes.self c.pass.new.self c.passes.invariant c.in-Ok.ensures.passes.0

pub passes-preserved : goal.passes-preserved
passes-preserved g c = steps_on c.args.self.now c.passes.self c.pass.new.self c.passes.invariant c.in-Ok.ensures.passes.0
