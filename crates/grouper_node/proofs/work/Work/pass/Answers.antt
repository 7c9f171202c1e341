-- The three parts of a pass.
use Rattle.grouper_node.proofs.Stepping.{steps_on, fails_on}
use Rattle.grouper_node.proofs.Resting.{passes_by}
use Rattle.grouper_node.proofs.work.Work.pass.Goals as goal

pub returns-in-Err-send-clause-fails : goal.returns-in-Err-send-clause-fails
returns-in-Err-send-clause-fails g c = fails_on c.args.self.now c.pump.new.self c.send.new.self c.in-Ok.ensures.pumps.steps c.in-Err-send.bad c.in-Err-send.ensures.fails

pub returns-in-Err-take_each-clause-fails : goal.returns-in-Err-take_each-clause-fails
returns-in-Err-take_each-clause-fails g c =
    fails_on c.args.self.now c.send.new.self c.take_each.new.self (steps_on c.args.self.now c.pump.new.self c.send.new.self c.in-Ok.ensures.pumps.steps c.in-Ok-send.ensures.sends.far.steps)
    c.in-Err-take_each.bad c.in-Err-take_each.ensures.fails

pub returns-clause-passes : goal.returns-clause-passes
returns-clause-passes g c =
    passes_by c.in-Ok.came c.in-Ok-send.went c.in-Ok-take_each.took c.either-behind.result c.either-moved.result c.args.self.now c.pump.new.self c.send.new.self c.take_each.new.self
    c.either-behind.ensures c.either-moved.ensures c.in-Ok.ensures.pumps c.in-Ok-send.ensures.sends c.in-Ok-take_each.ensures.takes
