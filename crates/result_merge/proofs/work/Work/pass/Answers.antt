-- The two parts of a pass.
use Rattle.std.proofs.Common.{Bool, sym, subst}
use Rattle.result_merge.specs.Steps.{Passes}
use Rattle.result_merge.proofs.Stepping.{fails_on}
use Rattle.result_merge.proofs.Resting.{passes}
use Rattle.result_merge.proofs.work.Work.pass.Goals as goal

pub returns-in-Err-take_each-clause-fails : goal.returns-in-Err-take_each-clause-fails
returns-in-Err-take_each-clause-fails g c =
    fails_on c.args.self.now c.pump.new.self c.take_each.new.self c.in-Ok.ensures.pumps.steps c.in-Err-take_each.bad c.in-Err-take_each.ensures.fails

pub returns-clause-passes : goal.returns-clause-passes
returns-clause-passes g c =
    subst (λ (b : Bool). Passes b c.args.self.now c.take_each.new.self) (sym c.either-moved.ensures)
    (passes c.args.self.now c.pump.new.self c.take_each.new.self c.in-Ok.came c.in-Ok-take_each.took c.in-Ok.ensures.pumps c.in-Ok-take_each.ensures.takes)
