-- One link more was looked for a frame.
use Rattle.std.proofs.Common.{Bool, ◌+◌, sym, subst, arith}
use Rattle.result_merge.specs.Steps.{Steps, TakesOff}
use Rattle.result_merge.proofs.Stepping.{fails_on}
use Rattle.result_merge.proofs.Resting.{off_steps, takes_on}
use Rattle.result_merge.proofs.work.Work.take_each.Goals as goal

pub take-requires-clause-sound : goal.take-requires-clause-sound
take-requires-clause-sound g c = (off_steps c.links.took c.links.j c.args.self.now c.links.self c.requires c.links.invariant).sound

pub take-requires-clause-there : goal.take-requires-clause-there
take-requires-clause-there g c =
    let far : Steps c.args.self.now c.links.self = off_steps c.links.took c.links.j c.args.self.now c.links.self c.requires c.links.invariant in
    omega (arith, c.links.far-j, c.links-count.ensures, far.goes.ins.as_many)

pub returns-in-Err-clause-fails : goal.returns-in-Err-clause-fails
returns-in-Err-clause-fails g c =
    fails_on c.args.self.now c.links.self c.take.new.self (off_steps c.links.took c.links.j c.args.self.now c.links.self c.requires c.links.invariant) c.in-Err.bad c.in-Err.ensures.fails

pub links-preserved : goal.links-preserved
links-preserved g c =
    let far : Steps c.args.self.now c.links.self = off_steps c.links.took c.links.j c.args.self.now c.links.self c.requires c.links.invariant in
    subst (λ (b : Bool). TakesOff b (c.links.j + 1) c.args.self.now c.take.new.self) (sym c.either-took.ensures)
    (takes_on c.links.took c.in-Ok.more c.links.j c.args.self.now c.links.self c.take.new.self c.requires far.sound c.links.invariant c.in-Ok.ensures.takes)
