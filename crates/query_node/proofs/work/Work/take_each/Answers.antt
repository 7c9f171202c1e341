-- One link more was looked for a frame.
use Rattle.std.proofs.Common.{Bool, ◌+◌, sym, subst}
use Rattle.query_node.specs.Steps.{Steps, TakesOff}
use Rattle.query_node.proofs.Stepping.{fails_on}
use Rattle.query_node.proofs.Resting.{off_steps, takes_on}
use Rattle.query_node.proofs.work.Work.take_each.Goals as goal

pub returns-in-Err-clause-fails : goal.returns-in-Err-clause-fails
returns-in-Err-clause-fails g c =
    fails_on c.args.self.now c.links.self c.take_and_send.new.self (off_steps c.links.took c.links.j c.args.self.now c.links.self c.requires.0 c.links.invariant) c.requires.0.one_out c.in-Err.bad c.in-Err.ensures.fails

pub links-preserved : goal.links-preserved
links-preserved g c =
    let far : Steps c.args.self.now c.links.self = off_steps c.links.took c.links.j c.args.self.now c.links.self c.requires.0 c.links.invariant in
    subst (λ (b : Bool). TakesOff b (c.links.j + 1) c.args.self.now c.take_and_send.new.self) (sym c.either-took.ensures)
    (takes_on c.links.took c.in-Ok.more c.links.j c.args.self.now c.links.self c.take_and_send.new.self c.requires.0 far.sound c.links.invariant c.in-Ok.ensures.takes)
