-- One link more was looked for a frame.
use Rattle.grouper_node.proofs.Stepping.{fails_on}
use Rattle.grouper_node.proofs.Resting.{off_steps, takes_by, takes_first}
use Rattle.grouper_node.proofs.work.Work.take_each.Goals as goal

pub links-init : goal.links-init
links-init g c = takes_first c.args.self.now

pub returns-in-Err-clause-fails : goal.returns-in-Err-clause-fails
returns-in-Err-clause-fails g c =
    fails_on c.args.self.now c.links.self c.take_and_send.new.self (off_steps c.links.took c.links.j c.args.self.now c.links.self c.requires.sound c.links.invariant) c.in-Err.bad c.in-Err.ensures.fails

pub links-preserved : goal.links-preserved
links-preserved g c =
    takes_by c.links.took c.in-Ok.more c.either-took.result c.links.j c.args.self.now c.links.self c.take_and_send.new.self c.either-took.ensures c.requires.sound c.links.invariant c.in-Ok.ensures.takes
