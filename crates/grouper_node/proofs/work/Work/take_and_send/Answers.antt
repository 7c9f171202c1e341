-- What follows from the frame is sent behind it.
use Rattle.std.proofs.Common.{rules, true}
use Rattle.grouper_node.proofs.Stepping.{fails_on}
use Rattle.grouper_node.proofs.Resting.{sent_behind, one_steps, takes_when}
use Rattle.grouper_node.proofs.work.Work.take_and_send.Goals as goal

pub returns-in-Ok-send-clause-takes : goal.returns-in-Ok-send-clause-takes
returns-in-Ok-send-clause-takes g c =
    sent_behind c.in-Ok-send.field-0 c.args.j c.args.self.now c.take.new.self c.send.new.self (takes_when c.in-Ok.took true c.args.j c.args.self.now c.take.new.self (search rules) c.in-Ok.ensures.takes) c.in-Ok-send.ensures.sends

pub returns-in-Err-send-clause-fails : goal.returns-in-Err-send-clause-fails
returns-in-Err-send-clause-fails g c =
    fails_on c.args.self.now c.take.new.self c.send.new.self (one_steps c.in-Ok.took c.args.j c.args.self.now c.take.new.self c.requires.sound c.in-Ok.ensures.takes) c.in-Err-send.bad c.in-Err-send.ensures.fails
