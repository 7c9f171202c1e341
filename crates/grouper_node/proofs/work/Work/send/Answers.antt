-- Frames that are due are put, until a frame waits or none is due.
use Rattle.std.proofs.Common.{rules, true, false}
use Rattle.grouper_node.proofs.Stepping.{steps_on, fails_on}
use Rattle.grouper_node.proofs.Resting.{first_poll, sends_by, sends_end, sends_full, sends_less, puts_when}
use Rattle.grouper_node.proofs.work.Work.send.Goals as goal

pub due-init : goal.due-init
due-init g c = first_poll c.in-Ok.moved c.args.self.now c.poll.new.self c.in-Ok.ensures.polls

pub returns-in-Err-put_due-clause-fails : goal.returns-in-Err-put_due-clause-fails
returns-in-Err-put_due-clause-fails g c = fails_on c.args.self.now c.due.self c.put_due.new.self c.due.invariant.steps c.in-Err-put_due.bad c.in-Err-put_due.ensures.fails

pub returns-then-not-put-clause-sends : goal.returns-then-not-put-clause-sends
returns-then-not-put-clause-sends g c =
    sends_end c.due.moved c.args.self.now c.due.self c.put_due.new.self c.due.invariant (puts_when c.in-Ok-put_due.put false c.due.self c.put_due.new.self (search rules) c.in-Ok-put_due.ensures.puts)

pub returns-in-Err-poll-clause-fails : goal.returns-in-Err-poll-clause-fails
returns-in-Err-poll-clause-fails g c =
    fails_on c.args.self.now c.put_due.new.self c.poll-in-due.new.self (steps_on c.args.self.now c.due.self c.put_due.new.self c.due.invariant.steps c.in-Ok-put_due.ensures.puts.steps) c.in-Err-poll.bad c.in-Err-poll.ensures.fails

pub due-preserved : goal.due-preserved
due-preserved g c =
    sends_by c.due.moved c.in-Ok-poll.more c.either-moved.result c.args.self.now c.due.self c.put_due.new.self c.poll-in-due.new.self c.either-moved.ensures c.due.invariant
    (puts_when c.in-Ok-put_due.put true c.due.self c.put_due.new.self (search rules) c.in-Ok-put_due.ensures.puts) c.in-Ok-poll.ensures.polls

pub due-smaller : goal.due-smaller
due-smaller g c =
    sends_less c.in-Ok-poll.more c.due.self c.put_due.new.self c.poll-in-due.new.self (puts_when c.in-Ok-put_due.put true c.due.self c.put_due.new.self (search rules) c.in-Ok-put_due.ensures.puts) c.in-Ok-poll.ensures.polls

pub returns-clause-sends : goal.returns-clause-sends
returns-clause-sends g c = sends_full c.due.moved c.args.self.now c.due.self c.due.invariant (c.is_free.ensures.some (search rules))
