-- Frames that are due are put, until a frame waits or none is due.
use Rattle.std.proofs.Common.{rules, Bool, sym, subst}
use Rattle.query_node.specs.Steps.{SendsSoFar}
use Rattle.query_node.proofs.Stepping.{steps_on, fails_on}
use Rattle.query_node.proofs.Resting.{first_poll, sends_on, sends_end}
use Rattle.query_node.proofs.work.Work.send.Goals as goal

pub due-init : goal.due-init
due-init g c = first_poll c.in-Ok.moved c.args.self.now c.poll.new.self c.in-Ok.ensures.polls

pub returns-then-not-put_due-clause-sends : goal.returns-then-not-put_due-clause-sends
returns-then-not-put_due-clause-sends g c =
    let e = c.put_due.ensures in
    let none = e.none (search rules) in
    sends_end c.due.moved c.args.self.now c.due.self c.put_due.new.self c.due.invariant e.steps e.ins none.0 none.1

pub returns-in-Err-poll-clause-fails : goal.returns-in-Err-poll-clause-fails
returns-in-Err-poll-clause-fails g c =
    fails_on c.args.self.now c.put_due.new.self c.poll-in-due.new.self (steps_on c.args.self.now c.due.self c.put_due.new.self c.due.invariant.steps c.put_due.ensures.steps) c.requires.0.one_out c.in-Err-poll.bad c.in-Err-poll.ensures.fails

pub due-preserved : goal.due-preserved
due-preserved g c =
    subst (λ (b : Bool). SendsSoFar b c.args.self.now c.poll-in-due.new.self) (sym c.either-moved.ensures)
    (sends_on c.args.self.now c.due.self c.put_due.new.self c.poll-in-due.new.self c.put_due.ensures.steps c.put_due.ensures.ins (c.put_due.ensures.puts (search rules)) c.due.moved c.in-Ok-poll.more c.due.invariant c.in-Ok-poll.ensures.polls)
