-- A step, and what the poll behind it adds.
use Rattle.std.proofs.Common.{None, refl}
use Rattle.parser_steps.specs.Seen.{seen_of}
use Rattle.parser_node.proofs.Stepping.{pass_done, pass_meets, holds_on, holds_by_fault, rests_from}
use Rattle.parser_node.proofs.passes.one_pass.Goals as goal

pub returns-in-Err-clause-meets : goal.returns-in-Err-clause-meets
returns-in-Err-clause-meets g c = let e = c.in-Err.ensures in record { goes = e.goes; meets = e.causes }

pub poll_behind-requires-clause-quiet : goal.poll_behind-requires-clause-quiet
poll_behind-requires-clause-quiet g c = (c.in-Ok.ensures.holds.stands.quiet refl).1

pub returns-in-Err-poll_behind-clause-holds : goal.returns-in-Err-poll_behind-clause-holds
returns-in-Err-poll_behind-clause-holds g c = holds_by_fault c.step.new.self c.step.new.out c.poll_behind.new.out c.in-Err-poll_behind.bad c.in-Ok.ensures.holds c.in-Err-poll_behind.ensures.keeps

pub returns-in-Err-poll_behind-clause-meets : goal.returns-in-Err-poll_behind-clause-meets
returns-in-Err-poll_behind-clause-meets g c =
    let e = c.in-Ok.ensures in
    pass_meets c.args.steps.now c.step.new.self c.args.out.now c.step.new.out c.requires.holds e.holds e.goes e.links c.poll_behind.new.out c.in-Err-poll_behind.bad c.in-Err-poll_behind.ensures.keeps c.in-Err-poll_behind.ensures.meets

pub returns-clause-holds : goal.returns-clause-holds
returns-clause-holds g c = let p = c.in-Ok-poll_behind.ensures in holds_on c.step.new.self c.step.new.out c.poll_behind.new.out c.in-Ok.ensures.holds p.keeps p.polls.quiet

pub returns-clause-passes : goal.returns-clause-passes
returns-clause-passes g c =
    let e = c.in-Ok.ensures in
    let p = c.in-Ok-poll_behind.ensures in
    pass_done c.args.steps.now c.step.new.self c.args.out.now c.step.new.out c.requires.holds e.holds e.goes e.links c.poll_behind.new.out
    c.in-Ok.stepped c.has_taken-took.result c.has_ended-ended.result c.in-Ok-poll_behind.polled c.some_wait-waits.result c.either-moved.result c.either-rests.result
    c.has_taken-took.ensures c.has_ended-ended.ensures c.either-moved.ensures c.either-rests.ensures e.steps p.keeps p.polls
    (rests_from c.some_wait-waits.result (seen_of c.step.new.self c.poll_behind.new.out None) c.some_wait-waits.ensures.some c.some_wait-waits.ensures.none)
