-- The poll, or none.
use Rattle.parser_node.proofs.Stepping.{unpolled_keeps, unpolled, polled}
use Rattle.parser_node.proofs.passes.poll_behind.Goals as goal

pub returns-then-not-some_wait-clause-keeps : goal.returns-then-not-some_wait-clause-keeps
returns-then-not-some_wait-clause-keeps g c = unpolled_keeps c.args.out.now

pub returns-then-not-some_wait-clause-polls : goal.returns-then-not-some_wait-clause-polls
returns-then-not-some_wait-clause-polls g c = unpolled c.args.out.now c.args.took c.if-took.true c.requires.quiet

pub returns-in-Ok-clause-keeps : goal.returns-in-Ok-clause-keeps
returns-in-Ok-clause-keeps g c = let e = c.in-Ok.ensures in record { stand = e.stand; goes = e.goes; put = e.put }

pub returns-in-Ok-clause-polls : goal.returns-in-Ok-clause-polls
returns-in-Ok-clause-polls g c = let e = c.in-Ok.ensures in polled c.args.took c.in-Ok.moved c.args.out.now c.poll_outs.new.outs e.quiet e.calm e.no_less e.passes

pub returns-in-Err-clause-keeps : goal.returns-in-Err-clause-keeps
returns-in-Err-clause-keeps g c = let e = c.in-Err.ensures in record { stand = e.stand; goes = e.goes; put = e.put }

pub returns-in-Err-clause-meets : goal.returns-in-Err-clause-meets
returns-in-Err-clause-meets g c = c.in-Err.ensures.meets c.requires.quiet
