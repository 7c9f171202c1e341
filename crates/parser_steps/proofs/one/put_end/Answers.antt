use Rattle.std.proofs.Common.{ap, arith, length}
use Rattle.parser_steps.proofs.Putting.{still_empty, ended_put}
use Rattle.parser_steps.proofs.one.put_end.Goals as goal

pub put-requires-clause-room : goal.put-requires-clause-room
put-requires-clause-room g c =
    let none = still_empty c.args.out.now c.put_each.new.out c.args.groupers c.put_each.ensures.links (omega (arith, c.requires.groupers)) c.put_each.ensures.merge (c.requires.none c.args.groupers) in
    (omega (arith, ap length c.put_each.ensures.links, c.requires.groupers), omega (arith, ap length none))

pub returns-clause-puts : goal.returns-clause-puts
returns-clause-puts g c =
    ended_put c.args.number c.args.groupers c.args.counts c.args.out.now c.put_each.new.out c.put.new.self c.requires.groupers c.put_each.ensures.links c.put.ensures.links c.put_each.ensures.holds
    c.put.ensures.holds c.put_each.ensures.put c.put_each.ensures.merge c.put.ensures.put
