-- No frame waits, so there is room for one.
use Rattle.std.proofs.Common.{arith}
use Rattle.query_node.proofs.Putting.{has_room, still_open, queues_go, one_put}
use Rattle.query_node.proofs.noting.put_frame.Goals as goal

pub put-requires-clause-room : goal.put-requires-clause-room
put-requires-clause-room g c = (omega (arith, c.requires.one), has_room c.args.outs.now c.args.outs.now c.args.frame c.requires.one c.requires.none)

pub put-requires-clause-unfinished : goal.put-requires-clause-unfinished
put-requires-clause-unfinished g c = still_open c.args.outs.now c.args.outs.now c.args.frame c.requires.one c.requires.none c.requires.unfinished

pub returns-clause-put : goal.returns-clause-put
returns-clause-put g c = one_put c.args.outs.now c.put.new.self c.args.frame c.requires.one c.requires.none c.put.ensures.links c.put.ensures.put c.put.ensures.holds

pub returns-clause-queues : goal.returns-clause-queues
returns-clause-queues g c = queues_go c.args.outs.now c.put.new.self c.args.frame c.requires.one c.requires.none
