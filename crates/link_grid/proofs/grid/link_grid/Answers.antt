-- One sender more.
use Rattle.link_grid.proofs.Rows.{sender_more}
use Rattle.link_grid.proofs.grid.link_grid.Goals as goal

pub loop-preserved : goal.loop-preserved
loop-preserved c =
    sender_more c.args.credits c.loop.counter c.args.receivers c.loop.txs.items c.push.new.self.items c.loop.rxs.items c.row_of_links.new.rxs.items c.in_ok-row.row
    c.loop.invariant c.in_ok-row.ensures c.in-Ok.ensures.pushed
