-- One link more.
use Rattle.link_grid.proofs.Rows.{row_more}
use Rattle.link_grid.proofs.grid.row_of_links.Goals as goal

pub loop-j-preserved : goal.loop-j-preserved
loop-j-preserved c =
    row_more c.args.credits c.loop-j.j c.args.rxs.now.items c.loop-j.rxs.items c.push_at.new.lists.items c.loop-j.row.items c.push.new.self.items c.in_ok-tx.tx c.in_ok-tx.rx
    c.loop-j.invariant c.in_ok-push_at.ensures
    (record { new = c.in_ok-tx.ensures.fresh; sending = c.in_ok-tx.ensures.stands.0; receiving = c.in_ok-tx.ensures.stands.1 })
    c.in-Ok.ensures.pushed
