use Rattle.frame_order.proofs.Rows.{keeps_row}
use Rattle.frame_order.proofs.counts_order.CountsOrder.take_row.Goals as goal

pub invariant_of-self : goal.invariant_of-self
invariant_of-self c =
    let o = c.self.inside in
    keeps_row o.rows o.finished o.frames.items c.and-self-inside.result.items c.args.c c.args.counts.now c.args.frame.now c.set.new.self
    c.self.invariant c.and-self-inside.ensures c.requires.is c.set.ensures.there c.set.ensures.others
