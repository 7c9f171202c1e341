use Rattle.frame_order.proofs.Rows.{keeps_rows_end}
use Rattle.frame_order.proofs.counts_order.CountsOrder.take_finish.Goals as goal

pub invariant_of-self : goal.invariant_of-self
invariant_of-self c =
    let o = c.self.inside in
    keeps_rows_end o.rows o.finished o.frames.items c.and-self-inside.result.items c.args.frame.now c.self.invariant c.and-self-inside.ensures c.requires.is
