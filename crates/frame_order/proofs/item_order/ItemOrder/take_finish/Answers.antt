use Rattle.frame_order.proofs.Items.{keeps_finish}
use Rattle.frame_order.proofs.item_order.ItemOrder.take_finish.Goals as goal

pub invariant_of-self : goal.invariant_of-self
invariant_of-self c =
    let o = c.self.inside in
    keeps_finish o.next o.marks o.ended o.finished o.frames.items c.and-self-inside.result.items c.args.frame.now c.self.invariant c.and-self-inside.ensures c.requires.is
