use Rattle.frame_order.proofs.Items.{keeps_end}
use Rattle.frame_order.proofs.item_order.ItemOrder.take_end.Goals as goal

pub invariant_of-self : goal.invariant_of-self
invariant_of-self c =
    let o = c.self.inside in
    keeps_end o.next o.marks o.ended o.finished o.frames.items c.and-self-inside.result.items c.args.c c.args.frame.now c.set.new.self
    c.self.invariant c.and-self-inside.ensures c.requires.is c.set.ensures.there c.set.ensures.others
