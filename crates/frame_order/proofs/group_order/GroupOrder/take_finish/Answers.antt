use Rattle.frame_order.proofs.Groups.{keeps_groups_end}
use Rattle.frame_order.proofs.group_order.GroupOrder.take_finish.Goals as goal

pub invariant_of-self : goal.invariant_of-self
invariant_of-self c =
    let o = c.self.inside in
    keeps_groups_end o.group o.head o.announced o.mark o.finished o.frames.items c.and-self-inside.result.items c.args.frame.now c.self.invariant c.and-self-inside.ensures c.requires.is
