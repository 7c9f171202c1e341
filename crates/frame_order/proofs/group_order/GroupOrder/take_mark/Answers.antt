use Rattle.std.proofs.Common.{◌≤◌, List, subst, sym}
use Rattle.node_frames.specs.declared.frame.Frame.{Frame}
use Rattle.frame_order.specs.Said.{greatest, group_mark_of}
use Rattle.frame_order.proofs.Groups.{keeps_group_mark}
use Rattle.frame_order.proofs.group_order.GroupOrder.take_mark.Goals as goal

pub invariant_of-self : goal.invariant_of-self
invariant_of-self c =
    let o = c.self.inside in
    keeps_group_mark o.group o.head o.announced o.mark c.args.mark o.finished o.frames.items c.and-self-inside.result.items c.args.frame.now c.self.invariant c.and-self-inside.ensures c.requires.is
    (subst (λ (frames : List Frame). greatest group_mark_of frames ≤ c.args.mark) (sym c.self.view_is) c.requires.rising)
