use Rattle.std.proofs.Common.{List, subst, sym}
use Rattle.std.specs.List.{AllByRecursion}
use Rattle.node_frames.specs.declared.frame.Frame.{Frame}
use Rattle.frame_order.specs.Groups.{IsAfterHead}
use Rattle.frame_order.proofs.Groups.{keeps_head}
use Rattle.frame_order.proofs.group_order.GroupOrder.take_head.Goals as goal

pub invariant_of-self : goal.invariant_of-self
invariant_of-self c =
    let o = c.self.inside in
    keeps_head o.group o.head o.announced o.mark o.finished o.frames.items c.and-self-inside.result.items c.args.first.now c.args.members c.args.key.now c.args.frame.now c.self.invariant c.and-self-inside.ensures c.requires.is c.requires.some
    (subst (λ (frames : List Frame). AllByRecursion (IsAfterHead c.args.first.now) frames) (sym c.self.view_is) c.requires.rising)
