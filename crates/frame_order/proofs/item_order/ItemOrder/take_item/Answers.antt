use Rattle.std.proofs.Common.{◌≤◌, List, subst, sym}
use Rattle.node_frames.specs.declared.frame.Frame.{Frame}
use Rattle.frame_order.specs.Said.{greatest, next_of}
use Rattle.frame_order.proofs.Items.{keeps_item}
use Rattle.frame_order.proofs.item_order.ItemOrder.take_item.Goals as goal

pub invariant_of-self : goal.invariant_of-self
invariant_of-self c =
    let o = c.self.inside in
    let s = c.args.s.now in
    keeps_item o.next o.marks o.ended o.finished o.frames.items c.and-self-inside.result.items s c.args.frame.now c.set.new.self
    c.self.invariant c.and-self-inside.ensures c.requires.is
    (subst (λ (frames : List Frame). greatest (next_of s.at.capture) frames ≤ s.at.number) (sym c.self.view_is) c.requires.later)
    c.set.ensures.there c.set.ensures.others
