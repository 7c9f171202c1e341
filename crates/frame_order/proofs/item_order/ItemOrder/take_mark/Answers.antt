use Rattle.std.proofs.Common.{◌≤◌, List, subst, sym}
use Rattle.node_frames.specs.declared.frame.Frame.{Frame}
use Rattle.frame_order.specs.Said.{greatest, mark_of}
use Rattle.frame_order.proofs.Items.{keeps_mark}
use Rattle.frame_order.proofs.item_order.ItemOrder.take_mark.Goals as goal

pub invariant_of-self : goal.invariant_of-self
invariant_of-self c =
    let o = c.self.inside in
    keeps_mark o.next o.marks o.ended o.finished o.frames.items c.and-self-inside.result.items c.args.c c.args.mark c.args.frame.now c.set.new.self
    c.self.invariant c.and-self-inside.ensures c.requires.is
    (subst (λ (frames : List Frame). greatest (mark_of c.args.c) frames ≤ c.args.mark) (sym c.self.view_is) c.requires.rising)
    c.set.ensures.there c.set.ensures.others
