use Rattle.std.proofs.Common.{List, subst, sym, arith}
use Rattle.node_frames.specs.declared.frame.Frame.{Frame}
use Rattle.run_law.specs.Sent.{begun_in}
use Rattle.frame_order.specs.Groups.{IsNextIn}
use Rattle.frame_order.proofs.Groups.{keeps_member}
use Rattle.frame_order.proofs.group_order.GroupOrder.take_member.Goals as goal

pub invariant_of-self : goal.invariant_of-self
invariant_of-self c =
    let o = c.self.inside in
    keeps_member o.group c.saturating_sub-left.result o.head o.announced o.mark o.finished o.frames.items c.and-self-inside.result.items c.args.at.now c.args.vals.now c.args.frame.now c.self.invariant c.and-self-inside.ensures c.requires.is
    (omega (arith, c.saturating_sub-left.ensures)) (subst (λ (frames : List Frame). IsNextIn (begun_in frames) c.args.at.now) (sym c.self.view_is) c.requires.next)
