use Rattle.std.proofs.Common.{◌≤◌, List, subst, sym}
use Rattle.node_frames.specs.declared.frame.Frame.{Frame}
use Rattle.frame_order.specs.Said.{greatest, group_mark_of}
use Rattle.answer_order.proofs.Frames.{keeps_mark}
use Rattle.answer_order.proofs.answer_order.AnswerOrder.take_mark.Goals as goal

pub invariant_of-self : goal.invariant_of-self
invariant_of-self c =
    let o = c.self.inside in
    keeps_mark o.told o.mark c.args.mark o.last o.finished o.frames.items c.and-self-inside.result.items c.args.frame.now c.self.invariant c.and-self-inside.ensures c.requires.is
    (subst (λ (frames : List Frame). greatest group_mark_of frames ≤ c.args.mark) (sym c.self.view_is) c.requires.rising)
