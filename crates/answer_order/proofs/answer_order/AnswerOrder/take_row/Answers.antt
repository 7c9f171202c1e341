use Rattle.std.proofs.Common.{List, subst, sym}
use Rattle.std.specs.List.{AllByRecursion}
use Rattle.node_frames.specs.declared.frame.Frame.{Frame}
use Rattle.answer_order.specs.Answers.{IsAfterRow}
use Rattle.answer_order.proofs.Frames.{keeps_row}
use Rattle.answer_order.proofs.answer_order.AnswerOrder.take_row.Goals as goal

pub invariant_of-self : goal.invariant_of-self
invariant_of-self c =
    let o = c.self.inside in
    keeps_row o.told o.mark o.last o.finished o.frames.items c.and-self-inside.result.items c.args.row.now c.args.frame.now c.self.invariant c.and-self-inside.ensures c.requires.is
    (subst (λ (frames : List Frame). AllByRecursion (IsAfterRow c.args.row.now) frames) (sym c.self.view_is) c.requires.rising)
