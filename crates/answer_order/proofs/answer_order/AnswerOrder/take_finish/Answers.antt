use Rattle.answer_order.proofs.Frames.{keeps_end}
use Rattle.answer_order.proofs.answer_order.AnswerOrder.take_finish.Goals as goal

pub invariant_of-self : goal.invariant_of-self
invariant_of-self c =
    let o = c.self.inside in
    keeps_end o.told o.mark o.last o.finished o.frames.items c.and-self-inside.result.items c.args.frame.now c.self.invariant c.and-self-inside.ensures c.requires.is
