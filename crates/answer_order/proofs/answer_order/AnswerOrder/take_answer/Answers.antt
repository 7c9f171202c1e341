use Rattle.answer_order.proofs.Frames.{keeps_answer}
use Rattle.answer_order.proofs.answer_order.AnswerOrder.take_answer.Goals as goal

pub invariant_of-self : goal.invariant_of-self
invariant_of-self c =
    let o = c.self.inside in
    keeps_answer o.told o.mark o.last o.finished o.frames.items c.and-self-inside.result.items c.args.answer.now c.args.frame.now c.self.invariant c.and-self-inside.ensures c.requires.is
