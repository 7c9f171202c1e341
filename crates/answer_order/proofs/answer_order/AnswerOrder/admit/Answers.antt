use Rattle.summary_spec.specs.Job.{declared_of}
use Rattle.run_law.specs.Links.{AnswerRule}
use Rattle.frame_order.proofs.Following.{lawful_more}
use Rattle.answer_order.proofs.answer_order.AnswerOrder.admit.Goals as goal

pub returns-clause-lawful : goal.returns-clause-lawful
returns-clause-lawful c = λ t h.
    lawful_more (AnswerRule (declared_of c.args.job.now)) c.args.self.now c.decide.new.self c.args.frame.now (c.decide.ensures.takes t) (c.decide.ensures.exact.0 t) h
