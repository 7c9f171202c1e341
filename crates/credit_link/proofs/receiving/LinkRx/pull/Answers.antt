-- The frames given are the first that the bytes received spell, whatever a pull answers.
use Rattle.std.proofs.Common.{subst}
use Rattle.credit_link.specs.Ends.{RxSeen, receiver_of}
use Rattle.credit_link.specs.Pulling.{PullAnswers}
use Rattle.credit_link.proofs.Moving.{answered_pipes}
use Rattle.credit_link.proofs.receiving.LinkRx.pull.Goals as goal

pub invariant_of-self : goal.invariant_of-self
invariant_of-self g c =
    answered_pipes c.self.inside.receiver c.pull.new.self (g.R.PipeRx.seen c.self.inside.forth) (g.T.PipeTx.seen c.self.inside.back) c.pull.result c.self.invariant c.pull.ensures.answers

pub returns-clause-stands : goal.returns-clause-stands
returns-clause-stands g c = record { receiver = c.pull.ensures.stands; pipes = invariant_of-self g c }

pub returns-clause-answers : goal.returns-clause-answers
returns-clause-answers g c =
    subst (λ (before : RxSeen). PullAnswers (receiver_of before) c.pull.new.self c.pull.result) c.self.view_is c.pull.ensures.answers
