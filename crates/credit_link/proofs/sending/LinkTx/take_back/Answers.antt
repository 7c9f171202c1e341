-- What came over the credit pipe: credits, or a byte that is none.
use Rattle.std.proofs.Common.{ℕ, List, subst, arith}
use Rattle.credit_link.specs.Sending.{CreditsTaken, NoCredit}
use Rattle.credit_link.specs.Ends.{TxSeen, tx_of}
use Rattle.credit_link.specs.Pumping.{FailsBack}
use Rattle.credit_link.proofs.Moving.{takes_no_credit, credits_on_pipes}
use Rattle.credit_link.proofs.sending.LinkTx.take_back.Goals as goal

pub returns-in-Err-take_credits-clause-failed : goal.returns-in-Err-take_credits-clause-failed
returns-in-Err-take_credits-clause-failed g c =
    let bad = c.in-Err-take_credits.bad in
    let F : List ℕ → Type 0 = λ coins. NoCredit c.self.inside.sender c.take_credits.new.self coins bad in
    let none_there = subst F c.front.ensures c.in-Err-take_credits.ensures.refused in
    let P : TxSeen → Type 0 = λ before. FailsBack before (tx_of c.take_credits.new.self (g.T.PipeTx.seen c.self.inside.forth) (g.R.PipeRx.seen c.receive_front.new.back) (g.T.NamedTx.name c.self.inside.forth) (g.R.NamedRx.name c.receive_front.new.back)) bad in
    subst P c.self.view_is
    (takes_no_credit c.self.inside.sender c.take_credits.new.self (g.T.PipeTx.seen c.self.inside.forth) (g.R.PipeRx.seen c.self.inside.back) (g.R.PipeRx.seen c.receive_front.new.back)
    (g.T.NamedTx.name c.self.inside.forth) (g.R.NamedRx.name c.self.inside.back) (g.R.NamedRx.name c.receive_front.new.back) c.most_credits-most.result c.in-Ok.count c.receive_front.new.coins bad
    c.receive_front.ensures.name none_there c.in-Ok.ensures.steps (omega arith))

pub invariant_of-self-in-Ok : goal.invariant_of-self-in-Ok
invariant_of-self-in-Ok g c =
    let F : List ℕ → Type 0 = λ coins. CreditsTaken c.self.inside.sender c.take_credits.new.self coins in
    let taken = subst F c.front.ensures c.in_default.ensures.taken in
    credits_on_pipes c.self.inside.sender c.take_credits.new.self (g.T.PipeTx.seen c.self.inside.forth) (g.R.PipeRx.seen c.self.inside.back) (g.R.PipeRx.seen c.receive_front.new.back)
    c.most_credits-most.result c.in-Ok.count c.receive_front.new.coins c.held.ensures.stands c.self.invariant taken c.in-Ok.ensures.steps (omega arith)

pub returns-in_default-clause-stands : goal.returns-in_default-clause-stands
returns-in_default-clause-stands g c = record { sender = c.take_credits.ensures.stands; pipes = invariant_of-self-in-Ok g c }
