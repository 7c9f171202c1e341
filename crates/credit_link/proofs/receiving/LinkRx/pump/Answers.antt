-- What came in and what went out, whatever the pump answers.
use Rattle.std.proofs.Common.{◌+◌, subst}
use Rattle.credit_link.specs.Ends.{RxSeen, rx_of}
use Rattle.credit_link.specs.Pumping.{RxPumps}
use Rattle.credit_link.proofs.Moving.{filled_pipes, paid_pipes, failed_pipes, rx_pumps}
use Rattle.credit_link.proofs.receiving.LinkRx.pump.Goals as goal

pub invariant_of-self-in_err-went : goal.invariant_of-self-in_err-went
invariant_of-self-in_err-went g c =
    let filled = filled_pipes c.self.inside.receiver c.fill.new.self (g.R.PipeRx.seen c.self.inside.forth) (g.R.PipeRx.seen c.fill.new.forth) (g.T.PipeTx.seen c.self.inside.back) c.args.cut c.in_ok-came.came
    c.self.invariant c.in_ok-came.ensures.filled c.fill.ensures.heard in
    failed_pipes c.fill.new.self c.pay.new.self (g.R.PipeRx.seen c.fill.new.forth) (g.T.PipeTx.seen c.self.inside.back) (g.T.PipeTx.seen c.pay.new.back) c.in_err-went.field-0.0 filled c.in_err-went.ensures.failed c.pay.ensures.heard

pub returns-in_err-went-clause-stands : goal.returns-in_err-went-clause-stands
returns-in_err-went-clause-stands g c = record { receiver = c.pay.ensures.stands; pipes = invariant_of-self-in_err-went g c }

pub invariant_of-self-2 : goal.invariant_of-self-2
invariant_of-self-2 g c =
    let filled = filled_pipes c.self.inside.receiver c.fill.new.self (g.R.PipeRx.seen c.self.inside.forth) (g.R.PipeRx.seen c.fill.new.forth) (g.T.PipeTx.seen c.self.inside.back) c.args.cut c.in_ok-came.came
    c.self.invariant c.in_ok-came.ensures.filled c.fill.ensures.heard in
    paid_pipes c.fill.new.self c.pay.new.self (g.R.PipeRx.seen c.fill.new.forth) (g.T.PipeTx.seen c.self.inside.back) (g.T.PipeTx.seen c.pay.new.back) c.args.cut c.in_ok-went.went
    c.fill.ensures.stands filled c.in_ok-went.ensures.paid c.pay.ensures.heard

pub returns-clause-moved : goal.returns-clause-moved
returns-clause-moved g c =
    let after : RxSeen = rx_of c.pay.new.self (g.R.PipeRx.seen c.fill.new.forth) (g.T.PipeTx.seen c.pay.new.back) (g.R.NamedRx.name c.fill.new.forth) (g.T.NamedTx.name c.pay.new.back) in
    subst (λ (before : RxSeen). RxPumps before after c.args.cut (c.in_ok-came.came + c.in_ok-went.went)) c.self.view_is
    (rx_pumps c.self.inside.receiver c.fill.new.self c.pay.new.self (g.R.PipeRx.seen c.self.inside.forth) (g.R.PipeRx.seen c.fill.new.forth) (g.T.PipeTx.seen c.self.inside.back) (g.T.PipeTx.seen c.pay.new.back)
    (g.R.NamedRx.name c.self.inside.forth) (g.T.NamedTx.name c.self.inside.back) (g.R.NamedRx.name c.fill.new.forth) (g.T.NamedTx.name c.pay.new.back) c.args.cut c.in_ok-came.came c.in_ok-went.went
    c.in_ok-came.ensures.filled c.in_ok-went.ensures.paid c.fill.ensures.name c.pay.ensures.name)

pub returns-clause-stands : goal.returns-clause-stands
returns-clause-stands g c = record { receiver = c.pay.ensures.stands; pipes = invariant_of-self-2 g c }
