-- What went out are credits that were owed.
use Rattle.std.proofs.Common.{rules, ◌≡◌, ap, arith}
use Rattle.credit_link.specs.Receiving.{ReceiverSeen}
use Rattle.credit_link.proofs.Moving.{pays}
use Rattle.credit_link.proofs.receiver.Receiver.pay.Goals as goal

pub returns-in-Ok-clause-paid : goal.returns-in-Ok-clause-paid
returns-in-Ok-clause-paid g c =
    let owed : c.self.inside.owed ≡ c.args.self.now.owed = ap (λ (s : ReceiverSeen). s.owed) c.self.view_is in
    pays c.args.self.now c.paid_out.new.self (g.T.PipeTx.seen c.args.back.now) (g.T.PipeTx.seen c.send.new.self) c.ones.result.now c.most_paid-most.result c.args.cut c.in-Ok.count
    c.requires (search rules) c.ones.ensures (grind arith) c.most_paid-most.ensures.most.1 (omega (arith, owed, c.most_paid-most.ensures.most.2)) c.in-Ok.ensures.steps
