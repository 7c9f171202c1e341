-- What was put and what is left are the bytes of the frames offered, the new one's with them.
use Rattle.std.proofs.Common.{ap, ◌∙◌}
use Rattle.credit_link.specs.Ends.{TxSeen}
use Rattle.credit_link.proofs.Offering.{offered_on_pipes}
use Rattle.credit_link.proofs.sending.LinkTx.offer.Goals as goal

pub invariant_of-self : goal.invariant_of-self
invariant_of-self g c =
    let e = c.offer.ensures in
    offered_on_pipes c.self.inside.sender c.offer.new.self c.args.frame.now (g.T.PipeTx.seen c.self.inside.forth) (g.R.PipeRx.seen c.self.inside.back) c.self.invariant
    (ap (λ (l : TxSeen). l.left) c.self.view_is ∙ c.requires.ready.1) e.offered e.left e.rest.1 e.rest.2

pub returns-clause-stands : goal.returns-clause-stands
returns-clause-stands g c = record { sender = c.offer.ensures.stands; pipes = invariant_of-self g c }
