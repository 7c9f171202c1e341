-- What was left and went is what the pipe moved.
use Rattle.std.proofs.Common.{◌≡◌, ap, ◌∙◌, arith, subst}
use Rattle.credit_link.specs.Ends.{TxSeen, tx_of}
use Rattle.credit_link.specs.Pumping.{PutsOut}
use Rattle.credit_link.proofs.Moving.{puts_out}
use Rattle.std.proofs.Common.{take}
use Rattle.credit_link.proofs.sending.LinkTx.put_out.Goals as goal

pub returns-in-Ok-clause-moved : goal.returns-in-Ok-clause-moved
returns-in-Ok-clause-moved g c =
    let P : TxSeen → Type 0 = λ before. PutsOut before (tx_of c.went.new.self (g.T.PipeTx.seen c.send.new.self) (g.R.PipeRx.seen c.self.inside.back) (g.T.NamedTx.name c.send.new.self) (g.R.NamedRx.name c.self.inside.back)) c.args.cut c.in-Ok.count in
    let piece : c.front-piece.result.now ≡ take c.args.cut c.self.inside.sender.left = c.front-piece.ensures ∙ ap (take c.args.cut) c.left.ensures.left in
    subst P c.self.view_is
    (puts_out c.self.inside.sender c.went.new.self (g.T.PipeTx.seen c.self.inside.forth) (g.T.PipeTx.seen c.send.new.self) (g.R.PipeRx.seen c.self.inside.back)
    (g.T.NamedTx.name c.self.inside.forth) (g.T.NamedTx.name c.send.new.self) (g.R.NamedRx.name c.self.inside.back) c.args.cut c.in-Ok.count c.front-piece.result.now
    c.self.invariant.forth_heard c.send.ensures.name c.went.ensures.left piece (grind arith) c.in-Ok.ensures.steps)
