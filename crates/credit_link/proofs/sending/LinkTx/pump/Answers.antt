-- What went out and what came back are the pump.
use Rattle.credit_link.proofs.Moving.{pumps}
use Rattle.credit_link.proofs.sending.LinkTx.pump.Goals as goal

pub returns-clause-moved : goal.returns-clause-moved
returns-clause-moved g c = pumps c.args.self.now c.put_out.new.self c.take_back.new.self c.args.cut c.in_ok-out.out c.in_ok-back.back c.in_ok-out.ensures.moved c.in_ok-back.ensures.moved
