-- The first fault is kept.
use Rattle.std.proofs.Common.{Result, ap}
use Rattle.credit_link.specs.declared.turn.Turn.{Turn}
use Rattle.credit_link.specs.declared.turn.NodeFault.{NodeFault}
use Rattle.pipeline_core.proofs.Holding.{bad_of, tells_by_turn, tells_by_fault}
use Rattle.pipeline_core.proofs.keeping.turn_and_keep.Goals as goal

pub returns-in-Ok-clause-tells : goal.returns-in-Ok-clause-tells
returns-in-Ok-clause-tells g c tells =
    tells_by_turn c.args.nodes.now.net c.turn.new.self.net c.args.first.now tells c.args.node c.in-Ok.turn c.in-Ok.ensures.others (λ bad had. (c.in-Ok.ensures.again bad had).0)
    (λ quiet. (c.in-Ok.ensures.turns quiet).0)

pub returns-in-Err-clause-tells : goal.returns-in-Err-clause-tells
returns-in-Err-clause-tells g c tells =
    tells_by_fault c.args.nodes.now.net c.turn.new.self.net c.args.first.now tells c.args.node c.in-Err.bad c.first_of.result c.in-Err.ensures.others (λ had is. ap (λ (r : Result Turn NodeFault). bad_of r c.in-Err.bad) (c.in-Err.ensures.again had is).0)
    c.in-Err.ensures.fault c.first_of.ensures.kept c.first_of.ensures.set
