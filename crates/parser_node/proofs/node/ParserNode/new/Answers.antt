-- The parts of a new parser stand over new links.
use Rattle.parser_node.proofs.Starting.{new_holds}
use Rattle.parser_node.proofs.node.ParserNode.new.Goals as goal

pub invariant_of-result : goal.invariant_of-result
invariant_of-result g c = new_holds _ _ _ c.args.groupers _ c.in-Ok.steps c.args.out c.in-Ok.ensures.unread c.requires.outs.0 c.requires.groupers.2 c.in-Ok.ensures.holds c.requires.outs.1

pub returns-in-Ok-clause-stands : goal.returns-in-Ok-clause-stands
returns-in-Ok-clause-stands g c = (invariant_of-result g c).stands
