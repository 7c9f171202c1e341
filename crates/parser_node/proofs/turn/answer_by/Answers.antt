-- Nothing moved, and all links are settled.
use Rattle.parser_node.proofs.turn.answer_by.Goals as goal

pub returns-then-settled : goal.returns-then-settled
returns-then-settled g c = (c.if-moved.false, c.settled.ensures.settled c.if-settled.true)
