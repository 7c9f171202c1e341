-- What the turn over the parts says, seen of the whole.
use Rattle.std.proofs.Common.{◌≡◌, None, rules}
use Rattle.parser_node.proofs.Turning.{turned}
use Rattle.parser_node.proofs.node.ParserNode.turn.Goals as goal

pub returns-in-Ok-clause-says : goal.returns-in-Ok-clause-says
returns-in-Ok-clause-says g c =
    let i = c.self.inside in
    let none : c.self.inside.fault ≡ None = search rules in
    (turned i.steps c.turn_over.new.steps i.out c.turn_over.new.out i.fault c.args.self.now c.in-Ok.turn c.self.view_is none c.in-Ok.ensures.turns).says

pub returns-in-Ok-clause-tells : goal.returns-in-Ok-clause-tells
returns-in-Ok-clause-tells g c =
    let i = c.self.inside in
    let none : c.self.inside.fault ≡ None = search rules in
    (turned i.steps c.turn_over.new.steps i.out c.turn_over.new.out i.fault c.args.self.now c.in-Ok.turn c.self.view_is none c.in-Ok.ensures.turns).tells
