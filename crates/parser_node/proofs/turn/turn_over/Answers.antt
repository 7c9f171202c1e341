-- The answer by what the passes did.
use Rattle.std.proofs.Common.{None}
use Rattle.parser_steps.specs.Seen.{seen_of}
use Rattle.parser_node.proofs.Turning.{turns}
use Rattle.parser_node.proofs.turn.turn_over.Goals as goal

pub returns-in-Ok-clause-turns : goal.returns-in-Ok-clause-turns
returns-in-Ok-clause-turns g c =
    let e = c.in-Ok.ensures in
    turns (seen_of c.args.steps.now c.args.out.now None) (seen_of c.all_passes.new.steps c.all_passes.new.out None) c.in-Ok.moved e.passes e.holds.stands c.answer_by.result c.answer_by.ensures
