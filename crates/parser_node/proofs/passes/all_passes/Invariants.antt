-- What the passes so far have done.
use Rattle.std.proofs.Common.{None}
use Rattle.parser_steps.specs.Seen.{seen_of}
use Rattle.parser_steps.specs.Holds.{ParserHolds}
use Rattle.parser_node.specs.Passing.{ManyPasses}
use Rattle.parser_node.proofs.passes.all_passes.Given as goal

abbrev pub invariant-passes : goal.invariant-passes
invariant-passes g l = ParserHolds l.steps l.out None × ManyPasses l.moved l.rests l.i (seen_of l.fn.steps l.fn.out None) (seen_of l.steps l.out None)
