use Rattle.std.proofs.Common.{◌≤◌}
use Rattle.query_syntax.specs.Frames.{state_of}
use Rattle.query_syntax.proofs.Progress.{Progress}
use Rattle.query_syntax.proofs.syntax.syntax_of.Given as goal

abbrev pub invariant-loop-i : goal.invariant-loop-i
invariant-loop-i l = (l.opens ≤ l.i) × (l.closes ≤ l.i)
    × Progress l.lexing.tokens.items l.i (state_of l.stack.items l.mode) l.opens l.closes
