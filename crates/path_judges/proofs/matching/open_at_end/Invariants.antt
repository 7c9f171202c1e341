use Rattle.std.proofs.Common.{[]}
use Rattle.path_judges.proofs.Steps.{OpenFrom}
use Rattle.path_judges.proofs.matching.open_at_end.Given as goal

abbrev pub invariant-loop-k : goal.invariant-loop-k
invariant-loop-k l = OpenFrom l.pattern [] l.k l.positions
