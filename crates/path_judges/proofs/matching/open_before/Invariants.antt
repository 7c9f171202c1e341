use Rattle.std.proofs.Common.{List, ℕ, ◌∷◌}
use Rattle.path_judges.specs.Open.{IsOpen}
use Rattle.path_judges.proofs.Steps.{OpenFrom}
use Rattle.path_judges.proofs.matching.open_before.Given as goal

abbrev pub invariant-loop-k : goal.invariant-loop-k
invariant-loop-k l = (rest : List ℕ) → IsOpen l.pattern rest l.after → OpenFrom l.pattern (l.capture ∷ rest) l.k l.positions
