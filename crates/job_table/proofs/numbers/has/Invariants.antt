use Rattle.std.proofs.Common.{◌≡◌, drop}
use Rattle.std.specs.List.{list_any}
use Rattle.std.specs.Prelude.{◌==◌}
use Rattle.job_table.proofs.numbers.has.Given as goal

abbrev pub invariant-loop-i : goal.invariant-loop-i
invariant-loop-i l = list_any (λ m. m == l.n) l.numbers.items ≡ list_any (λ m. m == l.n) (drop l.i l.numbers.items)
