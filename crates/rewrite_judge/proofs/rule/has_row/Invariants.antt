use Rattle.std.proofs.Common.{◌≡◌, ◌==◌, drop}
use Rattle.std.specs.List.{find}
use Rattle.rewrite_judge.proofs.rule.has_row.Given as goal

abbrev pub invariant-loop-i : goal.invariant-loop-i
invariant-loop-i l = find (λ row. row.0 == l.left) (drop l.i l.rows.items) ≡ find (λ row. row.0 == l.left) l.rows.items
