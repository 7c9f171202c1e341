use Rattle.std.proofs.Common.{◌==◌, ℕ, ap, false, eq-eqb}
use Rattle.std.specs.List.{find}
use Rattle.std.specs.Option.{option_map_or}
use Rattle.rewrite_judge.proofs.Places.{find-pass, find-take}
use Rattle.rewrite_judge.proofs.Kept.{test_apart}
use Rattle.rewrite_judge.proofs.rule.has_row.Goals as goal

pub returns-then-from-left : goal.returns-then-from-left
returns-then-from-left c =
    ap (λ found. option_map_or (λ (row : ℕ × ℕ). row.1 == c.args.right) found false)
    (find-take (λ (row : ℕ × ℕ). row.0 == c.args.left) c.args.rows.now.items c.loop-i.i c.get.result.now (find (λ (row : ℕ × ℕ). row.0 == c.args.left) c.args.rows.now.items) c.get.ensures
    (eq-eqb c.get.result.now.0 c.args.left c.if-from-left.true) c.loop-i.invariant)

pub loop-i-preserved : goal.loop-i-preserved
loop-i-preserved c =
    find-pass (λ (row : ℕ × ℕ). row.0 == c.args.left) c.args.rows.now.items c.loop-i.i c.get.result.now (find (λ (row : ℕ × ℕ). row.0 == c.args.left) c.args.rows.now.items) c.get.ensures
    (test_apart c.get.result.now.0 c.args.left c.if-from-left.false) c.loop-i.invariant
