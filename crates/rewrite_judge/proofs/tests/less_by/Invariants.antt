use Rattle.std.proofs.Common.{◌≡◌, length, All}
use Rattle.rewrite_judge.proofs.tests.less_by.Given as goal

abbrev pub invariant-loop-by : goal.invariant-loop-by
invariant-loop-by l = All (λ rule. rule.var ≡ 1) l.rules.items × (length l.rules.items ≡ l.by-index)
