use Rattle.std.proofs.Common.{◌≡◌, drop, not}
use Rattle.std.specs.List.{position_from}
use Rattle.rewrite_judge.specs.Rule.{keeps}
use Rattle.rewrite_judge.specs.Rewrite.{first_broken}
use Rattle.rewrite_judge.proofs.rewrite.first_broken.Given as goal

abbrev pub invariant-loop-i : goal.invariant-loop-i
invariant-loop-i l = position_from (λ rule. not (keeps rule (l.first, l.second))) l.i (drop l.i l.rules.items) ≡ first_broken l.rules.items (l.first, l.second)
