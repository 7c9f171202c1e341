use Rattle.std.proofs.Common.{◌≡◌, ◌+◌, drop}
use Rattle.std.specs.List.{position_or_len}
use Rattle.query_tokens.specs.Numbers.{is_dot}
use Rattle.query_tokens.proofs.number.before_dot.Given as goal

abbrev pub invariant-loop-i : goal.invariant-loop-i
invariant-loop-i l = position_or_len is_dot l.run ≡ l.i + position_or_len is_dot (drop l.i l.run)
