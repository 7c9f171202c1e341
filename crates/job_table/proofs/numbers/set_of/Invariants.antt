use Rattle.std.proofs.Common.{◌≡◌, ◌<◌, ◌^◌, drop, fold}
use Rattle.std.specs.Prelude.{bit_or}
use Rattle.job_table.proofs.numbers.set_of.Given as goal

abbrev pub invariant-loop-i : goal.invariant-loop-i
invariant-loop-i l =
    (fold (λ set c. bit_or set (2 ^ c)) 0 l.numbers.items ≡ fold (λ set c. bit_or set (2 ^ c)) l.set (drop l.i l.numbers.items))
    × (l.set < 2 ^ l.most) × (0 < l.i → 0 < l.set)
