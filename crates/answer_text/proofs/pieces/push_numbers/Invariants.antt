use Rattle.std.proofs.Common.{◌≡◌, ◌++◌, drop, map}
use Rattle.std.specs.Fmt.{decimal}
use Rattle.std.specs.List.{flat_map}
use Rattle.answer_text.specs.Pieces.{behind, joined}
use Rattle.answer_text.proofs.pieces.push_numbers.Given as goal

-- what was put and what is left are together all numbers
abbrev pub invariant-loop-i : goal.invariant-loop-i
invariant-loop-i l = l.text.items ++ flat_map (λ n. behind (decimal n)) (drop l.i l.numbers) ≡ l.fn.text.items ++ joined (map decimal l.numbers)
