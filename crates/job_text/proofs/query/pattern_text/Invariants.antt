use Rattle.std.proofs.Common.{◌≡◌, ◌++◌, ◌∷◌, drop}
use Rattle.std.specs.Prelude.{flat_map, string_bytes}
use Rattle.job_values.specs.Parsed.{shown}
use Rattle.job_text.specs.Parts.{pattern_text, step_word}
use Rattle.job_text.proofs.query.pattern_text.Given as goal

abbrev pub invariant-loop-i : goal.invariant-loop-i
invariant-loop-i l = string_bytes l.text ++ flat_map (λ step. 32 ∷ step_word (shown l.captures.items) step) (drop l.i l.pattern) ≡ pattern_text (shown l.captures.items) l.pattern
