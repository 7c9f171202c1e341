use Rattle.std.proofs.Common.{ℕ, ◌<◌, [], map, slice_index_or}
use Rattle.command_words.specs.Reading.{NoOption}
use Rattle.command_words.proofs.shape.option_of.Given as goal

abbrev pub invariant-loop-k : goal.invariant-loop-k
invariant-loop-k l = (j : ℕ) → j < l.k → NoOption (slice_index_or (map (λ o. o.0.now) l.options) j []) l.word
