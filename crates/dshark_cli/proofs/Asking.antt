-- What the words give, where they ask nothing or one thing.
use Rattle.std.proofs.Common.{ℕ, List, ◌≡◌, Option, Some, None, refl, ap}
use Rattle.command_words.specs.Words.{Asked, Accepts}
use Rattle.dshark_cli.specs.Words.{Give}

-- where nothing is asked, that is all that the words give
pub only_none : (words : List (List ℕ)) → ((asked : Asked) → Accepts words asked → ⊥) → (o : Option Asked) → Give words o → o ≡ None
only_none words none None g = refl
only_none words none (Some asked) g = absurd (none asked g)

-- where this is asked, that is all that the words give
pub only_some : (words : List (List ℕ)) (a : Asked) → Accepts words a → ((b : Asked) → Accepts words b → b ≡ a)
    → (o : Option Asked) → Give words o → o ≡ Some a
only_some words a accepts only None g = absurd (g a accepts)
only_some words a accepts only (Some b) g = ap Some (only b g)
