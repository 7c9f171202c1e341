-- What a text or a sink gained, as a part of what is due.
use Rattle.std.specs.Prelude.{ℕ, List, ◌≡◌, ◌++◌}

-- what was gained, and the rest of what is due: together they are what is due
pub record Gains (old new due rest : List ℕ) : Type 0 where
  pub gained : List ℕ
  pub written : new ≡ old ++ gained
  pub owed : due ≡ gained ++ rest

-- what was gained is a prefix of what is due
abbrev pub GainsPrefix : List ℕ → List ℕ → List ℕ → Type 0
GainsPrefix old new due = (rest : List ℕ) × Gains old new due rest
