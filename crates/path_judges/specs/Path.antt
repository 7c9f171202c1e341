-- The verdict on allowed paths.
use Rattle.std.specs.Prelude.{ℕ, ◌≤◌, max, List, [], ◌∷◌, length, take, Any, if◌then◌else◌}
use Rattle.std.specs.List.{list_any}
use Rattle.ds_base.specs.declared.verdict.Verdict.{Verdict}
use Rattle.ds_base.specs.declared.verdict.Verdict.TheVariants.{Fine, Path}
use Rattle.path_judges.specs.declared.pattern.Step.{Step}
use Rattle.path_judges.specs.Pattern.{Matches, Begins, matches, begun}

-- the walk matches a pattern
abbrev pub IsAllowed : List (List Step) → List ℕ → Type 0
IsAllowed patterns walk = Any (λ steps. Matches steps walk) patterns

-- the first n captures of the walk begin some list that matches a pattern
abbrev pub BeginsAllowed : List (List Step) → List ℕ → ℕ → Type 0
BeginsAllowed patterns walk n = Any (λ steps. Begins steps (take n walk)) patterns

-- the walk matches no pattern, and n is the greatest such number
pub record LeavesAt (patterns : List (List Step)) (walk : List ℕ) (n : ℕ) : Type 0 where
  pub not_allowed : ¬ IsAllowed patterns walk
  pub within : n ≤ length walk
  pub begins : BeginsAllowed patterns walk n
  pub greatest : (m : ℕ) → m ≤ length walk → BeginsAllowed patterns walk m → m ≤ n

-- Fine where the walk matches a pattern; else Path with that number
abbrev pub IsPathVerdict : List (List Step) → List ℕ → Verdict → Type 0
IsPathVerdict patterns walk Fine = IsAllowed patterns walk
IsPathVerdict patterns walk (Path n) = LeavesAt patterns walk n
IsPathVerdict patterns walk _ = ⊥

-- the most captures that begin a list which matches one of the patterns
abbrev pub most_begun : List (List Step) → List ℕ → ℕ
most_begun [] walk = 0
most_begun (steps ∷ patterns) walk = max (begun steps walk) (most_begun patterns walk)

-- that verdict, computed
abbrev pub path_verdict : List (List Step) → List ℕ → Verdict
path_verdict patterns walk =
    if list_any (λ steps. matches steps walk) patterns then Fine else Path (most_begun patterns walk)
