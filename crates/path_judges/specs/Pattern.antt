-- Which walks match a pattern.
use Rattle.std.specs.Prelude.{ℕ, suc, ◌≡◌, ◌==◌, ◌&&◌, ◌||◌, Bool, true, false, List, [], ◌∷◌, ◌++◌, length, if◌then◌else◌}
use Rattle.path_judges.specs.declared.pattern.Step.{Step}
use Rattle.path_judges.specs.declared.pattern.Step.TheVariants.{Point, One, Many}

-- a list of captures matches a pattern: a point matches itself, `One` one capture, `Many` any number
abbrev pub Matches : List Step → List ℕ → Type 0
Matches [] captures = captures ≡ []
Matches (Point point ∷ steps) captures = (rest : List ℕ) × (captures ≡ point ∷ rest) × Matches steps rest
Matches (One ∷ steps) captures = (one : ℕ) × (rest : List ℕ) × (captures ≡ one ∷ rest) × Matches steps rest
Matches (Many ∷ steps) captures = (many rest : List ℕ) × (captures ≡ many ++ rest) × Matches steps rest

-- these captures begin some list that matches the pattern
abbrev pub Begins : List Step → List ℕ → Type 0
Begins steps captures = (rest : List ℕ) × Matches steps (captures ++ rest)

-- some end of the list passes the test
abbrev pub some_end : (List ℕ → Bool) → List ℕ → Bool
some_end test [] = test []
some_end test (capture ∷ rest) = test (capture ∷ rest) || some_end test rest

-- whether a list matches, as a test
abbrev pub matches : List Step → List ℕ → Bool
matches [] [] = true
matches [] (capture ∷ rest) = false
matches (Point point ∷ steps) [] = false
matches (Point point ∷ steps) (capture ∷ rest) = (capture == point) && matches steps rest
matches (One ∷ steps) [] = false
matches (One ∷ steps) (capture ∷ rest) = matches steps rest
matches (Many ∷ steps) captures = some_end (matches steps) captures

-- how many captures of the list, from its front, begin a list that matches
abbrev pub begun : List Step → List ℕ → ℕ
begun [] captures = 0
begun (Point point ∷ steps) [] = 0
begun (Point point ∷ steps) (capture ∷ rest) = if capture == point then suc (begun steps rest) else 0
begun (One ∷ steps) [] = 0
begun (One ∷ steps) (capture ∷ rest) = suc (begun steps rest)
begun (Many ∷ steps) captures = length captures
