-- Two lists, place by place.
use Rattle.std.specs.Prelude.{ℕ, List, ◌≡◌, get_or}

-- the lists have the same number at i
abbrev pub AgreesAt : ℕ → (xs ys : List ℕ) → Type 0
AgreesAt i xs ys = get_or xs i 0 ≡ get_or ys i 0
