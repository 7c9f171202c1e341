-- The least mark of captures. A list has each capture's mark, a time, and None where the capture has ended.
use Rattle.std.specs.Prelude.{ℕ, Bool, true, List, [], ◌∷◌, ◌≤◌, Option, Some, None, nat_lt, min}
use Rattle.std.specs.List.{AllByRecursion, Contains}

-- the lesser of two marks, or the one that is there
abbrev pub lesser : Option ℕ → Option ℕ → Option ℕ
lesser None b = b
lesser (Some a) None = Some a
lesser (Some a) (Some b) = Some (min a b)

-- the least of the marks that are there
abbrev pub least_mark : List (Option ℕ) → Option ℕ
least_mark [] = None
least_mark (m ∷ ms) = lesser m (least_mark ms)

-- the capture has ended
abbrev pub HasEnded : Option ℕ → Type 0
HasEnded None = Unit {0}
HasEnded (Some m) = ⊥

-- the capture has ended, or its mark is at least t
abbrev pub IsFrom : ℕ → Option ℕ → Type 0
IsFrom t None = Unit {0}
IsFrom t (Some m) = t ≤ m

-- all captures have ended, or this is the mark of one that has not, and no other such mark is less
abbrev pub IsLeast : List (Option ℕ) → Option ℕ → Type 0
IsLeast marks None = AllByRecursion HasEnded marks
IsLeast marks (Some t) = Contains marks (Some t) × AllByRecursion (IsFrom t) marks

-- whether the time is below this mark, where None is above all times
abbrev pub under : Option ℕ → ℕ → Bool
under None t = true
under (Some m) t = nat_lt t m

-- a summary of this time may come of a capture with this mark
abbrev pub Allows : Option ℕ → ℕ → Type 0
Allows None t = ⊥
Allows (Some m) t = m ≤ t
