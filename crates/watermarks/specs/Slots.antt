-- Marks in two lists: the times, and whether each capture has ended.
use Rattle.std.specs.Prelude.{ℕ, Bool, true, false, List, [], ◌∷◌, Option, Some, None}

-- a capture's mark, which is not there once the capture has ended
abbrev pub mark_of : ℕ → Bool → Option ℕ
mark_of mark true = None
mark_of mark false = Some mark

-- the marks of the captures
abbrev pub marks_of : List ℕ → List Bool → List (Option ℕ)
marks_of [] es = []
marks_of (m ∷ ms) [] = []
marks_of (m ∷ ms) (e ∷ es) = mark_of m e ∷ marks_of ms es
