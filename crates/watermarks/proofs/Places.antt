-- Marks in two lists, by their places.
use Rattle.std.proofs.Common.{ℕ, zero, suc, Bool, true, false, List, [], ◌∷◌, ◌++◌, ◌≡◌, ◌<◌, ◌+◌, Option, None, refl, ap, sym, ◌∙◌, arith, length, get_or, take}
use Rattle.std.specs.Prelude.{set}
use Rattle.std.proofs.lemmas.List.{take_more}
use Rattle.watermarks.specs.Slots.{mark_of, marks_of}

pub marks_of-get : (ms : List ℕ) (es : List Bool) (i : ℕ) → i < length ms → i < length es
    → get_or (marks_of ms es) i None ≡ mark_of (get_or ms i 0) (get_or es i false)
marks_of-get [] es i a b = absurd (omega arith)
marks_of-get (m ∷ ms) [] i a b = absurd (omega arith)
marks_of-get (m ∷ ms) (e ∷ es) zero a b = refl
marks_of-get (m ∷ ms) (e ∷ es) (suc i) a b = marks_of-get ms es i (omega arith) (omega arith)

pub marks_of-set : (ms : List ℕ) (es : List Bool) (i m : ℕ) (e : Bool) → length es ≡ length ms
    → marks_of (set ms i m) (set es i e) ≡ set (marks_of ms es) i (mark_of m e)
marks_of-set [] [] i m e same = refl
marks_of-set [] (f ∷ es) i m e same = absurd (omega arith)
marks_of-set (n ∷ ms) [] i m e same = absurd (omega arith)
marks_of-set (n ∷ ms) (f ∷ es) zero m e same = refl
marks_of-set (n ∷ ms) (f ∷ es) (suc i) m e same = ap (λ (rest : List (Option ℕ)). mark_of n f ∷ rest) (marks_of-set ms es i m e (omega arith))

pub marks_of-end : (ms : List ℕ) (es : List Bool) (i : ℕ) → length es ≡ length ms
    → marks_of ms (set es i true) ≡ set (marks_of ms es) i None
marks_of-end [] [] i same = refl
marks_of-end [] (f ∷ es) i same = absurd (omega arith)
marks_of-end (n ∷ ms) [] i same = absurd (omega arith)
marks_of-end (n ∷ ms) (f ∷ es) zero same = refl
marks_of-end (n ∷ ms) (f ∷ es) (suc i) same = ap (λ (rest : List (Option ℕ)). mark_of n f ∷ rest) (marks_of-end ms es i (omega arith))

pub length-marks_of : (ms : List ℕ) (es : List Bool) → length es ≡ length ms → length (marks_of ms es) ≡ length ms
length-marks_of [] es same = refl
length-marks_of (n ∷ ms) [] same = absurd (omega arith)
length-marks_of (n ∷ ms) (f ∷ es) same = ap suc (length-marks_of ms es (omega arith))

pub marks_of-next : (ms : List ℕ) (es : List Bool) (i : ℕ) (m : Option ℕ) → length es ≡ length ms → i < length ms
    → m ≡ get_or (marks_of ms es) i None → take (i + 1) (marks_of ms es) ≡ take i (marks_of ms es) ++ m ∷ []
marks_of-next ms es i m same within e =
    let long = length-marks_of ms es same in
    take_more (marks_of ms es) i None (omega (arith, long)) ∙ ap (λ (x : Option ℕ). take i (marks_of ms es) ++ x ∷ []) (sym e)
