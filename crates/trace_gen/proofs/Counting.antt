-- Every sighting is in the file of one capture point: all files together have as many records as was seen.
use Rattle.std.proofs.Common.{◌≡◌, ◌==◌, ◌<◌, ◌≤◌, ℕ, zero, suc, ◌+◌, Bool, true, false, cond, if◌then◌else◌, List, [], ◌∷◌, All, length, sum_by, refl, ◌∙◌, arith, inl, inr}
use Rattle.std.proofs.lemmas.Bool.{cases_lt}
use Rattle.std.proofs.lemmas.Bool.Decides.{nat_tests}
use Rattle.std.proofs.lemmas.List.Elements.{All-head, All-tail}
use Rattle.std.proofs.lemmas.List.Sums.{sum_by-cons}
use Rattle.std.specs.List.{range_with_len}
use Rattle.trace_gen.specs.declared.sighting.Sighting.{Sighting}
use Rattle.trace_gen.specs.Captures.{points, seen_at}
use Rattle.trace_gen.proofs.Times.{IsAtPoint}

-- 1 where a sighting is at a point
abbrev pub one_at : (capture point : ℕ) → ℕ
one_at capture point = if capture == point then 1 else 0

at_another : (capture point : ℕ) (test : Bool) → (capture == point) ≡ test → test ≡ false → one_at capture point ≡ 0
at_another capture point test is e = rw (is, e) refl

at_this : (capture point : ℕ) (test : Bool) → (capture == point) ≡ test → test ≡ true → one_at capture point ≡ 1
at_this capture point test is e = rw (is, e) refl

none : (here rest : ℕ) → here ≡ 0 → rest ≡ 0 → here + rest ≡ 0
none here rest e f = omega (arith, e, f)

below_all : (capture first n : ℕ) → capture < first → sum_by (one_at capture) (range_with_len first n) ≡ 0
below_all capture first zero less = refl
below_all capture first (suc n) less =
    let test : (capture == first) ≡ false = grind (arith, nat_tests, less) in
    sum_by-cons (one_at capture) first (range_with_len (first + 1) n)
    ∙ none (one_at capture first) (sum_by (one_at capture) (range_with_len (first + 1) n)) (at_another capture first false test refl)
    (below_all capture (first + 1) n (omega (arith, less)))

here_alone : (here rest : ℕ) → here ≡ 1 → rest ≡ 0 → here + rest ≡ 1
here_alone here rest e f = omega (arith, e, f)

later_alone : (here rest : ℕ) → here ≡ 0 → rest ≡ 1 → here + rest ≡ 1
later_alone here rest e f = omega (arith, e, f)

among_them : (capture first n : ℕ) → first ≤ capture → capture < first + n → sum_by (one_at capture) (range_with_len first n) ≡ 1
among_them capture first zero low high = absurd (omega (arith, low, high))
among_them capture first (suc n) low high = sum_by-cons (one_at capture) first (range_with_len (first + 1) n) ∙ elim (cases_lt first capture) [
  | inl later ↦
      let test : (capture == first) ≡ false = grind (arith, nat_tests, later) in
      later_alone (one_at capture first) (sum_by (one_at capture) (range_with_len (first + 1) n)) (at_another capture first false test refl)
      (among_them capture (first + 1) n (omega (arith, later)) (omega (arith, high)))
  | inr here ↦
      let test : (capture == first) ≡ true = grind (arith, nat_tests, low, here) in
      here_alone (one_at capture first) (sum_by (one_at capture) (range_with_len (first + 1) n)) (at_this capture first true test refl)
      (below_all capture (first + 1) n (omega (arith, low, here)))
]

kept_length : (b : Bool) (s : Sighting) (rest : List Sighting) → length (cond b (s ∷ rest) rest) ≡ (if b then 1 else 0) + length rest
kept_length true s rest = omega arith
kept_length false s rest = omega arith

none_seen : (ps : List ℕ) → sum_by (λ point. length (seen_at point [])) ps ≡ 0
none_seen [] = refl
none_seen (p ∷ ps) = omega (arith, none_seen ps)

parts : (all here rest one one_here one_rest more more_here more_rest : ℕ) → all ≡ here + rest → one ≡ one_here + one_rest
    → more ≡ more_here + more_rest → here ≡ one_here + more_here → rest ≡ one_rest + more_rest → all ≡ one + more
parts all here rest one one_here one_rest more more_here more_rest e f g h i = omega (arith, e, f, g, h, i)

one_more : (s : Sighting) (ss : List Sighting) (ps : List ℕ)
    → sum_by (λ point. length (seen_at point (s ∷ ss))) ps ≡ sum_by (one_at s.capture) ps + sum_by (λ point. length (seen_at point ss)) ps
one_more s ss [] = refl
one_more s ss (p ∷ ps) =
    parts _ _ _ _ _ _ _ _ _
    (sum_by-cons (λ point. length (seen_at point (s ∷ ss))) p ps) (sum_by-cons (one_at s.capture) p ps) (sum_by-cons (λ point. length (seen_at point ss)) p ps)
    (kept_length (s.capture == p) s (seen_at p ss)) (one_more s ss ps)

pub all_filed : (ss : List Sighting) → All IsAtPoint ss → sum_by (λ point. length (seen_at point ss)) points ≡ length ss
all_filed [] there = none_seen points
all_filed (s ∷ ss) there =
    let point : s.capture < 8 = All-head IsAtPoint s ss there in
    omega (arith, one_more s ss points, among_them s.capture 0 8 (omega arith) (omega (arith, point)), all_filed ss (All-tail IsAtPoint s ss there))
