-- Sums over two lists of one length, and bounds of sums.
use Rattle.std.proofs.Common.{ℕ, zero, suc, ◌*◌, ◌<◌, ◌≤◌, ◌≡◌, List, [], ◌∷◌, length, get_or, refl, ap, subst, arith}
use Rattle.std.specs.List.{sum_by}
use Rattle.std.proofs.lemmas.List.{get_or_default, nil_from_length}
use Rattle.std.proofs.lemmas.List.Sums.{sum_by-cons, sum_by-le}

module _ {X : Type 0} (f : X → ℕ) (d : X) where
  pub sum_same : (xs ys : List X) → length ys ≡ length xs → ((k : ℕ) → k < length xs → f (get_or ys k d) ≡ f (get_or xs k d)) → sum_by f ys ≡ sum_by f xs
  sum_same [] [] e each = refl
  sum_same [] (y ∷ ys) e each = absurd (omega arith)
  sum_same (x ∷ xs) [] e each = absurd (omega arith)
  sum_same (x ∷ xs) (y ∷ ys) e each =
      let first : f y ≡ f x = each 0 (omega arith) in
      let rest : sum_by f ys ≡ sum_by f xs = sum_same xs ys (omega arith) (λ k less. each (suc k) (omega arith)) in
      omega (arith, sum_by-cons f x xs, sum_by-cons f y ys)

  pub sum_no_less : (xs ys : List X) → length ys ≡ length xs → ((k : ℕ) → k < length xs → f (get_or xs k d) ≤ f (get_or ys k d)) → sum_by f xs ≤ sum_by f ys
  sum_no_less [] [] e each = omega arith
  sum_no_less [] (y ∷ ys) e each = absurd (omega arith)
  sum_no_less (x ∷ xs) [] e each = absurd (omega arith)
  sum_no_less (x ∷ xs) (y ∷ ys) e each =
      let first : f x ≤ f y = each 0 (omega arith) in
      let rest : sum_by f xs ≤ sum_by f ys = sum_no_less xs ys (omega arith) (λ k less. each (suc k) (omega arith)) in
      omega (arith, sum_by-cons f x xs, sum_by-cons f y ys)

  pub sum_rises : (xs ys : List X) → length ys ≡ length xs → ((k : ℕ) → k < length xs → f (get_or xs k d) ≤ f (get_or ys k d))
      → (i : ℕ) → i < length xs → f (get_or xs i d) < f (get_or ys i d) → sum_by f xs < sum_by f ys
  sum_rises [] ys e each i less up = absurd (omega arith)
  sum_rises (x ∷ xs) [] e each i less up = absurd (omega arith)
  sum_rises (x ∷ xs) (y ∷ ys) e each zero less up =
      let rest : sum_by f xs ≤ sum_by f ys = sum_no_less xs ys (omega arith) (λ k within. each (suc k) (omega arith)) in
      let first : f x < f y = up in
      omega (arith, sum_by-cons f x xs, sum_by-cons f y ys)
  sum_rises (x ∷ xs) (y ∷ ys) e each (suc i) less up =
      let first : f x ≤ f y = each 0 (omega arith) in
      let rest : sum_by f xs < sum_by f ys = sum_rises xs ys (omega arith) (λ k within. each (suc k) (omega arith)) i (omega arith) up in
      omega (arith, sum_by-cons f x xs, sum_by-cons f y ys)

  -- n terms of at most m each
  pub sum_within : (m n : ℕ) (xs : List X) → length xs ≡ n → ((k : ℕ) → k < length xs → f (get_or xs k d) ≤ m) → sum_by f xs ≤ n * m
  sum_within m n xs count each =
      subst (λ (terms : ℕ). sum_by f xs ≤ terms * m) count
      (sum_by-le f m xs (λ k e less. subst (λ (x : X). f x ≤ m) (get_or_default xs k d e less) (each k less)))

  pub sum_of_none : (xs : List X) → length xs ≡ 0 → sum_by f xs ≡ 0
  sum_of_none xs none = ap (sum_by f) (nil_from_length xs none)
