-- The classes of a row, and the digits of a time.
use Rattle.std.proofs.Common.{ℕ, List, [], ◌∷◌, ◌++◌, ◌≡◌, ◌<◌, ◌≤◌, ◌+◌, ◌-◌, ◌*◌, ◌^◌, inl, inr, suc, zero, refl, sym, true, false, ap, subst, ◌∙◌, arith, length, take, drop, get_or, set, replicate}
use Rattle.std.specs.Prelude.{sum, nat_lt}
use Rattle.std.specs.Int.{leading_zeros, w64}
use Rattle.std.proofs.lemmas.Bool.{cases_lt, lt-ltb, le-ltb}
use Rattle.std.proofs.lemmas.List.Sums.{sum_by-cons, sum_by-set}
use Rattle.std.proofs.lemmas.List.Folds.{sum_by-replicate}
use Rattle.std.proofs.lemmas.Nat.{leading_length}
use Rattle.std.proofs.lemmas.List.{length-replicate, get_or-replicate}
use Rattle.std.proofs.Math.Nat.{pow-suc}
use Rattle.std.proofs.Math.Pow.{pow_mono}
use Rattle.ds_base.specs.Times.{hour}
use Rattle.profiles.specs.Rows.{added, IsClass, class_from, class_of}

-- the search for the class of a time finds the least number
least-found : (most k time m : ℕ) → k ≤ m → m ≤ k + most → time < 2 ^ m → ((j : ℕ) → j < m → 2 ^ j ≤ time) → class_from most k time ≡ m
unfolding class_from
least-found zero k time m low high below above = omega (arith, low, high)
least-found (suc most) k time m low high below above =
    elim (cases_lt time (2 ^ k)) [
      | inl lt ↦
          let here : nat_lt time (2 ^ k) ≡ true = lt-ltb time (2 ^ k) lt in
          elim (cases_lt k m) [ inl less ↦ absurd (omega (arith, above k less, lt)) | inr ge ↦ rw here (omega (arith, low, ge)) ]
      | inr ge ↦
          let not_here : nat_lt time (2 ^ k) ≡ false = le-ltb time (2 ^ k) ge in
          let next : suc k ≤ m = elim (cases_lt k m) [
            | inl less ↦ omega (arith, less)
            | inr back ↦
                let same : m ≡ k = omega (arith, low, back) in absurd (omega (arith, ge, subst (λ n. time < 2 ^ n) same below))
          ] in
          rw not_here (least-found most (suc k) time m next (omega (arith, high)) below above)
    ]

-- what is less than the number of binary digits has its power of 2 at most the time
power_below : (time m j : ℕ) → 2 ^ m ≤ 2 * time + 1 → j < m → 2 ^ j ≤ time
power_below time m j le less =
    let next : suc j ≤ m = omega (arith, less) in
    let twice : 2 ^ suc j ≤ 2 ^ m = pow_mono next in
    omega (arith, pow-suc 2 j, twice, le)

-- the class of a time is how many binary digits it has
pub class-digits : (time : ℕ) → time < 2 ^ 64 → 64 - leading_zeros w64 time ≡ class_of time
unfolding class_of
class-digits time within =
    let l = leading_length 64 time within in
    let found : class_from 64 0 time ≡ l.0 =
    least-found 64 0 time l.0 (omega arith) (omega (arith, l.1)) l.2 (λ j less. power_below time l.0 j l.3 less) in
    omega (arith, found, l.1)

-- the class is the least number of its kind
pub least_class : (time : ℕ) → time < 2 ^ 64 → IsClass time (class_of time)
least_class time within =
    let l = leading_length 64 time within in
    let is : class_of time ≡ l.0 = omega (arith, sym (class-digits time within), l.1) in
    let own : IsClass time l.0 = record {
      below = l.2;
      least = λ j less. elim (cases_lt j l.0) [ inl short ↦ absurd (omega (arith, power_below time l.0 j l.3 short, less)) | inr ge ↦ ge ];
    } in
    subst (IsClass time) (sym is) own

-- a time of an hour has a class below 64
pub class-few : (time : ℕ) → time ≤ hour → class_of time < 64
class-few time h = let least : class_of time ≤ 42 = (least_class time (omega arith)).least 42 (omega arith) in omega arith

-- ---- the sums of classes

pub length-added : (xs ys : List ℕ) → length (added xs ys) ≡ length xs
length-added [] ys = refl
length-added (x ∷ xs) [] = refl
length-added (x ∷ xs) (y ∷ ys) = ap suc (length-added xs ys)

pub sum-added : (xs ys : List ℕ) → length xs ≡ length ys → sum (added xs ys) ≡ sum xs + sum ys
sum-added [] [] e = refl
sum-added [] (y ∷ ys) e = absurd (omega (arith, e))
sum-added (x ∷ xs) [] e = absurd (omega (arith, e))
sum-added (x ∷ xs) (y ∷ ys) e =
    let rest : sum (added xs ys) ≡ sum xs + sum ys = sum-added xs ys (omega (arith, e)) in
    omega (arith, rest, sum_by-cons (λ (n : ℕ). n) (x + y) (added xs ys), sum_by-cons (λ (n : ℕ). n) x xs, sum_by-cons (λ (n : ℕ). n) y ys)

-- the class at each place
pub get_or-added : (xs ys : List ℕ) (k : ℕ) → length xs ≡ length ys → get_or (added xs ys) k 0 ≡ get_or xs k 0 + get_or ys k 0
get_or-added [] [] k e = refl
get_or-added [] (y ∷ ys) k e = absurd (omega (arith, e))
get_or-added (x ∷ xs) [] k e = absurd (omega (arith, e))
get_or-added (x ∷ xs) (y ∷ ys) zero e = refl
get_or-added (x ∷ xs) (y ∷ ys) (suc k) e = get_or-added xs ys k (omega (arith, e))

-- a list of zeros changes nothing
added-zeros : (n : ℕ) (xs : List ℕ) → added xs (replicate n 0) ≡ xs
added-zeros n [] = refl
added-zeros zero (x ∷ xs) = refl
added-zeros (suc n) (x ∷ xs) = ap (λ (l : List ℕ). (x + 0) ∷ l) (added-zeros n xs) ∙ ap (λ (m : ℕ). m ∷ xs) (omega arith)

-- a single 1 raises one class
pub added-one : (n k : ℕ) (xs : List ℕ) → k < n → added xs (set (replicate n 0) k 1) ≡ set xs k (get_or xs k 0 + 1)
added-one n k [] lt = refl
added-one zero k (x ∷ xs) lt = absurd (omega arith)
added-one (suc n) zero (x ∷ xs) lt = ap (λ (l : List ℕ). (x + 1) ∷ l) (added-zeros n xs)
added-one (suc n) (suc k) (x ∷ xs) lt =
    ap (λ (l : List ℕ). (x + 0) ∷ l) (added-one n k xs (omega arith)) ∙ ap (λ (m : ℕ). m ∷ set xs k (get_or xs k 0 + 1)) (omega arith)

pub sum-one : (n k : ℕ) → k < n → sum (set (replicate n 0) k 1) ≡ 1
sum-one n k lt =
    omega (arith, sum_by-set (λ (m : ℕ). m) (replicate n 0) k 1 0 (omega (arith, length-replicate {A = ℕ} n 0)), sum_by-replicate (λ (m : ℕ). m) n 0, get_or-replicate {A = ℕ} n k 0 0 lt)

-- one more class of two lists is added
pub added-more : (k : ℕ) (xs ys : List ℕ) → length xs ≡ length ys → k < length xs
    → (v : ℕ) → v ≡ get_or (added (take k xs) (take k ys) ++ drop k xs) k 0 + get_or ys k 0
    → set (added (take k xs) (take k ys) ++ drop k xs) k v ≡ added (take (suc k) xs) (take (suc k) ys) ++ drop (suc k) xs
added-more k [] ys e lt v is = absurd (omega arith)
added-more k (x ∷ xs) [] e lt v is = absurd (omega (arith, e))
added-more zero (x ∷ xs) (y ∷ ys) e lt v is = ap (λ (m : ℕ). m ∷ xs) is
added-more (suc k) (x ∷ xs) (y ∷ ys) e lt v is = ap (λ (l : List ℕ). (x + y) ∷ l) (added-more k xs ys (omega (arith, e)) (omega arith) v is)
