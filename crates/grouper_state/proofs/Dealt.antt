-- Groups that go to the processors in turn, one more at a time.
use Rattle.std.proofs.Common.{ℕ, true, false, List, [], ◌∷◌, ◌++◌, ◌≡◌, ◌+◌, ◌*◌, ◌%◌, ◌⊎◌, inl, inr, refl, sym, ap, ◌∙◌, ⊎_elim, arith, length}
use Rattle.std.specs.Prelude.{◌==◌, ◌/◌}
use Rattle.std.proofs.lemmas.Bool.{cases_Bool, both_ways, eq-eqb, eqb-true}
use Rattle.std.proofs.lemmas.List.{append-nil}
use Rattle.std.proofs.lemmas.Nat.{div-add-mod'}
use Rattle.std.proofs.Math.Nat.{add-mul-mod_self_right}
use Rattle.ds_base.specs.Fronts.{IsIn}
use Rattle.run_law.specs.Shapes.{with_number, numbered, dealt}
use Rattle.run_law.proofs.Lists.{in_right, number-append}

-- a number is another, or it is not
pub same_or_not : (a b : ℕ) → (a ≡ b) ⊎ (a ≡ b → ⊥)
same_or_not a b =
    ⊎_elim
    (λ (t : (a == b) ≡ true). inl (eqb-true a b t))
    (λ (f : (a == b) ≡ false). inr (λ e. absurd (both_ways (a == b) f (eq-eqb a b e))))
    (cases_Bool (a == b))

pub differs : (a b : ℕ) → (a ≡ b → ⊥) → (a == b) ≡ false
differs a b other =
    ⊎_elim
    (λ (t : (a == b) ≡ true). absurd (other (eqb-true a b t)))
    (λ (f : (a == b) ≡ false). f)
    (cases_Bool (a == b))

pub mod_next : (a n : ℕ) → (a % n + 1) % n ≡ (a + 1) % n
mod_next a n =
    let parts = div-add-mod' a n in
    let whole : a % n + 1 + a / n * n ≡ a + 1 = omega (arith, parts) in
    sym (add-mul-mod_self_right (a % n + 1) (a / n) n) ∙ ap (λ (k : ℕ). k % n) whole

numbered_push : {X : Type 0} (n k : ℕ) (xs : List X) (x : X) → numbered n k (xs ++ x ∷ []) ≡ numbered n k xs ++ ((k + length xs) % n, x) ∷ []
numbered_push {X} n k [] x = let place : k ≡ k + 0 = omega arith in ap (λ (j : ℕ). (j % n, x) ∷ []) place
numbered_push {X} n k (y ∷ ys) x =
    let place : k + 1 + length ys ≡ k + length (y ∷ ys) = omega arith in
    ap (λ (es : List (ℕ × X)). (k % n, y) ∷ es)
    (numbered_push n (k + 1) ys x ∙ ap (λ (j : ℕ). numbered n (k + 1) ys ++ (j % n, x) ∷ []) place)

module _ {X : Type 0} (n g q : ℕ) (xs : List X) (x : X) where
  parts : dealt n g q (xs ++ x ∷ []) ≡ dealt n g q xs ++ with_number q (((g + length xs) % n, x) ∷ [])
  parts = ap (λ (es : List (ℕ × X)). with_number q es) (numbered_push n g xs x) ∙ number-append q (numbered n g xs) (((g + length xs) % n, x) ∷ [])

  -- the one whose turn it is gets it
  pub dealt_own : (g + length xs) % n ≡ q → dealt n g q (xs ++ x ∷ []) ≡ dealt n g q xs ++ x ∷ []
  dealt_own e = let own : ((g + length xs) % n == q) ≡ true = eq-eqb ((g + length xs) % n) q e in parts ∙ rw own refl

  -- and no other
  pub dealt_other : ((g + length xs) % n ≡ q → ⊥) → dealt n g q (xs ++ x ∷ []) ≡ dealt n g q xs
  dealt_other e = let not : ((g + length xs) % n == q) ≡ false = differs ((g + length xs) % n) q e in parts ∙ rw not (append-nil (dealt n g q xs))

pub in_last : {X : Type 0} (xs : List X) (x : X) → IsIn x (xs ++ x ∷ [])
in_last xs x = in_right x xs (x ∷ []) (inl refl)
