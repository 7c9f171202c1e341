-- Items with stamps in their order.
use Rattle.std.proofs.Common.{Bool, true, false, List, [], ◌∷◌, ◌++◌, ◌≡◌, ◌⊎◌, ◌||◌, inl, inr, refl, ap, ⊎_elim, arith}
use Rattle.std.specs.Prelude.{if◌then◌else◌, not}
use Rattle.std.specs.List.{AllByRecursion, IsDistinct}
use Rattle.std.specs.List.Sorted.{IsPermutation}
use Rattle.std.proofs.lemmas.Bool.{cases_Bool, both_ways}
use Rattle.std.proofs.lemmas.Bool.Decides.{nat_tests}
use Rattle.std.proofs.lemmas.List.Sorted.{IsPermutation-refl, IsPermutation-trans, IsPermutation-sym, IsPermutation-cons, IsPermutation-middle}
use Rattle.std.proofs.lemmas.Map.Keys.{IsDistinct-IsPermutation}
use Rattle.ds_base.specs.Fronts.{IsIn, PrecedesEach, InOrder}
use Rattle.ds_base.specs.Order.{Precedes}
use Rattle.ds_base.specs.declared.stamp.Stamp.{Stamp}
use Rattle.window_grouper.specs.Sorted.{is_before}
use Rattle.window_grouper.proofs.Stamps.{before_true, precedes_trans}
use Rattle.run_law.proofs.Lists.{all_in, all_left, in_permutation}
use Rattle.run_law.proofs.Parts.{IsPart}

precedes_before : (a b : Stamp) → is_before a b ≡ true → Precedes a b
precedes_before a b h = grind (arith, nat_tests)

-- whether two stamps are one
abbrev is_one : Stamp → Stamp → Bool
is_one a b = not (is_before a b || is_before b a)

either_way : (p q : Bool) → not (p || q) ≡ not (q || p)
either_way true true = refl
either_way true false = refl
either_way false true = refl
either_way false false = refl

two_ways : (p q : Bool) → not (p || q) ≡ false → (p ≡ true) ⊎ (q ≡ true)
two_ways true q h = inl refl
two_ways false true h = inr refl
two_ways false false h = absurd (cc)

apart_from : (a b : Stamp) → is_one a b ≡ false → Precedes a b ⊎ Precedes b a
apart_from a b h =
    ⊎_elim
    (λ (f : is_before a b ≡ true). inl (precedes_before a b f))
    (λ (s : is_before b a ≡ true). inr (precedes_before b a s))
    (two_ways (is_before a b) (is_before b a) h)

not_one : (a b : Stamp) → Precedes a b → is_one a b ≡ false
not_one a b h = ap (λ (p : Bool). not (p || is_before b a)) (before_true a b h)

module _ {X : Type 0} (at : X → Stamp) where
  abbrev one_stamp : X → X → Bool
  one_stamp x y = is_one (at x) (at y)

  abbrev insert_in : X → List X → List X
  insert_in x [] = x ∷ []
  insert_in x (y ∷ ys) = if is_before (at x) (at y) then x ∷ y ∷ ys else y ∷ insert_in x ys

  abbrev pub in_turn : List X → List X
  in_turn [] = []
  in_turn (x ∷ xs) = insert_in x (in_turn xs)

  each_inserted : (s : Stamp) (x : X) (ys : List X) → Precedes s (at x) → PrecedesEach at s ys → PrecedesEach at s (insert_in x ys)
  each_inserted s x [] h k = (h, tt)
  each_inserted s x (y ∷ ys) h k =
      ⊎_elim
      (λ (t : is_before (at x) (at y) ≡ true). rw t (h, k))
      (λ (f : is_before (at x) (at y) ≡ false). rw f (k.0, each_inserted s x ys h k.1))
      (cases_Bool (is_before (at x) (at y)))

  each_further : (a b : Stamp) (ys : List X) → Precedes a b → PrecedesEach at b ys → PrecedesEach at a ys
  each_further a b [] h k = tt
  each_further a b (y ∷ ys) h k = (precedes_trans a b (at y) h k.0, each_further a b ys h k.1)

  order_inserted : (x : X) (ys : List X) → ((y : X) → IsIn y ys → Precedes (at x) (at y) ⊎ Precedes (at y) (at x)) → InOrder at ys → InOrder at (insert_in x ys)
  order_inserted x [] apart h = (tt, tt)
  order_inserted x (y ∷ ys) apart h =
      ⊎_elim
      (λ (t : is_before (at x) (at y) ≡ true).
      let before : Precedes (at x) (at y) = precedes_before (at x) (at y) t in
      rw t ((before, each_further (at x) (at y) ys before h.0), h))
      (λ (f : is_before (at x) (at y) ≡ false).
      let behind : Precedes (at y) (at x) = ⊎_elim
      (λ (p : Precedes (at x) (at y)). absurd (both_ways (is_before (at x) (at y)) f (before_true (at x) (at y) p)))
      (λ (p : Precedes (at y) (at x)). p)
      (apart y (inl refl)) in
      rw f (each_inserted (at y) x ys behind h.0, order_inserted x ys (λ z l. apart z (inr l)) h.1))
      (cases_Bool (is_before (at x) (at y)))

  same_inserted : (x : X) (ys : List X) → IsPermutation (x ∷ ys) (insert_in x ys)
  same_inserted x [] = IsPermutation-refl (x ∷ [])
  same_inserted x (y ∷ ys) =
      ⊎_elim
      (λ (t : is_before (at x) (at y) ≡ true). rw t (IsPermutation-refl (x ∷ y ∷ ys)))
      (λ (f : is_before (at x) (at y) ≡ false).
      rw f (IsPermutation-trans (x ∷ y ∷ ys) (y ∷ x ∷ ys) (y ∷ insert_in x ys)
      (IsPermutation-sym (y ∷ x ∷ ys) (x ∷ y ∷ ys) (IsPermutation-middle (y ∷ []) x ys))
      (IsPermutation-cons y (x ∷ ys) (insert_in x ys) (same_inserted x ys))))
      (cases_Bool (is_before (at x) (at y)))

  pub same_in_turn : (xs : List X) → IsPermutation xs (in_turn xs)
  same_in_turn [] = IsPermutation-refl []
  same_in_turn (x ∷ xs) =
      IsPermutation-trans (x ∷ xs) (x ∷ in_turn xs) (insert_in x (in_turn xs))
      (IsPermutation-cons x xs (in_turn xs) (same_in_turn xs)) (same_inserted x (in_turn xs))

  apart_each : (x : X) (ys : List X) → PrecedesEach at (at x) ys → AllByRecursion (λ y. one_stamp x y ≡ false) ys
  apart_each x [] h = tt
  apart_each x (y ∷ ys) h = (not_one (at x) (at y) h.0, apart_each x ys h.1)

  distinct_ordered : (xs : List X) → InOrder at xs → IsDistinct one_stamp xs
  unfolding IsDistinct
  distinct_ordered [] h = tt
  distinct_ordered (x ∷ xs) h = (apart_each x xs h.0, distinct_ordered xs h.1)

  distinct_left : (xs ys : List X) → IsDistinct one_stamp (xs ++ ys) → IsDistinct one_stamp xs
  unfolding IsDistinct
  distinct_left [] ys h = tt
  distinct_left (x ∷ xs) ys h = (all_left (λ y. one_stamp x y ≡ false) xs ys h.0, distinct_left xs ys h.1)

  ordered_distinct : (xs : List X) → IsDistinct one_stamp xs → InOrder at (in_turn xs)
  unfolding IsDistinct
  ordered_distinct [] h = tt
  ordered_distinct (x ∷ xs) h =
      order_inserted x (in_turn xs)
      (λ y there. apart_from (at x) (at y)
      (all_in (λ z. one_stamp x z ≡ false) y xs h.0 (in_permutation y (in_turn xs) xs (IsPermutation-sym xs (in_turn xs) (same_in_turn xs)) there)))
      (ordered_distinct xs h.1)

  -- a part of a list in order can be brought into order
  pub part_in_turn : (xs ys : List X) → IsPart xs ys → InOrder at ys → InOrder at (in_turn xs)
  part_in_turn xs ys part h =
      ordered_distinct xs (distinct_left xs part.others
      (IsDistinct-IsPermutation one_stamp (λ x y. either_way (is_before (at x) (at y)) (is_before (at y) (at x))) ys (xs ++ part.others)
      (IsPermutation-sym (xs ++ part.others) ys part.same) (distinct_ordered ys h)))
