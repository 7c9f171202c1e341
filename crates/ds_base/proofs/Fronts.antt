-- Fronts of lists by a test.
use Rattle.std.proofs.Common.{◌≡◌, ◌⊎◌, ◌++◌, Bool, true, false, List, [], ◌∷◌, cond, inl, inr, refl, sym, ap, subst, arith, ⊎_elim, ◌∙◌, ℕ, zero, suc, ◌<◌, length, get_or}
use Rattle.std.specs.Prelude.{IsTrue, ◌↔◌}
use Rattle.std.specs.List.{Contains}
use Rattle.ds_base.specs.Order.{Precedes, PrecedesAll, InStampOrder}
use Rattle.ds_base.specs.Fronts.{IsIn, upto, onward, BeginsPast, AreParted, PrecedesEach, InOrder, Falls, SameWhere, SameFront}
use Rattle.ds_base.specs.declared.stamp.Stamp.{Stamp}
use Rattle.ds_base.specs.declared.summary.Summary.{Summary}

-- no stamp is before one that is before it
pub not_both_ways : (a b : Stamp) → Precedes a b → Precedes b a → ⊥
not_both_ways a b h k = grind arith

pub parted : {X : Type 0} (p : X → Bool) (xs : List X) → AreParted p xs
parted p [] = record { joined = refl; pass = tt; stops = tt }
parted {X} p (x ∷ xs) = by_test (p x) refl (parted p xs)
  where
    by_test : (b : Bool) → p x ≡ b → AreParted p xs → AreParted p (x ∷ xs)
    by_test true e h = record {
      joined = rw e (ap (λ ys. x ∷ ys) h.joined);
      pass = rw e (e, h.pass);
      stops = rw e h.stops;
    }
    by_test false e h = record {
      joined = rw e refl;
      pass = rw e tt;
      stops = rw e (λ t. cc);
    }

module _ {X : Type 0} (at : X → Stamp) (p : X → Bool) where
  -- an item of the list comes after the stamp that precedes each
  pub precedes_in : (s : Stamp) (y : X) (xs : List X) → PrecedesEach at s xs → IsIn y xs → Precedes s (at y)
  precedes_in s y [] h there = absurd there
  precedes_in s y (x ∷ xs) h (inl e) = subst (λ z. Precedes s (at z)) (sym e) h.0
  precedes_in s y (x ∷ xs) h (inr l) = precedes_in s y xs h.1 l

  -- an item of the second list that passes is not first where the first list has it later
  first_is : (x y : X) (xs ys : List X) → InOrder at (x ∷ xs) → InOrder at (y ∷ ys) → Falls at p → SameWhere p (x ∷ xs) (y ∷ ys)
      → IsTrue (p x) → x ≡ y
  first_is x y xs ys hx hy falls same pass =
      ⊎_elim
      (λ (e : x ≡ y). e)
      (λ (later : IsIn x ys).
      let py : IsTrue (p y) = falls y x (precedes_in (at y) x ys hy.0 later) pass in
      ⊎_elim
      (λ (e : y ≡ x). sym e)
      (λ (earlier : IsIn y xs). absurd (not_both_ways (at x) (at y) (precedes_in (at x) y xs hx.0 earlier) (precedes_in (at y) x ys hy.0 later)))
      ((same y py).1 (inl refl)))
      ((same x pass).0 (inl refl))

  -- where both begin alike, the rests have the same
  rest_in : (x z : X) (xs ys : List X) → PrecedesEach at (at x) xs → IsIn z xs → IsIn z (x ∷ ys) → IsIn z ys
  rest_in x z xs ys hx there (inl e) =
      let itself : Precedes (at x) (at x) = subst (λ w. Precedes (at x) (at w)) e (precedes_in (at x) z xs hx there) in
      absurd (not_both_ways (at x) (at x) itself itself)
  rest_in x z xs ys hx there (inr l) = l

  pub same_front : (xs ys : List X) → SameFront at p xs ys
  same_front [] [] hx hy falls same = refl
  same_front [] (y ∷ ys) hx hy falls same = by_test (p y) refl
    where
      by_test : (b : Bool) → p y ≡ b → [] ≡ upto p (y ∷ ys)
      by_test true e = absurd ((same y e).1 (inl refl))
      by_test false e = rw e refl
  same_front (x ∷ xs) [] hx hy falls same = by_test (p x) refl
    where
      by_test : (b : Bool) → p x ≡ b → upto p (x ∷ xs) ≡ []
      by_test true e = absurd ((same x e).0 (inl refl))
      by_test false e = rw e refl
  same_front (x ∷ xs) (y ∷ ys) hx hy falls same = by_tests (p x) (p y) refl refl (same_front xs ys hx.1 hy.1 falls)
    where
      back : SameWhere p (y ∷ ys) (x ∷ xs)
      back z pass = ((same z pass).1, (same z pass).0)

      rests : x ≡ y → SameWhere p xs ys
      rests e z pass = (
        (λ there. rest_in x z xs ys hx.0 there (subst (λ w. IsIn z (w ∷ ys)) (sym e) ((same z pass).0 (inr there)))),
        (λ there. rest_in y z ys xs hy.0 there (subst (λ w. IsIn z (w ∷ xs)) e ((same z pass).1 (inr there)))),
      )

      by_tests : (a b : Bool) → p x ≡ a → p y ≡ b → (SameWhere p xs ys → upto p xs ≡ upto p ys) → upto p (x ∷ xs) ≡ upto p (y ∷ ys)
      by_tests true true e f later =
          let first : x ≡ y = first_is x y xs ys hx hy falls same e in
          rw (e, f) (ap (λ z. z ∷ upto p xs) first ∙ ap (λ zs. y ∷ zs) (later (rests first)))
      by_tests true false e f later = let first : x ≡ y = first_is x y xs ys hx hy falls same e in let g : p x ≡ p y = ap p first in cc
      by_tests false true e f later = let first : y ≡ x = first_is y x ys xs hy hx falls back f in let g : p y ≡ p x = ap p first in cc
      by_tests false false e f later = rw (e, f) refl

-- ---- the same in other words

-- stamps before all these summaries
pub precedes_each : (at : Stamp) (ss : List Summary) → PrecedesAll at ss → PrecedesEach (λ (s : Summary). s.at) at ss
precedes_each at [] h = tt
precedes_each at (s ∷ ss) h = (h.0, precedes_each at ss h.1)

-- summaries in stamp order are in the order of their stamps
pub in_order : (ss : List Summary) → InStampOrder ss → InOrder (λ (s : Summary). s.at) ss
in_order [] h = tt
in_order (s ∷ ss) h = (precedes_each s.at ss h.0, in_order ss h.1)

-- what is in a list, it contains at some place
pub contains_in : {X : Type 0} (x : X) (xs : List X) → IsIn x xs → Contains xs x
contains_in x [] h = absurd h
contains_in x (y ∷ ys) (inl e) = let within : 0 < length (y ∷ ys) = omega arith in (0, within, sym e)
contains_in x (y ∷ ys) (inr h) = let c = contains_in x ys h in (suc c.0, omega (arith, c.1), c.2)

pub in_contains : {X : Type 0} (x : X) (xs : List X) → Contains xs x → IsIn x xs
in_contains {X} x xs h = at_place xs h.0 h.1 h.2
  where
    at_place : (ys : List X) (k : ℕ) → k < length ys → get_or ys k x ≡ x → IsIn x ys
    at_place [] k less at = absurd (omega (arith, less))
    at_place (y ∷ ys) zero less at = inl (sym at)
    at_place (y ∷ ys) (suc k) less at = inr (at_place ys k (omega (arith, less)) at)

-- what comes after a list and fails the test adds nothing to its front
pub front_more : {X : Type 0} (p : X → Bool) (xs ys : List X) → upto p ys ≡ [] → upto p (xs ++ ys) ≡ upto p xs
front_more p [] ys none = none
front_more {X} p (x ∷ xs) ys none = by_test (p x) refl (front_more p xs ys none)
  where
    by_test : (b : Bool) → p x ≡ b → upto p (xs ++ ys) ≡ upto p xs → upto p ((x ∷ xs) ++ ys) ≡ upto p (x ∷ xs)
    by_test true e h = rw e (ap (λ (zs : List X). x ∷ zs) h)
    by_test false e h = rw e refl
