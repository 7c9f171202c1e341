-- Lists: what is in them, and fronts of them.
use Rattle.std.proofs.Common.{ℕ, zero, suc, Bool, true, false, List, [], ◌∷◌, ◌++◌, ◌≡◌, ◌⊎◌, ◌<◌, ◌≤◌, ◌+◌, ◌%◌, inl, inr, refl, sym, ap, subst, ◌∙◌, ⊎_elim, arith, map, length, append_assoc}
use Rattle.std.specs.Prelude.{filter, flat_map, ◌==◌}
use Rattle.std.specs.List.{AllByRecursion, range_with_len}
use Rattle.std.specs.List.Sorted.{IsPermutation}
use Rattle.std.proofs.lemmas.Bool.{cases_Bool, eq-eqb, eqb-true}
use Rattle.std.proofs.lemmas.List.{append-nil}
use Rattle.std.proofs.lemmas.List.Sorted.{Contains-permutation}
use Rattle.ds_base.specs.Fronts.{IsIn, upto, onward}
use Rattle.ds_base.proofs.Fronts.{contains_in, in_contains, parted}
use Rattle.run_law.specs.Nodes.{below}
use Rattle.run_law.specs.Shapes.{IsFront, with_number, numbered, dealt}

-- ---- joined lists

pub in_left : {X : Type 0} (z : X) (xs ys : List X) → IsIn z xs → IsIn z (xs ++ ys)
in_left z [] ys h = absurd h
in_left z (x ∷ xs) ys (inl e) = inl e
in_left z (x ∷ xs) ys (inr l) = inr (in_left z xs ys l)

pub in_right : {X : Type 0} (z : X) (xs ys : List X) → IsIn z ys → IsIn z (xs ++ ys)
in_right z [] ys h = h
in_right z (x ∷ xs) ys h = inr (in_right z xs ys h)

pub in_either : {X : Type 0} (z : X) (xs ys : List X) → IsIn z (xs ++ ys) → IsIn z xs ⊎ IsIn z ys
in_either z [] ys h = inr h
in_either z (x ∷ xs) ys (inl e) = inl (inl e)
in_either z (x ∷ xs) ys (inr l) = ⊎_elim (λ (m : IsIn z xs). inl (inr m)) (λ (m : IsIn z ys). inr m) (in_either z xs ys l)

-- ---- of each item

pub all_in : {X : Type 0} (P : X → Type 0) (z : X) (xs : List X) → AllByRecursion P xs → IsIn z xs → P z
all_in P z [] h there = absurd there
all_in P z (x ∷ xs) h (inl e) = subst P (sym e) h.0
all_in P z (x ∷ xs) h (inr l) = all_in P z xs h.1 l

pub in_all : {X : Type 0} (P : X → Type 0) (xs : List X) → ((z : X) → IsIn z xs → P z) → AllByRecursion P xs
in_all P [] h = tt
in_all P (x ∷ xs) h = (h x (inl refl), in_all P xs (λ z l. h z (inr l)))

pub all_left : {X : Type 0} (P : X → Type 0) (xs ys : List X) → AllByRecursion P (xs ++ ys) → AllByRecursion P xs
all_left P [] ys h = tt
all_left P (x ∷ xs) ys h = (h.0, all_left P xs ys h.1)

-- either A, or P of all
pub either_all : {X : Type 0} (A : Type 0) (P : X → Type 0) (xs : List X) → ((z : X) → IsIn z xs → A ⊎ P z) → A ⊎ AllByRecursion P xs
either_all A P [] h = inr tt
either_all A P (x ∷ xs) h =
    ⊎_elim
    (λ (a : A). inl a)
    (λ (p : P x). ⊎_elim (λ (a : A). inl a) (λ (ps : AllByRecursion P xs). inr (p, ps)) (either_all A P xs (λ z l. h z (inr l))))
    (h x (inl refl))

-- ---- maps, filters and parts

pub in_map : {X Y : Type 0} (f : X → Y) (x : X) (xs : List X) → IsIn x xs → IsIn (f x) (map f xs)
in_map f x [] h = absurd h
in_map f x (y ∷ ys) (inl e) = inl (ap f e)
in_map f x (y ∷ ys) (inr l) = inr (in_map f x ys l)

-- what the item came from
pub record From {X : Type 0} (P : X → Type 0) (xs : List X) : Type 0 where
  pub item : X
  pub there : IsIn item xs
  pub is : P item

later_from : {X : Type 0} (P : X → Type 0) (x : X) (xs : List X) → From P xs → From P (x ∷ xs)
later_from P x xs f = record { item = f.item; there = inr f.there; is = f.is }

pub of_map : {X Y : Type 0} (f : X → Y) (y : Y) (xs : List X) → IsIn y (map f xs) → From (λ x. y ≡ f x) xs
of_map f y [] h = absurd h
of_map f y (x ∷ xs) (inl e) = record { item = x; there = inl refl; is = e }
of_map f y (x ∷ xs) (inr l) = later_from (λ x. y ≡ f x) x xs (of_map f y xs l)

pub in_flat : {X Y : Type 0} (f : X → List Y) (x : X) (y : Y) (xs : List X) → IsIn x xs → IsIn y (f x) → IsIn y (flat_map f xs)
in_flat f x y [] h k = absurd h
in_flat f x y (z ∷ zs) (inl e) k = in_left y (f z) (flat_map f zs) (subst (λ w. IsIn y (f w)) e k)
in_flat f x y (z ∷ zs) (inr l) k = in_right y (f z) (flat_map f zs) (in_flat f x y zs l k)

pub of_flat : {X Y : Type 0} (f : X → List Y) (y : Y) (xs : List X) → IsIn y (flat_map f xs) → From (λ x. IsIn y (f x)) xs
of_flat f y [] h = absurd h
of_flat f y (x ∷ xs) h =
    ⊎_elim
    (λ (here : IsIn y (f x)). record { item = x; there = inl refl; is = here })
    (λ (later : IsIn y (flat_map f xs)). later_from (λ z. IsIn y (f z)) x xs (of_flat f y xs later))
    (in_either y (f x) (flat_map f xs) h)

pub flat-append : {X Y : Type 0} (f : X → List Y) (xs ys : List X) → flat_map f (xs ++ ys) ≡ flat_map f xs ++ flat_map f ys
flat-append f [] ys = refl
flat-append f (x ∷ xs) ys = ap (λ zs. f x ++ zs) (flat-append f xs ys) ∙ sym (append_assoc (f x) (flat_map f xs) (flat_map f ys))

pub in_filter : {X : Type 0} (p : X → Bool) (z : X) (xs : List X) → p z ≡ true → IsIn z xs → IsIn z (filter p xs)
in_filter p z [] pass h = absurd h
in_filter {X} p z (x ∷ xs) pass (inl e) =
    let own : p x ≡ true = ap p (sym e) ∙ pass in rw own (inl e)
in_filter {X} p z (x ∷ xs) pass (inr l) =
    ⊎_elim
    (λ (t : p x ≡ true). rw t (inr (in_filter p z xs pass l)))
    (λ (f : p x ≡ false). rw f (in_filter p z xs pass l))
    (cases_Bool (p x))

pub of_filter : {X : Type 0} (p : X → Bool) (z : X) (xs : List X) → IsIn z (filter p xs) → IsIn z xs × (p z ≡ true)
of_filter p z [] h = absurd h
of_filter {X} p z (x ∷ xs) h =
    ⊎_elim
    (λ (t : p x ≡ true).
    let split : (z ≡ x) ⊎ IsIn z (filter p xs) = rw t at h in
    ⊎_elim
    (λ (e : z ≡ x). (inl e, ap p e ∙ t))
    (λ (l : IsIn z (filter p xs)). let rest = of_filter p z xs l in (inr rest.0, rest.1))
    split)
    (λ (f : p x ≡ false).
    let later : IsIn z (filter p xs) = rw f at h in
    let rest = of_filter p z xs later in (inr rest.0, rest.1))
    (cases_Bool (p x))

-- ---- the numbers below n

in_range : (a n k : ℕ) → a ≤ k → k < a + n → IsIn k (range_with_len a n)
in_range a zero k low high = absurd (omega arith)
in_range a (suc n) k low high =
    ⊎_elim
    (λ (e : k ≡ a). inl e)
    (λ (up : a + 1 ≤ k). inr (in_range (a + 1) n k up (omega arith)))
    (here_or_up a k low)
  where
    here_or_up : (a k : ℕ) → a ≤ k → (k ≡ a) ⊎ (a + 1 ≤ k)
    here_or_up a k low = grind arith

of_range : (a n k : ℕ) → IsIn k (range_with_len a n) → (a ≤ k) × (k < a + n)
of_range a zero k h = absurd h
of_range a (suc n) k (inl e) = (omega arith, omega arith)
of_range a (suc n) k (inr l) = let rest = of_range (a + 1) n k l in (omega (arith, rest.0), omega (arith, rest.1))

pub in_below : (n k : ℕ) → k < n → IsIn k (below n)
in_below n k less = in_range 0 n k (omega arith) (omega arith)

pub of_below : (n k : ℕ) → IsIn k (below n) → k < n
of_below n k h = let r = of_range 0 n k h in omega (arith, r.1)

-- ---- other orders

pub in_permutation : {X : Type 0} (z : X) (xs ys : List X) → IsPermutation xs ys → IsIn z xs → IsIn z ys
in_permutation z xs ys p h = in_contains z ys (Contains-permutation xs ys z p (contains_in z xs h))

-- ---- fronts

pub front_trans : {X : Type 0} (xs ys zs : List X) → IsFront xs ys → IsFront ys zs → IsFront xs zs
front_trans xs ys zs f g = record {
  rest = f.rest ++ g.rest;
  joined = g.joined ∙ ap (λ ws. ws ++ g.rest) f.joined ∙ append_assoc xs f.rest g.rest;
}

pub in_front : {X : Type 0} (z : X) (xs ys : List X) → IsFront xs ys → IsIn z xs → IsIn z ys
in_front z xs ys f h = subst (λ ws. IsIn z ws) (sym f.joined) (in_left z xs f.rest h)

pub front_self : {X : Type 0} (xs : List X) → IsFront xs xs
front_self xs = record { rest = []; joined = sym (append-nil xs) }

pub upto_front : {X : Type 0} (p : X → Bool) (xs : List X) → IsFront (upto p xs) xs
upto_front p xs = record { rest = onward p xs; joined = sym (parted p xs).joined }

-- ---- numbered items

pub in_number : {X : Type 0} (n : ℕ) (x : X) (es : List (ℕ × X)) → IsIn (n, x) es → IsIn x (with_number n es)
in_number n x [] h = absurd h
in_number {X} n x (e ∷ es) (inl same) =
    let own : (e.0 == n) ≡ true = eq-eqb e.0 n (ap (λ (p : ℕ × X). p.0) (sym same)) in
    rw own (inl (ap (λ (p : ℕ × X). p.1) same))
in_number {X} n x (e ∷ es) (inr l) =
    ⊎_elim
    (λ (t : (e.0 == n) ≡ true). rw t (inr (in_number n x es l)))
    (λ (f : (e.0 == n) ≡ false). rw f (in_number n x es l))
    (cases_Bool (e.0 == n))

pub of_number : {X : Type 0} (n : ℕ) (x : X) (es : List (ℕ × X)) → IsIn x (with_number n es) → IsIn (n, x) es
of_number n x [] h = absurd h
of_number {X} n x (e ∷ es) h =
    ⊎_elim
    (λ (t : (e.0 == n) ≡ true).
    let split : (x ≡ e.1) ⊎ IsIn x (with_number n es) = rw t at h in
    let own : n ≡ e.0 = sym (eqb-true e.0 n t) in
    ⊎_elim
    (λ (same : x ≡ e.1). inl (ap (λ (m : ℕ). (m, x)) own ∙ ap (λ (z : X). (e.0, z)) same))
    (λ (l : IsIn x (with_number n es)). inr (of_number n x es l))
    split)
    (λ (f : (e.0 == n) ≡ false).
    let later : IsIn x (with_number n es) = rw f at h in
    inr (of_number n x es later))
    (cases_Bool (e.0 == n))

pub number-append : {X : Type 0} (n : ℕ) (es fs : List (ℕ × X)) → with_number n (es ++ fs) ≡ with_number n es ++ with_number n fs
number-append n [] fs = refl
number-append {X} n (e ∷ es) fs =
    ⊎_elim
    (λ (t : (e.0 == n) ≡ true). rw t (ap (λ xs. e.1 ∷ xs) (number-append n es fs)))
    (λ (f : (e.0 == n) ≡ false). rw f (number-append n es fs))
    (cases_Bool (e.0 == n))

numbered-append : {X : Type 0} (n k : ℕ) (xs ys : List X) → numbered n k (xs ++ ys) ≡ numbered n k xs ++ numbered n (k + length xs) ys
numbered-append n k [] ys = ap (λ j. numbered n j ys) (omega arith)
numbered-append {X} n k (x ∷ xs) ys =
    let place : k + 1 + length xs ≡ k + suc (length xs) = omega arith in
    ap (λ (es : List (ℕ × X)). (k % n, x) ∷ es)
    (numbered-append n (k + 1) xs ys ∙ ap (λ j. numbered n (k + 1) xs ++ numbered n j ys) place)

-- what goes to one, of a front
pub dealt_front : {X : Type 0} (n g q : ℕ) (xs ys : List X) → IsFront xs ys → IsFront (dealt n g q xs) (dealt n g q ys)
dealt_front n g q xs ys f = record {
  rest = with_number q (numbered n (g + length xs) f.rest);
  joined = ap (λ zs. dealt n g q zs) f.joined
      ∙ ap (with_number q) (numbered-append n g xs f.rest)
      ∙ number-append q (numbered n g xs) (numbered n (g + length xs) f.rest);
}

-- where each goes
pub goes_to : {X : Type 0} (n k : ℕ) (x : X) (xs : List X) → 0 < n → IsIn x xs → From (λ q. (q < n) × IsIn (q, x) (numbered n k xs)) (below n)
goes_to n k x [] some h = absurd h
goes_to {X} n k x (y ∷ ys) some (inl e) =
    let less : k % n < n = omega arith in
    record { item = k % n; there = in_below n (k % n) less; is = (less, inl (ap (λ (z : X). (k % n, z)) e)) }
goes_to {X} n k x (y ∷ ys) some (inr l) =
    let rest = goes_to n (k + 1) x ys some l in
    record { item = rest.item; there = rest.there; is = (rest.is.0, inr rest.is.1) }

of_numbered : {X : Type 0} (n k : ℕ) (e : ℕ × X) (xs : List X) → IsIn e (numbered n k xs) → IsIn e.1 xs
of_numbered n k e [] h = absurd h
of_numbered {X} n k e (y ∷ ys) (inl same) = inl (ap (λ (p : ℕ × X). p.1) same)
of_numbered n k e (y ∷ ys) (inr l) = inr (of_numbered n (k + 1) e ys l)

pub of_dealt : {X : Type 0} (n g q : ℕ) (x : X) (xs : List X) → IsIn x (dealt n g q xs) → IsIn x xs
of_dealt n g q x xs h = of_numbered n g (q, x) xs (of_number q x (numbered n g xs) h)

-- what goes to one of two parts
pub dealt_parts : {X : Type 0} (n g q : ℕ) (x : X) (xs ys : List X) → IsIn x (dealt n g q (xs ++ ys)) → IsIn x (dealt n g q xs) ⊎ IsIn x ys
dealt_parts n g q x xs ys h =
    let split : IsIn x (dealt n g q xs ++ with_number q (numbered n (g + length xs) ys)) =
    subst (λ zs. IsIn x zs) (ap (with_number q) (numbered-append n g xs ys) ∙ number-append q (numbered n g xs) (numbered n (g + length xs) ys)) h in
    ⊎_elim
    (λ (l : IsIn x (dealt n g q xs)). inl l)
    (λ (r : IsIn x (with_number q (numbered n (g + length xs) ys))).
    inr (of_numbered n (g + length xs) (q, x) ys (of_number q x (numbered n (g + length xs) ys) r)))
    (in_either x (dealt n g q xs) (with_number q (numbered n (g + length xs) ys)) split)
