-- Groups have one profile.
use Rattle.std.proofs.Common.{ℕ, Bool, true, false, cond, List, [], ◌∷◌, ◌≡◌, ◌<◌, ◌≤◌, ◌⊎◌, inl, inr, refl, sym, ap, subst, ◌∙◌, arith, ⊎_elim, length}
use Rattle.std.specs.Prelude.{Option, Some, None, All, Contains}
use Rattle.std.proofs.lemmas.Bool.{cases_Bool, cases_order}
use Rattle.std.proofs.lemmas.List.{same_lists, get_or_default}
use Rattle.std.proofs.lemmas.Option.{same_Some, none-some}
use Rattle.ds_base.specs.declared.profile_row.ProfileRow.{ProfileRow}
use Rattle.profiles.specs.Delays.{delays_of, times_between}
use Rattle.profiles.specs.Rows.{IsRowOf, TellsOf, PairPrecedes, AreRising, is_of, row_of}
use Rattle.profiles.specs.Laws.{OneProfile}
use Rattle.profiles.proofs.Put.{is_of-true, both_same, not_true}

-- ---- the row of times

all-at : (P : ℕ → Type 0) (xs : List ℕ) (x : ℕ) → All P xs → Contains xs x → P x
all-at P xs x h c = subst P c.2 (h c.0 x c.1)

same_classes : (times : List ℕ) (a b : ProfileRow) → IsRowOf times a → IsRowOf times b → a.classes ≡ b.classes
same_classes times a b r s =
    same_lists a.classes b.classes (r.width ∙ sym s.width)
    (λ k d lt.
    let low : k < 64 = omega (arith, r.width) in
    get_or_default a.classes k d 0 lt ∙ r.classes_are k low ∙ sym (s.classes_are k low) ∙ get_or_default b.classes k 0 d (omega (arith, r.width, s.width)))

abbrev row_by : ℕ → ℕ → ℕ → ℕ → ℕ → ℕ → List ℕ → ProfileRow
row_by f t c s l g k = record { from = f; to = t; count = c; sum = s; least = l; greatest = g; classes = k }

same_parts : (f f' t t' c c' s s' l l' g g' : ℕ) (k k' : List ℕ) → f ≡ f' → t ≡ t' → c ≡ c' → s ≡ s' → l ≡ l' → g ≡ g' → k ≡ k' → row_by f t c s l g k ≡ row_by f' t' c' s' l' g' k'
same_parts f f' t t' c c' s s' l l' g g' k k' p q r u v w x = cc

same_row : (times : List ℕ) (a b : ProfileRow) → a.from ≡ b.from → a.to ≡ b.to → IsRowOf times a → IsRowOf times b → a ≡ b
same_row times a b e f r s =
    let count : a.count ≡ b.count = r.count_is ∙ sym s.count_is in
    let total : a.sum ≡ b.sum = r.sum_is ∙ sym s.sum_is in
    let least : a.least ≡ b.least =
    omega (arith, all-at (λ (t : ℕ). a.least ≤ t) times b.least r.least_below s.least_is, all-at (λ (t : ℕ). b.least ≤ t) times a.least s.least_below r.least_is) in
    let greatest : a.greatest ≡ b.greatest =
    omega (arith, all-at (λ (t : ℕ). t ≤ a.greatest) times b.greatest r.greatest_above s.greatest_is, all-at (λ (t : ℕ). t ≤ b.greatest) times a.greatest s.greatest_above r.greatest_is) in
    same_parts a.from b.from a.to b.to a.count b.count a.sum b.sum a.least b.least a.greatest b.greatest a.classes b.classes e f count total least greatest (same_classes times a b r s)

-- the row of a pair is of it
IsOf : ℕ → ℕ → Option ProfileRow → Type 0
IsOf from to None = Unit {0}
IsOf from to (Some row) = (row.from ≡ from) × (row.to ≡ to)

row_of-is : (from to : ℕ) (rows : List ProfileRow) → IsOf from to (row_of from to rows)
unfolding IsOf
row_of-is from to [] = tt
row_of-is from to (x ∷ xs) =
    let P : Bool → Type 0 = λ b. IsOf from to (cond b (Some x) (row_of from to xs)) in
    ⊎_elim (λ (t : is_of from to x ≡ true). subst P (sym t) (both_same x.from x.to from to t)) (λ (f : is_of from to x ≡ false). subst P (sym f) (row_of-is from to xs))
    (cases_Bool (is_of from to x))

same_told : (from to : ℕ) (times : List ℕ) (a b : Option ProfileRow) → IsOf from to a → IsOf from to b → TellsOf times a → TellsOf times b → a ≡ b
unfolding IsOf
same_told from to times None None i j h k = refl
same_told from to times None (Some b) i j h k = absurd (omega (arith, k.least_is.1, ap length h))
same_told from to times (Some a) None i j h k = absurd (omega (arith, h.least_is.1, ap length k))
same_told from to times (Some a) (Some b) i j h k = ap Some (same_row times a b (i.0 ∙ sym j.0) (i.1 ∙ sym j.1) h k)

-- ---- lists of rows that rise

-- the pair is before that of the row
abbrev IsBefore : ℕ → ℕ → ProfileRow → Type 0
IsBefore from to row = (from < row.from) ⊎ ((from ≡ row.from) × (to < row.to))

other_pair : (from to : ℕ) (row : ProfileRow) → IsBefore from to row → is_of from to row ≡ false
other_pair from to row (inl lt) = not_true (is_of from to row) (λ t. let s = both_same row.from row.to from to t in omega (arith, lt, s.0))
other_pair from to row (inr e) = not_true (is_of from to row) (λ t. let s = both_same row.from row.to from to t in omega (arith, e.1, s.1))

before_next : (from to : ℕ) (a b : ProfileRow) → IsBefore from to a → PairPrecedes a b → IsBefore from to b
before_next from to a b (inl lt) (inl less) = inl (omega arith)
before_next from to a b (inl lt) (inr e) = inl (omega (arith, e.0))
before_next from to a b (inr e) (inl less) = inl (omega (arith, e.0))
before_next from to a b (inr e) (inr f) = inr (e.0 ∙ f.0, omega (arith, e.1, f.1))

none_before : (from to : ℕ) (x : ProfileRow) (xs : List ProfileRow) → AreRising (x ∷ xs) → IsBefore from to x → row_of from to (x ∷ xs) ≡ None
none_before from to x [] r h = rw (other_pair from to x h)
none_before from to x (y ∷ ys) r h = rw (other_pair from to x h) (none_before from to y ys r.1 (before_next from to x y h r.0))

rising-rest : (x : ProfileRow) (xs : List ProfileRow) → AreRising (x ∷ xs) → AreRising xs
rising-rest x [] r = tt
rising-rest x (y ∷ ys) r = r.1

none_behind : (from to : ℕ) (x : ProfileRow) (xs : List ProfileRow) → AreRising (x ∷ xs) → (x.from ≡ from) × (x.to ≡ to) → row_of from to xs ≡ None
none_behind from to x [] r h = refl
none_behind from to x (y ∷ ys) r h =
    none_before from to y ys r.1 (⊎_elim (λ (lt : x.from < y.from). inl (omega (arith, h.0))) (λ (e : (x.from ≡ y.from) × (x.to < y.to)). inr (sym h.0 ∙ e.0, omega (arith, h.1, e.1))) r.0)

row_of-first : (x : ProfileRow) (xs : List ProfileRow) → row_of x.from x.to (x ∷ xs) ≡ Some x
row_of-first x xs = rw (is_of-true x.from x.to x refl refl)

-- the first of both is the same
first_same : (x y : ProfileRow) (xs ys : List ProfileRow) → AreRising (x ∷ xs) → AreRising (y ∷ ys) → ((from to : ℕ) → row_of from to (x ∷ xs) ≡ row_of from to (y ∷ ys)) → x ≡ y
first_same x y xs ys r s h =
    let at_x = sym (row_of-first x xs) ∙ h x.from x.to in
    let at_y = sym (row_of-first y ys) ∙ sym (h y.from y.to) in
    let x_first : PairPrecedes x y → x ≡ y = λ p. absurd (none-some x (sym (none_before x.from x.to y ys s p) ∙ sym at_x)) in
    let y_first : PairPrecedes y x → x ≡ y = λ p. absurd (none-some y (sym (none_before y.from y.to x xs r p) ∙ sym at_y)) in
    let both : x.from ≡ y.from → x.to ≡ y.to → x ≡ y = λ e f. same_Some x y (at_x ∙ rw (is_of-true x.from x.to y (sym e) (sym f))) in
    elim (cases_order x.from y.from) [
      | inl e ↦ elim (cases_order x.to y.to) [
        | inl f ↦ both e f
        | inr d ↦ elim d [ inl lt ↦ x_first (inr (e, lt)) | inr lt ↦ y_first (inr (sym e, lt)) ]
      ]
      | inr d ↦ elim d [ inl lt ↦ x_first (inl lt) | inr lt ↦ y_first (inl lt) ]
    ]

-- and then the others are
rest_same : (x : ProfileRow) (xs ys : List ProfileRow) → AreRising (x ∷ xs) → AreRising (x ∷ ys) → ((from to : ℕ) → row_of from to (x ∷ xs) ≡ row_of from to (x ∷ ys))
    → (from to : ℕ) → row_of from to xs ≡ row_of from to ys
rest_same x xs ys r s h from to =
    ⊎_elim
    (λ (t : is_of from to x ≡ true).
    let is = both_same x.from x.to from to t in
    none_behind from to x xs r is ∙ sym (none_behind from to x ys s is))
    (λ (f : is_of from to x ≡ false).
    let P : Bool → Type 0 = λ b. cond b (Some x) (row_of from to xs) ≡ cond b (Some x) (row_of from to ys) in
    subst P f (h from to))
    (cases_Bool (is_of from to x))

rising_same : (a b : List ProfileRow) → AreRising a → AreRising b → ((from to : ℕ) → row_of from to a ≡ row_of from to b) → a ≡ b
rising_same [] [] r s h = refl
rising_same [] (y ∷ ys) r s h = absurd (none-some y (h y.from y.to ∙ row_of-first y ys))
rising_same (x ∷ xs) [] r s h = absurd (none-some x (sym (h x.from x.to) ∙ row_of-first x xs))
rising_same (x ∷ xs) (y ∷ ys) r s h =
    let e = first_same x y xs ys r s h in
    let P : ProfileRow → Type 0 = λ z. AreRising (z ∷ ys) in
    let Q : ProfileRow → Type 0 = λ z. (from to : ℕ) → row_of from to (x ∷ xs) ≡ row_of from to (z ∷ ys) in
    let t = subst P (sym e) s in
    let rest = rising_same xs ys (rising-rest x xs r) (rising-rest x ys t) (rest_same x xs ys r t (subst Q (sym e) h)) in
    ap (λ (l : List ProfileRow). x ∷ l) rest ∙ ap (λ (z : ProfileRow). z ∷ ys) e

pub one_profile : OneProfile
one_profile groups a b p q =
    rising_same a b p.rising q.rising
    (λ from to. same_told from to (times_between from to (delays_of groups)) (row_of from to a) (row_of from to b) (row_of-is from to a) (row_of-is from to b) (p.each from to) (q.each from to))
