-- What a row that is put does to the rows: it goes before the first row of a later pair, or is joined with that of its pair.
use Rattle.std.proofs.Common.{ℕ, Bool, true, false, cond, List, [], ◌∷◌, ◌≡◌, ◌≢◌, ◌<◌, ◌≤◌, ◌+◌, ◌*◌, refl, sym, ap, subst, ◌∙◌, arith, ⊎_elim, inl, inr, eqb, ltb}
use Rattle.std.specs.Prelude.{Option, Some, None, ◌&&◌}
use Rattle.std.specs.List.{AllByRecursion}
use Rattle.std.proofs.lemmas.Bool.{cases_Bool, cases_order}
use Rattle.std.proofs.lemmas.Bool.Decides.{nat_tests}
use Rattle.ds_base.specs.declared.profile_row.ProfileRow.{ProfileRow}
use Rattle.profiles.specs.Rows.{IsSound, is_of, row_of, joined, joined_if_any}
use Rattle.profiles.specs.Put.{pair_number, put}

-- the numbers of the pairs rise, from n on
abbrev pub RiseFrom : ℕ → List ProfileRow → Type 0
RiseFrom n [] = Unit {0}
RiseFrom n (row ∷ rows) = (n ≤ pair_number row) × RiseFrom (pair_number row + 1) rows

less-true : (a b : ℕ) → a < b → ltb a b ≡ true
less-true a b h = grind (arith, nat_tests)

less-false : (a b : ℕ) → b ≤ a → ltb a b ≡ false
less-false a b h = grind (arith, nat_tests)

same-true : (a b : ℕ) → a ≡ b → eqb a b ≡ true
same-true a b h = grind (arith, nat_tests)

same-false : (a b : ℕ) → a ≢ b → eqb a b ≡ false
same-false a b h = grind (arith, nat_tests)

pub put-before : (row x : ProfileRow) (xs : List ProfileRow) → pair_number row < pair_number x → put row (x ∷ xs) ≡ row ∷ x ∷ xs
put-before row x xs lt = rw (less-true (pair_number row) (pair_number x) lt)

pub put-here : (row x : ProfileRow) (xs : List ProfileRow) → pair_number x ≡ pair_number row → put row (x ∷ xs) ≡ joined x row ∷ xs
put-here row x xs e =
    let a : ltb (pair_number row) (pair_number x) ≡ false = less-false (pair_number row) (pair_number x) (omega arith) in
    let b : eqb (pair_number x) (pair_number row) ≡ true = same-true (pair_number x) (pair_number row) e in
    rw (a, b)

pub put-behind : (row x : ProfileRow) (xs : List ProfileRow) → pair_number x < pair_number row → put row (x ∷ xs) ≡ x ∷ put row xs
put-behind row x xs lt =
    let a : ltb (pair_number row) (pair_number x) ≡ false = less-false (pair_number row) (pair_number x) (omega arith) in
    let b : eqb (pair_number x) (pair_number row) ≡ false = same-false (pair_number x) (pair_number row) (λ e. omega (arith, e)) in
    rw (a, b)

-- what holds in each of the three cases holds of the rows with this one
pub put_by : (P : List ProfileRow → Type 0) (row x : ProfileRow) (xs : List ProfileRow)
    → (pair_number row < pair_number x → P (row ∷ x ∷ xs)) → (pair_number x ≡ pair_number row → P (joined x row ∷ xs))
    → (pair_number x < pair_number row → P (x ∷ put row xs)) → P (put row (x ∷ xs))
put_by P row x xs before here behind =
    let c = cases_order (pair_number x) (pair_number row) in
    elim c [
      | inl e ↦ subst P (sym (put-here row x xs e)) (here e)
      | inr d ↦ elim d [
        | inl lt ↦ subst P (sym (put-behind row x xs lt)) (behind lt)
        | inr lt ↦ subst P (sym (put-before row x xs lt)) (before lt)
      ]
    ]

-- ---- which row is of a pair

pub is_of-true : (from to : ℕ) (row : ProfileRow) → row.from ≡ from → row.to ≡ to → is_of from to row ≡ true
is_of-true from to row e f =
    let a : eqb row.from from ≡ true = same-true row.from from e in
    let b : eqb row.to to ≡ true = same-true row.to to f in
    rw (a, b)

pub both_same : (a b c d : ℕ) → (eqb a c && eqb b d) ≡ true → (a ≡ c) × (b ≡ d)
both_same a b c d h = (grind (arith, nat_tests), grind (arith, nat_tests))

pub is_of-number : (from to : ℕ) (row : ProfileRow) → is_of from to row ≡ true → pair_number row ≡ from * 64 + to
is_of-number from to row h = let s = both_same row.from row.to from to h in omega (arith, s.0, s.1)

pub not_true : (b : Bool) → (b ≡ true → ⊥) → b ≡ false
not_true b h = ⊎_elim (λ (e : b ≡ true). absurd (h e)) (λ (e : b ≡ false). e) (cases_Bool b)

pub is_of-other : (from to : ℕ) (row : ProfileRow) → pair_number row ≢ from * 64 + to → is_of from to row ≡ false
is_of-other from to row h = not_true (is_of from to row) (λ e. h (is_of-number from to row e))

-- rows of one number are of one pair
pub same_pair : (a b : ProfileRow) → a.to < 64 → b.to < 64 → pair_number a ≡ pair_number b → (a.from ≡ b.from) × (a.to ≡ b.to)
same_pair a b h k e = (omega arith, omega arith)

is_of-same : (from to : ℕ) (a b : ProfileRow) → a.from ≡ b.from → a.to ≡ b.to → is_of from to a ≡ is_of from to b
is_of-same from to a b e f = ap (λ (n : ℕ). eqb n from && eqb a.to to) e ∙ ap (λ (n : ℕ). eqb b.from from && eqb n to) f

-- none of the rows that rise from beyond a pair is of that pair
pub row_of-beyond : (from to n : ℕ) (rows : List ProfileRow) → RiseFrom n rows → from * 64 + to < n → row_of from to rows ≡ None
row_of-beyond from to n [] h lt = refl
row_of-beyond from to n (x ∷ xs) h lt =
    let other : is_of from to x ≡ false = is_of-other from to x (λ e. omega (arith, e, h.0)) in
    rw other (row_of-beyond from to (pair_number x + 1) xs h.1 (omega (arith, h.0)))

pub joined-none : (a : Option ProfileRow) → joined_if_any a None ≡ a
joined-none None = refl
joined-none (Some a) = refl

first_before : (from to n : ℕ) (row x : ProfileRow) (xs : List ProfileRow) → RiseFrom n (x ∷ xs) → pair_number row < pair_number x
    → row_of from to (row ∷ x ∷ xs) ≡ joined_if_any (row_of from to (x ∷ xs)) (row_of from to (row ∷ []))
first_before from to n row x xs h lt =
    ⊎_elim
    (λ (t : is_of from to row ≡ true).
    let number = is_of-number from to row t in
    let none : row_of from to (x ∷ xs) ≡ None = row_of-beyond from to (pair_number x) (x ∷ xs) (omega arith, h.1) (omega (arith, number)) in
    let P : Bool → Type 0 = λ b. cond b (Some row) (row_of from to (x ∷ xs)) ≡ joined_if_any (row_of from to (x ∷ xs)) (cond b (Some row) None) in
    let Q : Option ProfileRow → Type 0 = λ o. Some row ≡ joined_if_any o (Some row) in
    subst P (sym t) (subst Q (sym none) refl))
    (λ (f : is_of from to row ≡ false).
    let P : Bool → Type 0 = λ b. cond b (Some row) (row_of from to (x ∷ xs)) ≡ joined_if_any (row_of from to (x ∷ xs)) (cond b (Some row) None) in
    subst P (sym f) (sym (joined-none (row_of from to (x ∷ xs)))))
    (cases_Bool (is_of from to row))

one_pair : (from to : ℕ) (row x : ProfileRow) (xs : List ProfileRow) → x.to < 64 → row.to < 64 → pair_number x ≡ pair_number row
    → row_of from to (joined x row ∷ xs) ≡ joined_if_any (row_of from to (x ∷ xs)) (row_of from to (row ∷ []))
one_pair from to row x xs x_below below e =
    let p = same_pair x row x_below below e in
    let same : is_of from to row ≡ is_of from to x = sym (is_of-same from to x row p.0 p.1) in
    let P : Bool → Bool → Type 0 = λ b c. cond b (Some (joined x row)) (row_of from to xs) ≡ joined_if_any (cond b (Some x) (row_of from to xs)) (cond c (Some row) None) in
    ⊎_elim (λ (t : is_of from to x ≡ true). subst (P (is_of from to x)) (sym same) (subst (λ (b : Bool). P b b) (sym t) refl))
    (λ (f : is_of from to x ≡ false). subst (P (is_of from to x)) (sym same) (subst (λ (b : Bool). P b b) (sym f) (sym (joined-none (row_of from to xs)))))
    (cases_Bool (is_of from to x))

further_behind : (from to : ℕ) (row x : ProfileRow) (xs : List ProfileRow) → pair_number x < pair_number row
    → row_of from to (put row xs) ≡ joined_if_any (row_of from to xs) (row_of from to (row ∷ []))
    → row_of from to (x ∷ put row xs) ≡ joined_if_any (row_of from to (x ∷ xs)) (row_of from to (row ∷ []))
further_behind from to row x xs lt rest =
    let P : Bool → Type 0 = λ b. cond b (Some x) (row_of from to (put row xs)) ≡ joined_if_any (cond b (Some x) (row_of from to xs)) (row_of from to (row ∷ [])) in
    ⊎_elim
    (λ (t : is_of from to x ≡ true).
    let number = is_of-number from to x t in
    let other : is_of from to row ≡ false = is_of-other from to row (λ e. omega (arith, e, number)) in
    let Q : Bool → Type 0 = λ b. Some x ≡ joined_if_any (Some x) (cond b (Some row) None) in
    subst P (sym t) (subst Q (sym other) refl))
    (λ (f : is_of from to x ≡ false). subst P (sym f) rest)
    (cases_Bool (is_of from to x))

-- each pair has the row that it had, joined with this one where it is of the pair
pub row_of-put : (from to n : ℕ) (row : ProfileRow) (rows : List ProfileRow) → RiseFrom n rows → AllByRecursion IsSound rows → row.to < 64
    → row_of from to (put row rows) ≡ joined_if_any (row_of from to rows) (row_of from to (row ∷ []))
row_of-put from to n row [] h s below = refl
row_of-put from to n row (x ∷ xs) h s below =
    let P : List ProfileRow → Type 0 = λ l. row_of from to l ≡ joined_if_any (row_of from to (x ∷ xs)) (row_of from to (row ∷ [])) in
    put_by P row x xs (first_before from to n row x xs h) (one_pair from to row x xs s.0.to_below below)
    (λ lt. further_behind from to row x xs lt (row_of-put from to (pair_number x + 1) row xs h.1 s.1 below))
