-- Rows tell of the delays of both, where they are joined.
use Rattle.std.proofs.Common.{ℕ, Bool, true, false, cond, List, [], ◌∷◌, ◌++◌, ◌≡◌, ◌≢◌, ◌<◌, ◌≤◌, inl, inr, suc, zero, refl, sym, ap, subst, ◌∙◌, arith, ⊎_elim, min, max, eqb, map, get_or, set, replicate, length-append, append-nil, length-set}
use Rattle.std.specs.Prelude.{◌&&◌, Option, Some, None, filter, All, Contains}
use Rattle.std.proofs.lemmas.Bool.{cases_Bool, cases_lt}
use Rattle.std.proofs.lemmas.Bool.Decides.{nat_tests}
use Rattle.std.proofs.lemmas.List.{get_or-set_same, get_or-set_other, get_or-replicate, map-append}
use Rattle.std.proofs.lemmas.List.Sums.{sum_by-append}
use Rattle.std.proofs.lemmas.List.Elements.{All-append, Contains-append_left, Contains-append_right, filter-append}
use Rattle.ds_base.specs.declared.profile_row.ProfileRow.{ProfileRow}
use Rattle.profiles.specs.Delays.{Delay, times_between}
use Rattle.profiles.specs.Rows.{IsRowOf, TellsOf, is_of, row_of, joined, joined_if_any, class_of}
use Rattle.profiles.specs.Put.{single}
use Rattle.profiles.proofs.Classes.{length-added, get_or-added}

-- ---- the least and the greatest of both

contains-min : (xs ys : List ℕ) (a b : ℕ) → Contains xs a → Contains ys b → Contains (xs ++ ys) (min a b)
contains-min xs ys a b h k =
    let c = cases_lt a b in
    elim c [
      | inl lt ↦ let same : a ≡ min a b = omega arith in subst (Contains (xs ++ ys)) same (Contains-append_left xs ys a h)
      | inr ge ↦ let same : b ≡ min a b = omega arith in subst (Contains (xs ++ ys)) same (Contains-append_right xs ys b k)
    ]

contains-max : (xs ys : List ℕ) (a b : ℕ) → Contains xs a → Contains ys b → Contains (xs ++ ys) (max a b)
contains-max xs ys a b h k =
    let c = cases_lt a b in
    elim c [
      | inl lt ↦ let same : b ≡ max a b = omega arith in subst (Contains (xs ++ ys)) same (Contains-append_right xs ys b k)
      | inr ge ↦ let same : a ≡ max a b = omega arith in subst (Contains (xs ++ ys)) same (Contains-append_left xs ys a h)
    ]

all-weaker : (P Q : ℕ → Type 0) (xs : List ℕ) → ((n : ℕ) → P n → Q n) → All P xs → All Q xs
all-weaker P Q xs f h k d lt = f (get_or xs k d) (h k d lt)

IsRowOf-joined : (xs ys : List ℕ) (a b : ProfileRow) → IsRowOf xs a → IsRowOf ys b → IsRowOf (xs ++ ys) (joined a b)
IsRowOf-joined xs ys a b r s = record {
  count_is = omega (arith, r.count_is, s.count_is, length-append xs ys);
  sum_is = omega (arith, r.sum_is, s.sum_is, sum_by-append (λ (n : ℕ). n) xs ys);
  least_is = contains-min xs ys a.least b.least r.least_is s.least_is;
  least_below = All-append (λ (t : ℕ). min a.least b.least ≤ t) xs ys
      (all-weaker (λ (t : ℕ). a.least ≤ t) (λ (t : ℕ). min a.least b.least ≤ t) xs (λ n h. omega arith) r.least_below)
      (all-weaker (λ (t : ℕ). b.least ≤ t) (λ (t : ℕ). min a.least b.least ≤ t) ys (λ n h. omega arith) s.least_below);
  greatest_is = contains-max xs ys a.greatest b.greatest r.greatest_is s.greatest_is;
  greatest_above = All-append (λ (t : ℕ). t ≤ max a.greatest b.greatest) xs ys
      (all-weaker (λ (t : ℕ). t ≤ a.greatest) (λ (t : ℕ). t ≤ max a.greatest b.greatest) xs (λ n h. omega arith) r.greatest_above)
      (all-weaker (λ (t : ℕ). t ≤ b.greatest) (λ (t : ℕ). t ≤ max a.greatest b.greatest) ys (λ n h. omega arith) s.greatest_above);
  width = length-added a.classes b.classes ∙ r.width;
  classes_are = λ k lt.
      omega (arith, get_or-added a.classes b.classes k (r.width ∙ sym s.width), r.classes_are k lt, s.classes_are k lt, sum_by-append (λ (t : ℕ). cond (eqb (class_of t) k) 1 0) xs ys);
}

pub TellsOf-joined : (xs ys : List ℕ) (a b : Option ProfileRow) → TellsOf xs a → TellsOf ys b → TellsOf (xs ++ ys) (joined_if_any a b)
TellsOf-joined xs ys None None r s = ap (λ (l : List ℕ). l ++ ys) r ∙ s
TellsOf-joined xs ys None (Some b) r s = subst (λ (l : List ℕ). IsRowOf (l ++ ys) b) (sym r) s
TellsOf-joined xs ys (Some a) None r s =
    subst (λ (l : List ℕ). IsRowOf (xs ++ l) a) (sym s) (subst (λ (l : List ℕ). IsRowOf l a) (sym (append-nil xs)) r)
TellsOf-joined xs ys (Some a) (Some b) r s = IsRowOf-joined xs ys a b r s

-- ---- one delay

all-one : (P : ℕ → Type 0) (x : ℕ) → P x → All P (x ∷ [])
all-one P x h zero d lt = h
all-one P x h (suc k) d lt = absurd (omega arith)

-- what a delay counts in a class
abbrev one_if : Bool → ℕ
one_if b = cond b 1 0

-- what the row of a delay with so many digits has in a class
abbrev one_at : ℕ → ℕ → ℕ
one_at digits k = get_or (set (replicate 64 0) digits 1) k 0

one_class : (time k : ℕ) → k < 64 → one_at (class_of time) k ≡ one_if (eqb (class_of time) k)
one_class time k lt =
    ⊎_elim
    (λ (t : eqb (class_of time) k ≡ true).
    let e : class_of time ≡ k = grind (arith, nat_tests) in
    let P : Bool → Type 0 = λ b. one_at (class_of time) k ≡ one_if b in
    let Q : ℕ → Type 0 = λ n. one_at n k ≡ 1 in
    subst P (sym t) (subst Q (sym e) (get_or-set_same {A = ℕ} (replicate 64 0) k 1 0 lt)))
    (λ (f : eqb (class_of time) k ≡ false).
    let e : k ≢ class_of time = grind (arith, nat_tests) in
    let P : Bool → Type 0 = λ b. one_at (class_of time) k ≡ one_if b in
    subst P (sym f) (get_or-set_other {A = ℕ} (replicate 64 0) (class_of time) k 1 0 e ∙ get_or-replicate {A = ℕ} 64 k 0 0 lt))
    (cases_Bool (eqb (class_of time) k))

IsRowOf-single : (d : Delay) → IsRowOf (d.time ∷ []) (single d)
IsRowOf-single d = record {
  count_is = refl;
  sum_is = omega arith;
  least_is = (0, omega arith, refl);
  least_below = all-one (λ (t : ℕ). d.time ≤ t) d.time (omega arith);
  greatest_is = (0, omega arith, refl);
  greatest_above = all-one (λ (t : ℕ). t ≤ d.time) d.time (omega arith);
  width = length-set (replicate 64 0) (class_of d.time) 1;
  classes_are = λ k lt. one_class d.time k lt ∙ omega arith;
}

pub TellsOf-single : (from to : ℕ) (d : Delay) → TellsOf (times_between from to (d ∷ [])) (row_of from to (single d ∷ []))
TellsOf-single from to d =
    let P : Bool → Type 0 = λ b. TellsOf (map (λ (e : Delay). e.time) (cond b (d ∷ []) [])) (cond b (Some (single d)) None) in
    ⊎_elim (λ (t : is_of from to (single d) ≡ true). subst P (sym t) (IsRowOf-single d)) (λ (f : is_of from to (single d) ≡ false). subst P (sym f) refl)
    (cases_Bool (is_of from to (single d)))

abbrev is_between : ℕ → ℕ → Delay → Bool
is_between from to d = eqb d.from from && eqb d.to to

pub times-append : (from to : ℕ) (ds es : List Delay) → times_between from to (ds ++ es) ≡ times_between from to ds ++ times_between from to es
times-append from to ds es =
    let p : Delay → Bool = is_between from to in
    ap (map (λ (d : Delay). d.time)) (filter-append p ds es) ∙ map-append (λ (d : Delay). d.time) (filter p ds) (filter p es)
