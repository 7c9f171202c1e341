-- What a row tells of times does not depend on their order.
use Rattle.std.proofs.Common.{ℕ, cond, List, [], ◌∷◌, ◌++◌, ◌≡◌, ◌<◌, ◌≤◌, inl, inr, suc, zero, refl, sym, ap, subst, ◌∙◌, arith, length, get_or, eqb, length-append}
use Rattle.std.specs.Prelude.{Option, Some, None, sum_by, All, Contains, flat_map}
use Rattle.std.specs.List.Sorted.{IsPermutation}
use Rattle.std.proofs.lemmas.List.{get_or_default}
use Rattle.std.proofs.lemmas.List.Sums.{sum_by-cons, sum_by-append}
use Rattle.std.proofs.lemmas.List.Elements.{Contains-append_left, Contains-append_right, Contains-append_cases}
use Rattle.std.proofs.lemmas.List.Sorted.{sum_by-IsPermutation, Contains-permutation, IsPermutation-sym}
use Rattle.ds_base.specs.Copies.{Copies}
use Rattle.ds_base.specs.declared.profile_row.ProfileRow.{ProfileRow}
use Rattle.profiles.specs.Delays.{delays, delays_of, times_between}
use Rattle.profiles.specs.Rows.{IsRowOf, TellsOf, row_of, class_of}
use Rattle.profiles.specs.Laws.{InAnyOrder}
use Rattle.profiles.proofs.Tells.{times-append}

-- ---- the times of all groups, group by group

length-flat : (f : Copies → List ℕ) (gs : List Copies) → length (flat_map f gs) ≡ sum_by (λ g. length (f g)) gs
length-flat f [] = refl
length-flat f (g ∷ gs) =
    omega (arith, length-append (f g) (flat_map f gs), length-flat f gs, sum_by-cons (λ (h : Copies). length (f h)) g gs)

sum-flat : (n : ℕ → ℕ) (f : Copies → List ℕ) (gs : List Copies) → sum_by n (flat_map f gs) ≡ sum_by (λ g. sum_by n (f g)) gs
sum-flat n f [] = refl
sum-flat n f (g ∷ gs) =
    omega (arith, sum_by-append n (f g) (flat_map f gs), sum-flat n f gs, sum_by-cons (λ (h : Copies). sum_by n (f h)) g gs)

-- a group that has the time
record Has (f : Copies → List ℕ) (gs : List Copies) (x : ℕ) : Type 0 where
  group : Copies
  among : Contains gs group
  time : Contains (f group) x

has-flat : (f : Copies → List ℕ) (gs : List Copies) (x : ℕ) → Contains (flat_map f gs) x → Has f gs x
has-flat f [] x c = absurd (omega (arith, c.1))
has-flat f (g ∷ gs) x c =
    let both = Contains-append_cases (f g) (flat_map f gs) x c in
    elim both [
      | inl here ↦ record { group = g; among = (0, omega arith, refl); time = here }
      | inr later ↦
          let h = has-flat f gs x later in
          record { group = h.group; among = Contains-append_right (g ∷ []) gs h.group h.among; time = h.time }
    ]

flat-has : (f : Copies → List ℕ) (gs : List Copies) (g : Copies) (x k : ℕ) → k < length gs → get_or gs k g ≡ g → Contains (f g) x → Contains (flat_map f gs) x
flat-has f [] g x k lt at c = absurd (omega arith)
flat-has f (h ∷ gs) g x zero lt at c = Contains-append_left (f h) (flat_map f gs) x (subst (λ (i : Copies). Contains (f i) x) (sym at) c)
flat-has f (h ∷ gs) g x (suc k) lt at c = Contains-append_right (f h) (flat_map f gs) x (flat-has f gs g x k (omega arith) at c)

-- ---- two lists of the same times

record AreSame (xs ys : List ℕ) : Type 0 where
  long : length ys ≡ length xs
  sums : (n : ℕ → ℕ) → sum_by n ys ≡ sum_by n xs
  there : (x : ℕ) → Contains xs x → Contains ys x
  back : (x : ℕ) → Contains ys x → Contains xs x

AreSame-flat : (f : Copies → List ℕ) (gs hs : List Copies) → IsPermutation gs hs → AreSame (flat_map f gs) (flat_map f hs)
AreSame-flat f gs hs p = record {
  long = length-flat f hs ∙ sum_by-IsPermutation (λ (g : Copies). length (f g)) gs hs p ∙ sym (length-flat f gs);
  sums = λ n. sum-flat n f hs ∙ sum_by-IsPermutation (λ (g : Copies). sum_by n (f g)) gs hs p ∙ sym (sum-flat n f gs);
  there = λ x c.
      let h = has-flat f gs x c in
      let at = Contains-permutation gs hs h.group p h.among in
      flat-has f hs h.group x at.0 at.1 at.2 h.time;
  back = λ x c.
      let h = has-flat f hs x c in
      let at = Contains-permutation hs gs h.group (IsPermutation-sym gs hs p) h.among in
      flat-has f gs h.group x at.0 at.1 at.2 h.time;
}

all-same : (P : ℕ → Type 0) (xs ys : List ℕ) → ((x : ℕ) → Contains ys x → Contains xs x) → All P xs → All P ys
all-same P xs ys back h k d lt =
    let x = get_or ys k d in
    let c = back x (k, lt, get_or_default ys k x d lt) in
    subst P c.2 (h c.0 x c.1)

IsRowOf-same : (xs ys : List ℕ) (row : ProfileRow) → AreSame xs ys → IsRowOf xs row → IsRowOf ys row
IsRowOf-same xs ys row s r = record {
  count_is = r.count_is ∙ sym s.long;
  sum_is = r.sum_is ∙ sym (s.sums (λ n. n));
  least_is = s.there row.least r.least_is;
  least_below = all-same (λ (t : ℕ). row.least ≤ t) xs ys s.back r.least_below;
  greatest_is = s.there row.greatest r.greatest_is;
  greatest_above = all-same (λ (t : ℕ). t ≤ row.greatest) xs ys s.back r.greatest_above;
  width = r.width;
  classes_are = λ k lt. r.classes_are k lt ∙ sym (s.sums (λ t. cond (eqb (class_of t) k) 1 0));
}

no_times : (xs : List ℕ) → length xs ≡ 0 → xs ≡ []
no_times [] e = refl
no_times (x ∷ xs) e = absurd (omega (arith, e))

TellsOf-same : (xs ys : List ℕ) (row : Option ProfileRow) → AreSame xs ys → TellsOf xs row → TellsOf ys row
TellsOf-same xs ys None s h = no_times ys (s.long ∙ ap length h)
TellsOf-same xs ys (Some row) s h = IsRowOf-same xs ys row s h

times-flat : (from to : ℕ) (gs : List Copies) → times_between from to (delays_of gs) ≡ flat_map (λ g. times_between from to (delays g.members)) gs
times-flat from to [] = refl
times-flat from to (g ∷ gs) =
    times-append from to (delays g.members) (delays_of gs) ∙ ap (λ (l : List ℕ). times_between from to (delays g.members) ++ l) (times-flat from to gs)

pub in_any_order : InAnyOrder
in_any_order groups others rows p h = record {
  rising = h.rising;
  each = λ from to.
      let f : Copies → List ℕ = λ g. times_between from to (delays g.members) in
      let P : List ℕ → Type 0 = λ l. TellsOf l (row_of from to rows) in
      subst P (sym (times-flat from to others))
      (TellsOf-same (flat_map f groups) (flat_map f others) (row_of from to rows) (AreSame-flat f groups others p) (subst P (times-flat from to groups) (h.each from to)));
}
