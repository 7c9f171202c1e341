-- Lists of which all items are in another, each as often, in any order.
use Rattle.std.proofs.Common.{ℕ, zero, suc, true, false, List, [], ◌∷◌, ◌++◌, ◌≡◌, ◌⊎◌, ◌<◌, ◌≤◌, ◌+◌, inl, inr, refl, sym, ap, subst, ◌∙◌, ⊎_elim, arith, map, append_assoc}
use Rattle.std.specs.Prelude.{filter, flat_map, ◌==◌, if◌then◌else◌}
use Rattle.std.specs.List.{AllByRecursion, range_with_len}
use Rattle.std.specs.List.Sorted.{IsPermutation}
use Rattle.std.proofs.lemmas.Bool.{cases_Bool, eq-eqb, eqb-true, both_ways}
use Rattle.std.proofs.lemmas.List.{append-nil, map-append}
use Rattle.std.proofs.lemmas.List.Sorted.{IsPermutation-refl, IsPermutation-trans, IsPermutation-sym, IsPermutation-append, IsPermutation-append_left, IsPermutation-append_right, IsPermutation-append_comm, IsPermutation-cons, IsPermutation-map}
use Rattle.ds_base.specs.Fronts.{IsIn}
use Rattle.run_law.specs.Nodes.{below}
use Rattle.run_law.specs.Shapes.{IsFront, with_number, numbered, dealt}

-- ---- joined lists in another order

-- two equal lists
pub perm_equal : {X : Type 0} (xs ys : List X) → xs ≡ ys → IsPermutation xs ys
perm_equal xs ys e = subst (IsPermutation xs) e (IsPermutation-refl xs)

-- (a, b), (c, d) and (a, c), (b, d)
pub perm_middle : {X : Type 0} (as' bs cs ds : List X) → IsPermutation ((as' ++ bs) ++ (cs ++ ds)) ((as' ++ cs) ++ (bs ++ ds))
perm_middle as' bs cs ds =
    let inner : IsPermutation (bs ++ (cs ++ ds)) (cs ++ (bs ++ ds)) =
    subst (λ l. IsPermutation l (cs ++ (bs ++ ds))) (append_assoc bs cs ds)
    (subst (IsPermutation ((bs ++ cs) ++ ds)) (append_assoc cs bs ds) (IsPermutation-append_left ds (bs ++ cs) (cs ++ bs) (IsPermutation-append_comm bs cs))) in
    subst (λ l. IsPermutation l ((as' ++ cs) ++ (bs ++ ds))) (sym (append_assoc as' bs (cs ++ ds)))
    (subst (IsPermutation (as' ++ (bs ++ (cs ++ ds)))) (sym (append_assoc as' cs (bs ++ ds))) (IsPermutation-append_right as' (bs ++ (cs ++ ds)) (cs ++ (bs ++ ds)) inner))

pub perm_flat : {K X : Type 0} (f h : K → List X) (ks : List K) → ((k : K) → IsIn k ks → IsPermutation (f k) (h k)) → IsPermutation (flat_map f ks) (flat_map h ks)
perm_flat f h [] each = IsPermutation-refl []
perm_flat f h (k ∷ ks) each =
    IsPermutation-append (f k) (h k) (flat_map f ks) (flat_map h ks) (each k (inl refl)) (perm_flat f h ks (λ j l. each j (inr l)))

perm_split : {K X : Type 0} (f h : K → List X) (ks : List K) → IsPermutation (flat_map (λ k. f k ++ h k) ks) (flat_map f ks ++ flat_map h ks)
perm_split f h [] = IsPermutation-refl []
perm_split f h (k ∷ ks) =
    IsPermutation-trans ((f k ++ h k) ++ flat_map (λ j. f j ++ h j) ks) ((f k ++ h k) ++ (flat_map f ks ++ flat_map h ks)) ((f k ++ flat_map f ks) ++ (h k ++ flat_map h ks))
    (IsPermutation-append_right (f k ++ h k) (flat_map (λ j. f j ++ h j) ks) (flat_map f ks ++ flat_map h ks) (perm_split f h ks))
    (perm_middle (f k) (h k) (flat_map f ks) (flat_map h ks))

abbrev nothing : {K : Type 0} (X : Type 0) → K → List X
nothing X k = []

none_flat : {K : Type 0} (X : Type 0) (ks : List K) → flat_map (nothing X) ks ≡ []
none_flat X [] = refl
none_flat X (k ∷ ks) = none_flat X ks

-- rows by rows, or columns by columns
pub perm_swap : {J K X : Type 0} (f : J → K → List X) (js : List J) (ks : List K)
    → IsPermutation (flat_map (λ j. flat_map (λ k. f j k) ks) js) (flat_map (λ k. flat_map (λ j. f j k) js) ks)
perm_swap {X = X} f [] ks = perm_equal [] (flat_map (nothing X) ks) (sym (none_flat X ks))
perm_swap f (j ∷ js) ks =
    IsPermutation-trans (flat_map (λ k. f j k) ks ++ flat_map (λ i. flat_map (λ k. f i k) ks) js)
    (flat_map (λ k. f j k) ks ++ flat_map (λ k. flat_map (λ i. f i k) js) ks)
    (flat_map (λ k. f j k ++ flat_map (λ i. f i k) js) ks)
    (IsPermutation-append_right (flat_map (λ k. f j k) ks) (flat_map (λ i. flat_map (λ k. f i k) ks) js) (flat_map (λ k. flat_map (λ i. f i k) js) ks) (perm_swap f js ks))
    (IsPermutation-sym (flat_map (λ k. f j k ++ flat_map (λ i. f i k) js) ks) (flat_map (λ k. f j k) ks ++ flat_map (λ k. flat_map (λ i. f i k) js) ks)
    (perm_split (λ k. f j k) (λ k. flat_map (λ i. f i k) js) ks))

-- ---- items by their numbers

abbrev if_own : {X : Type 0} → (ℕ × X) → ℕ → List X
if_own e k = if e.0 == k then e.1 ∷ [] else []

no_more : {X : Type 0} (e : ℕ × X) (a n : ℕ) → e.0 < a → flat_map (if_own e) (range_with_len a n) ≡ []
no_more e a zero less = refl
no_more {X} e a (suc n) less =
    let apart : (e.0 == a) ≡ false = neq_false e.0 a (omega arith) in
    rw apart (no_more e (a + 1) n (omega arith))
  where
    neq_false : (i j : ℕ) → i < j → (i == j) ≡ false
    neq_false i j lt = ⊎_elim (λ (t : (i == j) ≡ true). absurd (let same = eqb-true i j t in omega arith)) (λ (f : (i == j) ≡ false). f) (cases_Bool (i == j))

one_own : {X : Type 0} (e : ℕ × X) (a n : ℕ) → a ≤ e.0 → e.0 < a + n → flat_map (if_own e) (range_with_len a n) ≡ e.1 ∷ []
one_own e a zero low high = absurd (omega arith)
one_own {X} e a (suc n) low high =
    ⊎_elim
    (λ (t : (e.0 == a) ≡ true).
    let same : e.0 ≡ a = eqb-true e.0 a t in
    rw t (ap (λ (xs : List X). e.1 ∷ xs) (no_more e (a + 1) n (omega arith))))
    (λ (f : (e.0 == a) ≡ false).
    let up : a + 1 ≤ e.0 = further f in
    rw f (one_own e (a + 1) n up (omega arith)))
    (cases_Bool (e.0 == a))
  where
    further : (e.0 == a) ≡ false → a + 1 ≤ e.0
    further f = ⊎_elim (λ (same : e.0 ≡ a). absurd (both_ways (e.0 == a) f (eq-eqb e.0 a same))) (λ (up : a + 1 ≤ e.0). up) (here_or_up a e.0 low)
      where
        here_or_up : (a k : ℕ) → a ≤ k → (k ≡ a) ⊎ (a + 1 ≤ k)
        here_or_up a k low = grind arith

with_one_more : {X : Type 0} (e : ℕ × X) (es : List (ℕ × X)) (k : ℕ) → with_number k (e ∷ es) ≡ if_own e k ++ with_number k es
with_one_more {X} e es k =
    ⊎_elim
    (λ (t : (e.0 == k) ≡ true). rw t refl)
    (λ (f : (e.0 == k) ≡ false). rw f refl)
    (cases_Bool (e.0 == k))

-- the items, number by number
pub perm_numbers : {X : Type 0} (n : ℕ) (es : List (ℕ × X)) → AllByRecursion (λ (e : ℕ × X). e.0 < n) es
    → IsPermutation (flat_map (λ k. with_number k es) (below n)) (map (λ (e : ℕ × X). e.1) es)
perm_numbers {X} n [] h = perm_equal (flat_map (nothing X) (below n)) [] (none_flat X (below n))
perm_numbers {X} n (e ∷ es) h =
    let first : flat_map (if_own e) (below n) ≡ e.1 ∷ [] = one_own e 0 n (omega arith) (omega (arith, h.0)) in
    IsPermutation-trans (flat_map (λ k. with_number k (e ∷ es)) (below n))
    (flat_map (λ k. if_own e k ++ with_number k es) (below n))
    (e.1 ∷ map (λ (d : ℕ × X). d.1) es)
    (perm_flat (λ k. with_number k (e ∷ es)) (λ k. if_own e k ++ with_number k es) (below n) (λ k l. perm_equal (with_number k (e ∷ es)) (if_own e k ++ with_number k es) (with_one_more e es k)))
    (IsPermutation-trans (flat_map (λ k. if_own e k ++ with_number k es) (below n))
    (flat_map (if_own e) (below n) ++ flat_map (λ k. with_number k es) (below n))
    (e.1 ∷ map (λ (d : ℕ × X). d.1) es)
    (perm_split (if_own e) (λ k. with_number k es) (below n))
    (subst (λ (zs : List X). IsPermutation (zs ++ flat_map (λ k. with_number k es) (below n)) (e.1 ∷ map (λ (d : ℕ × X). d.1) es)) (sym first)
    (IsPermutation-cons e.1 (flat_map (λ k. with_number k es) (below n)) (map (λ (d : ℕ × X). d.1) es) (perm_numbers n es h.1))))

-- each item goes to one of n
numbered_items : {X : Type 0} (n k : ℕ) (xs : List X) → map (λ (e : ℕ × X). e.1) (numbered n k xs) ≡ xs
numbered_items n k [] = refl
numbered_items n k (x ∷ xs) = ap (λ ys. x ∷ ys) (numbered_items n (k + 1) xs)

numbered_below : {X : Type 0} (n k : ℕ) (xs : List X) → 0 < n → AllByRecursion (λ (e : ℕ × X). e.0 < n) (numbered n k xs)
numbered_below n k [] some = tt
numbered_below n k (x ∷ xs) some = (omega arith, numbered_below n (k + 1) xs some)

pub perm_dealt : {X : Type 0} (n g : ℕ) (xs : List X) → 0 < n → IsPermutation (flat_map (λ q. dealt n g q xs) (below n)) xs
perm_dealt {X} n g xs some =
    subst (λ (ys : List X). IsPermutation (flat_map (λ q. dealt n g q xs) (below n)) ys) (numbered_items n g xs)
    (perm_numbers n (numbered n g xs) (numbered_below n g xs some))

-- the items of each class
abbrev keyed : {X : Type 0} → (X → ℕ) → List X → List (ℕ × X)
keyed class xs = map (λ x. (class x, x)) xs

class_number : {X : Type 0} (class : X → ℕ) (k : ℕ) (xs : List X) → filter (λ x. class x == k) xs ≡ with_number k (keyed class xs)
class_number class k [] = refl
class_number {X} class k (x ∷ xs) =
    ⊎_elim
    (λ (t : (class x == k) ≡ true). rw t (ap (λ (ys : List X). x ∷ ys) (class_number class k xs)))
    (λ (f : (class x == k) ≡ false). rw f (class_number class k xs))
    (cases_Bool (class x == k))

keyed_items : {X : Type 0} (class : X → ℕ) (xs : List X) → map (λ (e : ℕ × X). e.1) (keyed class xs) ≡ xs
keyed_items class [] = refl
keyed_items class (x ∷ xs) = ap (λ ys. x ∷ ys) (keyed_items class xs)

keyed_below : {X : Type 0} (class : X → ℕ) (n : ℕ) (xs : List X) → ((x : X) → class x < n) → AllByRecursion (λ (e : ℕ × X). e.0 < n) (keyed class xs)
keyed_below class n [] h = tt
keyed_below class n (x ∷ xs) h = (h x, keyed_below class n xs h)

pub perm_classes : {X : Type 0} (class : X → ℕ) (n : ℕ) (xs : List X) → ((x : X) → class x < n)
    → IsPermutation (flat_map (λ k. filter (λ x. class x == k) xs) (below n)) xs
perm_classes {X} class n xs h =
    IsPermutation-trans (flat_map (λ k. filter (λ x. class x == k) xs) (below n)) (flat_map (λ k. with_number k (keyed class xs)) (below n)) xs
    (perm_flat (λ k. filter (λ x. class x == k) xs) (λ k. with_number k (keyed class xs)) (below n)
    (λ k l. perm_equal (filter (λ x. class x == k) xs) (with_number k (keyed class xs)) (class_number class k xs)))
    (subst (λ (ys : List X). IsPermutation (flat_map (λ k. with_number k (keyed class xs)) (below n)) ys) (keyed_items class xs)
    (perm_numbers n (keyed class xs) (keyed_below class n xs h)))

-- ---- parts

-- with others, the items are those of the second list
pub record IsPart {X : Type 0} (xs ys : List X) : Type 0 where
  pub others : List X
  pub same : IsPermutation (xs ++ others) ys

pub part_front : {X : Type 0} (xs ys : List X) → IsFront xs ys → IsPart xs ys
part_front xs ys f = record { others = f.rest; same = perm_equal (xs ++ f.rest) ys (sym f.joined) }

pub part_perm : {X : Type 0} (xs ys : List X) → IsPermutation xs ys → IsPart xs ys
part_perm xs ys p = record { others = []; same = subst (λ l. IsPermutation l ys) (sym (append-nil xs)) p }

pub part_trans : {X : Type 0} (xs ys zs : List X) → IsPart xs ys → IsPart ys zs → IsPart xs zs
part_trans xs ys zs a b = record {
  others = a.others ++ b.others;
  same = IsPermutation-trans (xs ++ (a.others ++ b.others)) (ys ++ b.others) zs
      (subst (λ l. IsPermutation l (ys ++ b.others)) (append_assoc xs a.others b.others) (IsPermutation-append_left b.others (xs ++ a.others) ys a.same))
      b.same;
}

part_append : {X : Type 0} (xs ys us vs : List X) → IsPart xs ys → IsPart us vs → IsPart (xs ++ us) (ys ++ vs)
part_append xs ys us vs a b = record {
  others = a.others ++ b.others;
  same = IsPermutation-trans ((xs ++ us) ++ (a.others ++ b.others)) ((xs ++ a.others) ++ (us ++ b.others)) (ys ++ vs)
      (perm_middle xs us a.others b.others)
      (IsPermutation-append (xs ++ a.others) ys (us ++ b.others) vs a.same b.same);
}

pub part_flat : {K X : Type 0} (f h : K → List X) (ks : List K) → ((k : K) → IsIn k ks → IsPart (f k) (h k)) → IsPart (flat_map f ks) (flat_map h ks)
part_flat f h [] each = part_perm [] [] (IsPermutation-refl [])
part_flat f h (k ∷ ks) each = part_append (f k) (h k) (flat_map f ks) (flat_map h ks) (each k (inl refl)) (part_flat f h ks (λ j l. each j (inr l)))

pub part_map : {X Y : Type 0} (f : X → Y) (xs ys : List X) → IsPart xs ys → IsPart (map f xs) (map f ys)
part_map f xs ys a = record {
  others = map f a.others;
  same = subst (λ l. IsPermutation l (map f ys)) (map-append f xs a.others) (IsPermutation-map f (xs ++ a.others) ys a.same);
}

pub map_flat : {K X Y : Type 0} (f : X → Y) (h : K → List X) (ks : List K) → flat_map (λ k. map f (h k)) ks ≡ map f (flat_map h ks)
map_flat f h [] = refl
map_flat f h (k ∷ ks) = ap (λ ys. map f (h k) ++ ys) (map_flat f h ks) ∙ sym (map-append f (h k) (flat_map h ks))
