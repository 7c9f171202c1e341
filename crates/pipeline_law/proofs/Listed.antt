-- Lists made number by number.
use Rattle.std.proofs.Common.{ℕ, zero, suc, List, [], ◌∷◌, ◌++◌, ◌≡◌, ◌<◌, ◌≤◌, ◌+◌, ◌-◌, ◌*◌, length, get_or, map, refl, sym, ap, ◌∙◌, subst, arith}
use Rattle.std.specs.List.{flat_map, range_with_len, AllByRecursion}
use Rattle.std.proofs.lemmas.List.{map-id, length-append, get_or_append_left, get_or-append_right}
use Rattle.std.proofs.lemmas.List.FromFn.{map-range_with_len_more}
use Rattle.run_law.specs.Nodes.{below}
use Rattle.run_law.proofs.Lists.{in_all, of_map, of_flat, of_below, flat-append}

-- ---- lists of the same length, one behind another

pub flat_long : {X : Type 0} (f : ℕ → List X) (m a n : ℕ) → ((i : ℕ) → length (f i) ≡ m) → length (flat_map f (range_with_len a n)) ≡ n * m
flat_long f m a zero each = omega arith
flat_long f m a (suc n) each = omega (arith, length-append (f a) (flat_map f (range_with_len (a + 1) n)), each a, flat_long f m (a + 1) n each)

-- item j of list i
pub flat_at : {X : Type 0} (f : ℕ → List X) (m a n i at j k : ℕ) (d : X) → ((i : ℕ) → length (f i) ≡ m) → i < n → j < m → at ≡ a + i → k ≡ i * m + j
    → get_or (flat_map f (range_with_len a n)) k d ≡ get_or (f at) j d
flat_at f m a zero i at j k d each less within there is = absurd (omega arith)
flat_at f m a (suc n) zero at j k d each less within there is =
    let here : at ≡ a = omega (arith, there) in
    let first : k ≡ j = omega (arith, is) in
    let inside : j < length (f a) = omega (arith, within, each a) in
    ap (λ x. get_or (f a ++ flat_map f (range_with_len (a + 1) n)) x d) first
    ∙ get_or_append_left (f a) (flat_map f (range_with_len (a + 1) n)) d j inside
    ∙ ap (λ x. get_or (f x) j d) (sym here)
flat_at f m a (suc n) (suc i) at j k d each less within there is =
    let behind : m ≤ k = omega (arith, is) in
    let rest : k - m ≡ i * m + j = omega (arith, is) in
    get_or-append_right (f a) (flat_map f (range_with_len (a + 1) n)) m k d (each a) behind
    ∙ flat_at f m (a + 1) n i at j (k - m) d each (omega (arith, less)) within (omega (arith, there)) rest

range_more : (a n at : ℕ) → at ≡ a + n → range_with_len a (n + 1) ≡ range_with_len a n ++ at ∷ []
range_more a n at there =
    sym (map-id (range_with_len a (n + 1))) ∙ map-range_with_len_more (λ x. x) a n at (sym there) ∙ ap (λ l. l ++ at ∷ []) (map-id (range_with_len a n))

-- one list more
pub flat_more : {X : Type 0} (f : ℕ → List X) (n : ℕ) → flat_map f (below (n + 1)) ≡ flat_map f (below n) ++ f n
flat_more f n =
    ap (flat_map f) (range_more 0 n n (omega arith)) ∙ flat-append f (below n) (n ∷ []) ∙ ap (λ l. flat_map f (below n) ++ l) (Rattle.std.proofs.Common.append-nil (f n))

-- ---- of each item

pub all_mapped : {X : Type 0} (P : X → Type 0) (f : ℕ → X) (n : ℕ) → ((i : ℕ) → i < n → P (f i)) → AllByRecursion P (map f (below n))
all_mapped P f n each =
    in_all P (map f (below n)) (λ x there.
    let from = of_map f x (below n) there in
    subst P (sym from.is) (each from.item (of_below n from.item from.there)))

pub all_flat : {X : Type 0} (P : X → Type 0) (f : ℕ → ℕ → X) (n m : ℕ) → ((i j : ℕ) → i < n → j < m → P (f i j)) → AllByRecursion P (flat_map (λ i. map (f i) (below m)) (below n))
all_flat P f n m each =
    in_all P (flat_map (λ i. map (f i) (below m)) (below n)) (λ x there.
    let row = of_flat (λ i. map (f i) (below m)) x (below n) there in
    let from = of_map (f row.item) x (below m) row.is in
    subst P (sym from.is) (each row.item from.item (of_below n row.item row.there) (of_below m from.item from.there)))

pub all_behind : {X : Type 0} (P : X → Type 0) (xs ys : List X) → AllByRecursion P xs → AllByRecursion P ys → AllByRecursion P (xs ++ ys)
all_behind P [] ys first second = second
all_behind P (x ∷ xs) ys first second = (first.0, all_behind P xs ys first.1 second)
