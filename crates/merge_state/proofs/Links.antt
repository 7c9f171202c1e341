-- One frame more on one of several links.
use Rattle.std.proofs.Common.{ℕ, zero, suc, true, false, List, [], ◌∷◌, ◌++◌, ◌≡◌, ◌≤◌, ◌<◌, ◌+◌, ◌*◌, Some, refl, sym, ap, subst, ◌∙◌, ⊎_elim, arith, map, length, get_or, append_assoc}
use Rattle.std.specs.Prelude.{flat_map, sum_by, ◌==◌}
use Rattle.std.specs.List.{range_with_len}
use Rattle.std.specs.List.Sorted.{IsPermutation}
use Rattle.std.proofs.Math.Nat.{add-mul}
use Rattle.std.proofs.lemmas.Bool.{cases_Bool, both_ways, eq-eqb, eqb-true}
use Rattle.std.proofs.lemmas.List.{append-nil}
use Rattle.std.proofs.lemmas.List.Sorted.{IsPermutation-trans, IsPermutation-sym, IsPermutation-append_right, IsPermutation-middle}
use Rattle.std.proofs.lemmas.List.Sums.{sum_by-cons, sum_by-append}
use Rattle.node_frames.specs.declared.frame.Frame.{Frame}
use Rattle.run_law.specs.Links.{members_told, members_answered}
use Rattle.run_law.specs.Nodes.{below}
use Rattle.run_law.specs.Sent.{Saying, answer_in, answers_in, row_in, rows_in, bound_after, bound_in}
use Rattle.run_law.proofs.Lists.{flat-append}
use Rattle.run_law.proofs.More.{bound-append}
use Rattle.run_law.proofs.Parts.{perm_equal}
use Rattle.merge_state.specs.States.{TakesOne}

-- ---- behind the frames of one link

pub answers_push : (xs : List Frame) (f : Frame) → answers_in (xs ++ f ∷ []) ≡ answers_in xs ++ answer_in f
answers_push xs f = flat-append answer_in xs (f ∷ []) ∙ ap (λ zs. answers_in xs ++ zs) (append-nil (answer_in f))

pub rows_push : (xs : List Frame) (f : Frame) → rows_in (xs ++ f ∷ []) ≡ rows_in xs ++ row_in f
rows_push xs f = flat-append row_in xs (f ∷ []) ∙ ap (λ zs. rows_in xs ++ zs) (append-nil (row_in f))

pub told_push : (xs : List Frame) (f : Frame) → members_answered (xs ++ f ∷ []) ≡ members_answered xs + members_told f
told_push xs f = sum_by-append members_told xs (f ∷ []) ∙ ap (λ (k : ℕ). members_answered xs + k) (sum_by-cons members_told f [] ∙ omega arith)

pub bound_push : (says : Frame → Saying) (xs : List Frame) (f : Frame) → bound_in says (xs ++ f ∷ []) ≡ bound_after (bound_in says xs) (says f)
bound_push says xs f = bound-append says (Some 0) xs (f ∷ [])

-- ---- on each link

-- what holds of the link behind the frame, and of each other link
pub placed : (n : ℕ) (taken more : ℕ → List Frame) (g : ℕ) (f : Frame) → TakesOne n taken more g f → (P : ℕ → List Frame → Type 0)
    → P g (taken g ++ f ∷ []) → ((k : ℕ) → k < n → (k ≡ g → ⊥) → P k (taken k)) → (k : ℕ) → k < n → P k (more k)
placed n taken more g f takes P here old k less =
    ⊎_elim
    (λ (t : (k == g) ≡ true). subst (λ (j : ℕ). P j (more j)) (sym (eqb-true k g t)) (subst (P g) (sym takes.here) here))
    (λ (u : (k == g) ≡ false).
    let other : k ≡ g → ⊥ = λ e. absurd (both_ways (k == g) u (eq-eqb k g e)) in
    subst (P k) (sym (takes.others k less other)) (old k less other))
    (cases_Bool (k == g))

-- what held of each link
pub each_on : (P : ℕ → List Frame → Type 0) (n : ℕ) (taken more : ℕ → List Frame) (g : ℕ) (f : Frame) → TakesOne n taken more g f
    → P g (taken g ++ f ∷ []) → ((k : ℕ) → k < n → P k (taken k)) → (k : ℕ) → k < n → P k (more k)
each_on P n taken more g f takes here old = placed n taken more g f takes P here (λ k less other. old k less)

-- what is told of each link is the same, where the frame changes nothing
pub same_on : {X : Type 0} (says : List Frame → X) (n : ℕ) (taken more : ℕ → List Frame) (g : ℕ) (f : Frame) → TakesOne n taken more g f
    → says (taken g ++ f ∷ []) ≡ says (taken g) → (k : ℕ) → k < n → says (more k) ≡ says (taken k)
same_on says n taken more g f takes same = each_on (λ k fs. says fs ≡ says (taken k)) n taken more g f takes same (λ k less. refl)

-- ---- over all links

pub map_range : {X : Type 0} (f h : ℕ → X) (a n : ℕ) → ((k : ℕ) → a ≤ k → k < a + n → h k ≡ f k) → map h (range_with_len a n) ≡ map f (range_with_len a n)
map_range f h a zero same = refl
map_range {X} f h a (suc n) same =
    ap (λ (x : X). x ∷ map h (range_with_len (a + 1) n)) (same a (omega arith) (omega arith))
    ∙ ap (λ (xs : List X). f a ∷ xs) (map_range f h (a + 1) n (λ k low high. same k (omega (arith, low)) (omega (arith, high))))

pub map_below : {X : Type 0} (f h : ℕ → X) (n : ℕ) → ((k : ℕ) → k < n → h k ≡ f k) → map h (below n) ≡ map f (below n)
map_below f h n same = map_range f h 0 n (λ k low high. same k (omega (arith, high)))

pub flat_range : {X : Type 0} (f h : ℕ → List X) (a n : ℕ) → ((k : ℕ) → a ≤ k → k < a + n → h k ≡ f k) → flat_map h (range_with_len a n) ≡ flat_map f (range_with_len a n)
flat_range f h a zero same = refl
flat_range {X} f h a (suc n) same =
    ap (λ (xs : List X). xs ++ flat_map h (range_with_len (a + 1) n)) (same a (omega arith) (omega arith))
    ∙ ap (λ (xs : List X). f a ++ xs) (flat_range f h (a + 1) n (λ k low high. same k (omega (arith, low)) (omega (arith, high))))

pub flat_below : {X : Type 0} (f h : ℕ → List X) (n : ℕ) → ((k : ℕ) → k < n → h k ≡ f k) → flat_map h (below n) ≡ flat_map f (below n)
flat_below f h n same = flat_range f h 0 n (λ k low high. same k (omega (arith, high)))

-- a list by its places
pub listed : {X : Type 0} (xs : List X) (d : X) (f : ℕ → X) (a : ℕ) → ((k : ℕ) → k < length xs → get_or xs k d ≡ f (a + k)) → xs ≡ map f (range_with_len a (length xs))
listed [] d f a h = refl
listed {X} (x ∷ xs) d f a h =
    let first : a + 0 ≡ a = omega arith in
    ap (λ (y : X). y ∷ xs) (h 0 (omega arith) ∙ ap f first)
    ∙ ap (λ (ys : List X). f a ∷ ys)
    (listed xs d f (a + 1) (λ k less. let next : a + suc k ≡ (a + 1) + k = omega arith in h (suc k) (omega (arith, less)) ∙ ap f next))

-- one item more at one number
pub flat_push : {X : Type 0} (f h : ℕ → List X) (g : ℕ) (x : X) (a n : ℕ) → a ≤ g → g < a + n → h g ≡ f g ++ x ∷ []
    → ((k : ℕ) → a ≤ k → k < a + n → (k ≡ g → ⊥) → h k ≡ f k)
    → IsPermutation (x ∷ flat_map f (range_with_len a n)) (flat_map h (range_with_len a n))
flat_push f h g x a zero low high here others = absurd (omega (arith, low, high))
flat_push {X} f h g x a (suc n) low high here others =
    let rest : List X = flat_map f (range_with_len (a + 1) n) in
    let more : List X = flat_map h (range_with_len (a + 1) n) in
    ⊎_elim
    (λ (t : (a == g) ≡ true).
    let e : a ≡ g = eqb-true a g t in
    let own : h a ≡ f a ++ x ∷ [] = subst (λ (j : ℕ). h j ≡ f j ++ x ∷ []) (sym e) here in
    let same : more ≡ rest = flat_range f h (a + 1) n (λ k lo hi. others k (omega (arith, lo)) (omega (arith, hi)) (λ k_is. absurd (omega (arith, lo, k_is, e)))) in
    let joined : h a ++ more ≡ f a ++ x ∷ rest = ap (λ (xs : List X). xs ++ more) own ∙ ap (λ (xs : List X). (f a ++ x ∷ []) ++ xs) same ∙ append_assoc (f a) (x ∷ []) rest in
    IsPermutation-trans (x ∷ (f a ++ rest)) (f a ++ x ∷ rest) (h a ++ more)
    (IsPermutation-sym (f a ++ x ∷ rest) (x ∷ (f a ++ rest)) (IsPermutation-middle (f a) x rest))
    (perm_equal (f a ++ x ∷ rest) (h a ++ more) (sym joined)))
    (λ (u : (a == g) ≡ false).
    let other : a ≡ g → ⊥ = λ e. absurd (both_ways (a == g) u (eq-eqb a g e)) in
    let own : h a ≡ f a = others a (omega arith) (omega arith) other in
    let up : a + 1 ≤ g = further a g low other in
    let later : IsPermutation (x ∷ rest) more = flat_push f h g x (a + 1) n up (omega (arith, high)) here (λ k lo hi. others k (omega (arith, lo)) (omega (arith, hi))) in
    IsPermutation-trans (x ∷ (f a ++ rest)) (f a ++ x ∷ rest) (h a ++ more)
    (IsPermutation-sym (f a ++ x ∷ rest) (x ∷ (f a ++ rest)) (IsPermutation-middle (f a) x rest))
    (subst (λ (xs : List X). IsPermutation (f a ++ x ∷ rest) (xs ++ more)) (sym own) (IsPermutation-append_right (f a) (x ∷ rest) more later)))
    (cases_Bool (a == g))
  where
    further : (i j : ℕ) → i ≤ j → (i ≡ j → ⊥) → i + 1 ≤ j
    further i j le ne = grind arith

-- the same numbers
pub sum_range : (f h : ℕ → ℕ) (a n : ℕ) → ((k : ℕ) → a ≤ k → k < a + n → h k ≡ f k) → sum_by h (range_with_len a n) ≡ sum_by f (range_with_len a n)
sum_range f h a zero same = refl
sum_range f h a (suc n) same =
    let first = same a (omega arith) (omega arith) in
    let rest = sum_range f h (a + 1) n (λ k lo hi. same k (omega (arith, lo)) (omega (arith, hi))) in
    omega (arith, first, rest, sum_by-cons h a (range_with_len (a + 1) n), sum_by-cons f a (range_with_len (a + 1) n))

-- one number more at one number
pub sum_push : (f h : ℕ → ℕ) (g d a n : ℕ) → a ≤ g → g < a + n → h g ≡ f g + d → ((k : ℕ) → a ≤ k → k < a + n → (k ≡ g → ⊥) → h k ≡ f k)
    → sum_by h (range_with_len a n) ≡ sum_by f (range_with_len a n) + d
sum_push f h g d a zero low high here others = absurd (omega (arith, low, high))
sum_push f h g d a (suc n) low high here others =
    ⊎_elim
    (λ (t : (a == g) ≡ true).
    let e : a ≡ g = eqb-true a g t in
    let own : h a ≡ f a + d = subst (λ (j : ℕ). h j ≡ f j + d) (sym e) here in
    let same : sum_by h (range_with_len (a + 1) n) ≡ sum_by f (range_with_len (a + 1) n) =
    sum_range f h (a + 1) n (λ k lo hi. others k (omega (arith, lo)) (omega (arith, hi)) (λ k_is. absurd (omega (arith, lo, k_is, e)))) in
    omega (arith, own, same, sum_by-cons h a (range_with_len (a + 1) n), sum_by-cons f a (range_with_len (a + 1) n)))
    (λ (u : (a == g) ≡ false).
    let other : a ≡ g → ⊥ = λ e. absurd (both_ways (a == g) u (eq-eqb a g e)) in
    let own : h a ≡ f a = others a (omega arith) (omega arith) other in
    let up : a + 1 ≤ g = further a g low other in
    let later : sum_by h (range_with_len (a + 1) n) ≡ sum_by f (range_with_len (a + 1) n) + d =
    sum_push f h g d (a + 1) n up (omega (arith, high)) here (λ k lo hi. others k (omega (arith, lo)) (omega (arith, hi))) in
    omega (arith, own, later, sum_by-cons h a (range_with_len (a + 1) n), sum_by-cons f a (range_with_len (a + 1) n)))
    (cases_Bool (a == g))
  where
    further : (i j : ℕ) → i ≤ j → (i ≡ j → ⊥) → i + 1 ≤ j
    further i j le ne = grind arith

-- a sum of few small numbers
pub sum_few : (f : ℕ → ℕ) (most a n : ℕ) → ((k : ℕ) → a ≤ k → k < a + n → f k ≤ most) → sum_by f (range_with_len a n) ≤ n * most
sum_few f most a zero few = omega arith
sum_few f most a (suc n) few =
    let first = few a (omega arith) (omega arith) in
    let rest = sum_few f most (a + 1) n (λ k lo hi. few k (omega (arith, lo)) (omega (arith, hi))) in
    let one : suc n ≡ 1 + n = omega arith in
    let split : suc n * most ≡ 1 * most + n * most = ap (λ (k : ℕ). k * most) one ∙ add-mul 1 n most in
    omega (arith, first, rest, split, sum_by-cons f a (range_with_len (a + 1) n))
