-- What is told of the frames of a list, and of one more.
use Rattle.std.proofs.Common.{ℕ, zero, suc, Bool, true, false, List, [], ◌∷◌, ◌++◌, ◌≡◌, ◌≢◌, ◌⊎◌, ◌<◌, ◌≤◌, ◌+◌, inl, inr, refl, sym, ap, subst, ◌∙◌, ⊎_elim, arith, length, get_or}
use Rattle.std.specs.Prelude.{◌==◌, ◌||◌, if◌then◌else◌, max}
use Rattle.std.specs.List.{AllByRecursion, list_any}
use Rattle.std.proofs.lemmas.Bool.{cases_Bool, eq-eqb, eqb-true}
use Rattle.node_frames.specs.declared.frame.Frame.{Frame}
use Rattle.frame_order.specs.Agreeing.{AgreesAt}
use Rattle.frame_order.specs.Said.{greatest}

-- lists of one length that agree at each place are one
pub same_lists : (xs ys : List ℕ) → length xs ≡ length ys → ((k : ℕ) → k < length xs → AgreesAt k xs ys) → xs ≡ ys
same_lists [] [] e h = refl
same_lists [] (y ∷ ys) e h = absurd (omega arith)
same_lists (x ∷ xs) [] e h = absurd (omega arith)
same_lists (x ∷ xs) (y ∷ ys) e h =
    let first : x ≡ y = h 0 (omega arith) in
    let rest : xs ≡ ys = same_lists xs ys (omega arith) (λ k less. h (suc k) (omega arith)) in
    ap (λ n. n ∷ xs) first ∙ ap (λ zs. y ∷ zs) rest

-- ---- all of a list

pub all_map : {X : Type 0} (P Q : X → Type 0) → ((x : X) → P x → Q x) → (xs : List X) → AllByRecursion P xs → AllByRecursion Q xs
all_map P Q f [] h = tt
all_map P Q f (x ∷ xs) h = (f x h.0, all_map P Q f xs h.1)

pub all_both : {X : Type 0} (P Q : X → Type 0) (xs : List X) → AllByRecursion P xs → AllByRecursion Q xs → AllByRecursion (λ x. P x × Q x) xs
all_both P Q [] h k = tt
all_both P Q (x ∷ xs) h k = ((h.0, k.0), all_both P Q xs h.1 k.1)

pub all_more : {X : Type 0} (P : X → Type 0) (xs : List X) (x : X) → AllByRecursion P xs → P x → AllByRecursion P (xs ++ x ∷ [])
all_more P [] x h p = (p, tt)
all_more P (y ∷ ys) x h p = (h.0, all_more P ys x h.1 p)

pub all_fewer : {X : Type 0} (P : X → Type 0) (xs : List X) (x : X) → AllByRecursion P (xs ++ x ∷ []) → AllByRecursion P xs × P x
all_fewer P [] x h = (tt, h.0)
all_fewer P (y ∷ ys) x h = let rest = all_fewer P ys x h.1 in ((h.0, rest.0), rest.1)

-- ---- the greatest number

pub greatest_more : (says : Frame → ℕ) (xs : List Frame) (x : Frame) → greatest says (xs ++ x ∷ []) ≡ max (greatest says xs) (says x)
greatest_more says [] x = omega arith
greatest_more says (y ∷ ys) x = ap (λ n. max (says y) n) (greatest_more says ys x) ∙ omega arith

-- one frame more that tells of no number
pub greatest_same : (says : Frame → ℕ) (xs : List Frame) (x : Frame) → says x ≡ 0 → greatest says xs ≡ greatest says (xs ++ x ∷ [])
greatest_same says xs x e = omega (arith, greatest_more says xs x, e)

-- one frame more that tells of a number which is not below the others
pub greatest_last : (says : Frame → ℕ) (xs : List Frame) (x : Frame) (n : ℕ) → says x ≡ n → greatest says xs ≤ n → n ≡ greatest says (xs ++ x ∷ [])
greatest_last says xs x n e le = omega (arith, greatest_more says xs x, e, le)

pub all_greatest : (says : Frame → ℕ) (n : ℕ) (xs : List Frame) → AllByRecursion (λ x. says x ≤ n) xs → greatest says xs ≤ n
all_greatest says n [] h = omega arith
all_greatest says n (x ∷ xs) h = omega (arith, h.0, all_greatest says n xs h.1)

pub greatest_all : (says : Frame → ℕ) (n : ℕ) (xs : List Frame) → greatest says xs ≤ n → AllByRecursion (λ x. says x ≤ n) xs
greatest_all says n [] h = tt
greatest_all says n (x ∷ xs) h = (omega (arith, h), greatest_all says n xs (omega (arith, h)))

-- ---- whether any frame is of a kind

or_more : (a b c : Bool) → (a || (b || c)) ≡ ((a || b) || c)
or_more true b c = refl
or_more false b c = refl

pub any_more : (p : Frame → Bool) (xs : List Frame) (x : Frame) → list_any p (xs ++ x ∷ []) ≡ (list_any p xs || p x)
any_more p [] x = by_cases (p x)
  where
    by_cases : (b : Bool) → (b || false) ≡ b
    by_cases true = refl
    by_cases false = refl
any_more p (y ∷ ys) x = ap (λ b. p y || b) (any_more p ys x) ∙ or_more (p y) (list_any p ys) (p x)

or_false : (a b : Bool) → b ≡ false → a ≡ (a || b)
or_false true b e = refl
or_false false b e = sym e

or_true : (a b : Bool) → b ≡ true → true ≡ (a || b)
or_true true b e = refl
or_true false b e = sym e

pub any_same : (p : Frame → Bool) (xs : List Frame) (x : Frame) → p x ≡ false → list_any p xs ≡ list_any p (xs ++ x ∷ [])
any_same p xs x e = or_false (list_any p xs) (p x) e ∙ sym (any_more p xs x)

pub any_last : (p : Frame → Bool) (xs : List Frame) (x : Frame) → p x ≡ true → true ≡ list_any p (xs ++ x ∷ [])
any_last p xs x e = or_true (list_any p xs) (p x) e ∙ sym (any_more p xs x)

neither : (a b : Bool) → (a || b) ≡ false → (a ≡ false) × (b ≡ false)
neither true b e = absurd (let never : true ≡ false = e in cc)
neither false b e = (refl, e)

pub all_none : (p : Frame → Bool) (xs : List Frame) → AllByRecursion (λ x. p x ≡ false) xs → list_any p xs ≡ false
all_none p [] h = refl
all_none p (x ∷ xs) h = ap (λ b. b || list_any p xs) h.0 ∙ all_none p xs h.1

pub none_all : (p : Frame → Bool) (xs : List Frame) → list_any p xs ≡ false → AllByRecursion (λ x. p x ≡ false) xs
none_all p [] h = tt
none_all p (x ∷ xs) h = let both = neither (p x) (list_any p xs) h in (both.0, none_all p xs both.1)

-- ---- numbers that are told of one capture

pub under_if : (b : Bool) (c d n m : ℕ) → (c == d) ≡ b → (c ≡ d → n ≤ m) → (if c == d then n else 0) ≤ m
under_if true c d n m e h = rw e (h (eqb-true c d e))
under_if false c d n m e h = rw e (omega arith)

pub if_under : (c d n m : ℕ) → (if c == d then n else 0) ≤ m → c ≡ d → n ≤ m
if_under c d n m h e = let same : (c == d) ≡ true = eq-eqb c d e in rw same at h

pub unlike : (b : Bool) (c d : ℕ) → (c == d) ≡ b → c ≢ d → (c == d) ≡ false
unlike true c d e ne = absurd (ne (eqb-true c d e))
unlike false c d e ne = e

pub like_not : (c d : ℕ) → (c == d) ≡ false → c ≢ d
like_not c d e same = absurd (let never : true ≡ false = sym (eq-eqb c d same) ∙ e in cc)

-- ---- one number or flag for each capture

pub number_placed : (says : ℕ → Frame → ℕ) (olds news : List ℕ) (frames : List Frame) (f : Frame) (at n : ℕ) → ((c : ℕ) → says c f ≡ (if at == c then n else 0))
    → ((c : ℕ) → c < 64 → get_or olds c 0 ≡ greatest (says c) frames) → get_or news at 0 ≡ n → ((k : ℕ) → k ≢ at → get_or news k 0 ≡ get_or olds k 0)
    → greatest (says at) frames ≤ n → (c : ℕ) → c < 64 → get_or news c 0 ≡ greatest (says c) (frames ++ f ∷ [])
number_placed says olds news frames f at n is keeps there others le c less =
    ⊎_elim
    (λ (t : (at == c) ≡ true).
    let same : at ≡ c = eqb-true at c t in
    let told : says c f ≡ n = is c ∙ ap (λ b. if b then n else 0) t in
    subst (λ k. get_or news k 0 ≡ n) same there ∙ greatest_last (says c) frames f n told (subst (λ k. greatest (says k) frames ≤ n) same le))
    (λ (u : (at == c) ≡ false).
    others c (λ e. like_not at c u (sym e)) ∙ keeps c less ∙ greatest_same (says c) frames f (is c ∙ ap (λ b. if b then n else 0) u))
    (cases_Bool (at == c))

pub flag_placed : (says : ℕ → Frame → Bool) (olds news : List Bool) (frames : List Frame) (f : Frame) (at : ℕ) → ((c : ℕ) → says c f ≡ (at == c))
    → ((c : ℕ) → c < 64 → get_or olds c false ≡ list_any (says c) frames) → get_or news at false ≡ true → ((k : ℕ) → k ≢ at → get_or news k false ≡ get_or olds k false)
    → (c : ℕ) → c < 64 → get_or news c false ≡ list_any (says c) (frames ++ f ∷ [])
flag_placed says olds news frames f at is keeps there others c less =
    ⊎_elim
    (λ (t : (at == c) ≡ true). subst (λ k. get_or news k false ≡ true) (eqb-true at c t) there ∙ any_last (says c) frames f (is c ∙ t))
    (λ (u : (at == c) ≡ false). others c (λ e. like_not at c u (sym e)) ∙ keeps c less ∙ any_same (says c) frames f (is c ∙ u))
    (cases_Bool (at == c))

-- ---- numbers below another

pub upto_next : (P : ℕ → Type 0) (n : ℕ) → ((k : ℕ) → k < n → P k) → P n → (k : ℕ) → k < n + 1 → P k
upto_next P n h p k less =
    ⊎_elim
    (λ (t : (k == n) ≡ true). subst P (sym (eqb-true k n t)) p)
    (λ (u : (k == n) ≡ false). let ne = like_not k n u in h k (below_next k n less ne))
    (cases_Bool (k == n))
  where
    below_next : (j m : ℕ) → j < m + 1 → j ≢ m → j < m
    below_next j m less ne = ⊎_elim (λ (a : j < m). a) (λ (b : m ≤ j). absurd (ne (omega (arith, less, b)))) (split j m)
      where
        split : (j m : ℕ) → (j < m) ⊎ (m ≤ j)
        split j zero = inr (omega arith)
        split zero (suc m) = inl (omega arith)
        split (suc j) (suc m) = ⊎_elim (λ (a : j < m). inl (omega (arith, a))) (λ (b : m ≤ j). inr (omega (arith, b))) (split j m)
