-- What is told of the frames of a list, and of one more.
use Rattle.std.proofs.Common.{ℕ, Bool, true, false, List, [], ◌∷◌, ◌++◌, ◌≡◌, ◌≤◌, refl, sym, ap, ◌∙◌, arith}
use Rattle.std.specs.Prelude.{◌||◌, max}
use Rattle.std.specs.List.{AllByRecursion, list_any}
use Rattle.node_frames.specs.declared.frame.Frame.{Frame}
use Rattle.frame_order.specs.Said.{greatest}

-- ---- all of a list

pub all_map : {X : Type 0} (P Q : X → Type 0) → ((x : X) → P x → Q x) → (xs : List X) → AllByRecursion P xs → AllByRecursion Q xs
all_map P Q f [] h = tt
all_map P Q f (x ∷ xs) h = (f x h.0, all_map P Q f xs h.1)

pub all_both : {X : Type 0} (P Q : X → Type 0) (xs : List X) → AllByRecursion P xs → AllByRecursion Q xs → AllByRecursion (λ x. P x × Q x) xs
all_both P Q [] h k = tt
all_both P Q (x ∷ xs) h k = ((h.0, k.0), all_both P Q xs h.1 k.1)

pub all_more : {X : Type 0} (P : X → Type 0) (xs : List X) (x : X) → AllByRecursion P xs → P x → AllByRecursion P (xs ++ x ∷ [])
all_more P [] x h p = (p, tt)
all_more P (y ∷ ys) x h p = (h.0, all_more P ys x h.1 p)

pub all_fewer : {X : Type 0} (P : X → Type 0) (xs : List X) (x : X) → AllByRecursion P (xs ++ x ∷ []) → AllByRecursion P xs × P x
all_fewer P [] x h = (tt, h.0)
all_fewer P (y ∷ ys) x h = let rest = all_fewer P ys x h.1 in ((h.0, rest.0), rest.1)

-- ---- the greatest number

greatest_more : (says : Frame → ℕ) (xs : List Frame) (x : Frame) → greatest says (xs ++ x ∷ []) ≡ max (greatest says xs) (says x)
greatest_more says [] x = omega arith
greatest_more says (y ∷ ys) x = ap (λ n. max (says y) n) (greatest_more says ys x) ∙ omega arith

-- one frame more that tells of no number
pub greatest_same : (says : Frame → ℕ) (xs : List Frame) (x : Frame) → says x ≡ 0 → greatest says xs ≡ greatest says (xs ++ x ∷ [])
greatest_same says xs x e = omega (arith, greatest_more says xs x, e)

-- one frame more that tells of a number which is not below the others
pub greatest_last : (says : Frame → ℕ) (xs : List Frame) (x : Frame) (n : ℕ) → says x ≡ n → greatest says xs ≤ n → n ≡ greatest says (xs ++ x ∷ [])
greatest_last says xs x n e le = omega (arith, greatest_more says xs x, e, le)

pub all_greatest : (says : Frame → ℕ) (n : ℕ) (xs : List Frame) → AllByRecursion (λ x. says x ≤ n) xs → greatest says xs ≤ n
all_greatest says n [] h = omega arith
all_greatest says n (x ∷ xs) h = omega (arith, h.0, all_greatest says n xs h.1)

pub greatest_all : (says : Frame → ℕ) (n : ℕ) (xs : List Frame) → greatest says xs ≤ n → AllByRecursion (λ x. says x ≤ n) xs
greatest_all says n [] h = tt
greatest_all says n (x ∷ xs) h = (omega (arith, h), greatest_all says n xs (omega (arith, h)))

-- ---- whether any frame is of a kind

or_more : (a b c : Bool) → (a || (b || c)) ≡ ((a || b) || c)
or_more true b c = refl
or_more false b c = refl

any_more : (p : Frame → Bool) (xs : List Frame) (x : Frame) → list_any p (xs ++ x ∷ []) ≡ (list_any p xs || p x)
any_more p [] x = by_cases (p x)
  where
    by_cases : (b : Bool) → (b || false) ≡ b
    by_cases true = refl
    by_cases false = refl
any_more p (y ∷ ys) x = ap (λ b. p y || b) (any_more p ys x) ∙ or_more (p y) (list_any p ys) (p x)

or_false : (a b : Bool) → b ≡ false → a ≡ (a || b)
or_false true b e = refl
or_false false b e = sym e

or_true : (a b : Bool) → b ≡ true → true ≡ (a || b)
or_true true b e = refl
or_true false b e = sym e

pub any_same : (p : Frame → Bool) (xs : List Frame) (x : Frame) → p x ≡ false → list_any p xs ≡ list_any p (xs ++ x ∷ [])
any_same p xs x e = or_false (list_any p xs) (p x) e ∙ sym (any_more p xs x)

pub any_last : (p : Frame → Bool) (xs : List Frame) (x : Frame) → p x ≡ true → true ≡ list_any p (xs ++ x ∷ [])
any_last p xs x e = or_true (list_any p xs) (p x) e ∙ sym (any_more p xs x)

neither : (a b : Bool) → (a || b) ≡ false → (a ≡ false) × (b ≡ false)
neither true b e = absurd (let never : true ≡ false = e in cc)
neither false b e = (refl, e)

pub all_none : (p : Frame → Bool) (xs : List Frame) → AllByRecursion (λ x. p x ≡ false) xs → list_any p xs ≡ false
all_none p [] h = refl
all_none p (x ∷ xs) h = ap (λ b. b || list_any p xs) h.0 ∙ all_none p xs h.1

pub none_all : (p : Frame → Bool) (xs : List Frame) → list_any p xs ≡ false → AllByRecursion (λ x. p x ≡ false) xs
none_all p [] h = tt
none_all p (x ∷ xs) h = let both = neither (p x) (list_any p xs) h in (both.0, none_all p xs both.1)
