use Rattle.std.proofs.Common.{◌≡◌, ◌≢◌, ℕ, suc, ◌+◌, ◌<◌, ◌≤◌, Bool, true, false, ◌&&◌, List, [], ◌∷◌, Some, length, get_or, set, drop, refl, sym, ap, ◌∙◌, subst, arith, slice_get, cond, ◌⊎◌, inl, inr, replicate}
use Rattle.std.proofs.lemmas.List.{get_or-set_other, get_or-set_same, get_or-replicate, length-set}
use Rattle.std.proofs.lemmas.Bool.{false≢true, cases_eq}
use Rattle.std.proofs.lemmas.Option.{slice_get_within}
use Rattle.std.proofs.Math.Numerals.{add-one}
use Rattle.ds_base.proofs.Places.{drop_at}
use Rattle.path_judges.specs.declared.pattern.Step.{Step}
use Rattle.path_judges.specs.declared.pattern.Step.TheVariants.{Point, One, Many}
use Rattle.path_judges.specs.Pattern.{matches, begun}
use Rattle.path_judges.specs.Open.{IsOpen, is_many, admits, opens}

-- what a step adds to the steps after it
pub matches-nil : (step : Step) (steps : List Step) → matches (step ∷ steps) [] ≡ (is_many step && matches steps [])
matches-nil (Point point) steps = refl
matches-nil One steps = refl
matches-nil Many steps = refl

pub matches-cons : (step : Step) (steps : List Step) (capture : ℕ) (rest : List ℕ) →
    matches (step ∷ steps) (capture ∷ rest) ≡ opens step capture (matches steps rest) (matches steps (capture ∷ rest)) (matches (step ∷ steps) rest)
matches-cons (Point point) steps capture rest = refl
matches-cons One steps capture rest = refl
matches-cons Many steps capture rest = refl

pub begun-nil : (steps : List Step) → begun steps [] ≡ 0
begun-nil [] = refl
begun-nil (Point point ∷ steps) = refl
begun-nil (One ∷ steps) = refl
begun-nil (Many ∷ steps) = refl

pub begun-cons : (step : Step) (steps : List Step) (capture : ℕ) (rest : List ℕ) → is_many step ≡ false → begun (step ∷ steps) (capture ∷ rest) ≡ cond (admits step capture) (suc (begun steps rest)) 0
begun-cons (Point point) steps capture rest h = refl
begun-cons One steps capture rest h = refl
begun-cons Many steps capture rest h = absurd (false≢true (sym h))

pub begun-many : (step : Step) (steps : List Step) (captures : List ℕ) → is_many step ≡ true → begun (step ∷ steps) captures ≡ length captures
begun-many (Point point) steps captures h = absurd (false≢true h)
begun-many One steps captures h = absurd (false≢true h)
begun-many Many steps captures h = refl

-- the positions from k on are those that are open
pub record OpenFrom (steps : List Step) (captures : List ℕ) (from : ℕ) (open_at : List Bool) : Type 0 where
  pub slots : length open_at ≡ 33
  pub each : (k : ℕ) → from ≤ k → k ≤ length steps → get_or open_at k false ≡ matches (drop k steps) captures

pub IsOpen-from_zero : (steps : List Step) (captures : List ℕ) (open_at : List Bool) → OpenFrom steps captures 0 open_at → IsOpen steps captures open_at
IsOpen-from_zero steps captures open_at o = record { slots = o.slots; each = λ k le. o.each k (omega arith) le }

open_below : (steps : List Step) (captures : List ℕ) (k : ℕ) (here : Bool) (open_at : List Bool) → OpenFrom steps captures (suc k) open_at → k < 33 → here ≡ matches (drop k steps) captures
    → (j : ℕ) → k ≤ j → j ≤ length steps → (j ≡ k) ⊎ (j ≢ k) → get_or (set open_at k here) j false ≡ matches (drop j steps) captures
open_below steps captures k here open_at o lt is j low high (inl same) =
    let wide : k < length open_at = omega (arith, o.slots) in
    ap (λ n. get_or (set open_at k here) n false) same
    ∙ get_or-set_same open_at k here false wide
    ∙ is
    ∙ ap (λ n. matches (drop n steps) captures) (sym same)
open_below steps captures k here open_at o lt is j low high (inr other) =
    get_or-set_other open_at k j here false other ∙ o.each j (omega (arith, other)) high

pub OpenFrom-below : (steps : List Step) (captures : List ℕ) (k : ℕ) (here : Bool) (open_at : List Bool) → OpenFrom steps captures (suc k) open_at → k < 33 → here ≡ matches (drop k steps) captures → OpenFrom steps captures k (set open_at k here)
OpenFrom-below steps captures k here open_at o lt is = record {
  slots = length-set open_at k here ∙ o.slots;
  each = λ j low high. open_below steps captures k here open_at o lt is j low high (cases_eq j k);
}

-- the position after all steps is open for no capture alone
drop-all : {X : Type 0} (xs : List X) → drop (length xs) xs ≡ []
drop-all [] = refl
drop-all (x ∷ xs) = drop-all xs

pub OpenFrom-end : (steps : List Step) (captures : List ℕ) (open_at : List Bool) → length open_at ≡ 33 → get_or open_at (length steps) false ≡ matches [] captures → OpenFrom steps captures (length steps) open_at
OpenFrom-end steps captures open_at wide at_end = record {
  slots = wide;
  each = λ k low high. let same : k ≡ length steps = omega arith in
      ap (λ n. get_or open_at n false) same ∙ at_end ∙ sym (ap (λ ss. matches ss captures) (ap (λ n. drop n steps) same ∙ drop-all steps));
}

-- the turn at step k, for no capture and for a capture and what follows
pub OpenFrom-nil : (steps : List Step) (n k : ℕ) (step : Step) (open_at : List Bool) (here : Bool) → n ≡ k + 1 → length steps ≤ 32 → slice_get steps k ≡ Some step → OpenFrom steps [] n open_at
    → here ≡ (is_many step && get_or open_at (k + 1) false)
    → OpenFrom steps [] k (set open_at k here)
OpenFrom-nil steps n k step open_at here turn most at o is =
    let within = slice_get_within steps k step at in
    let P : ℕ → Type 0 = λ m. OpenFrom steps [] m open_at in
    OpenFrom-below steps [] k here open_at (subst P (turn ∙ add-one k) o) (omega arith)
    (is
    ∙ ap (λ b. is_many step && b) (o.each (k + 1) (omega arith) (omega arith))
    ∙ sym (matches-nil step (drop (k + 1) steps))
    ∙ ap (λ ss. matches ss []) (sym (drop_at steps k step at)))

pub OpenFrom-cons : (steps : List Step) (capture : ℕ) (rest : List ℕ) (n k : ℕ) (step : Step) (after open_at : List Bool) (here : Bool) → n ≡ k + 1 → length steps ≤ 32 → slice_get steps k ≡ Some step → IsOpen steps rest after → OpenFrom steps (capture ∷ rest) n open_at
    → here ≡ opens step capture (get_or after (k + 1) false) (get_or open_at (k + 1) false) (get_or after k false)
    → OpenFrom steps (capture ∷ rest) k (set open_at k here)
OpenFrom-cons steps capture rest n k step after open_at here turn most at a o is =
    let within = slice_get_within steps k step at in
    let P : ℕ → Type 0 = λ m. OpenFrom steps (capture ∷ rest) m open_at in
    let next_after = a.each (k + 1) (omega arith) in
    let next = o.each (k + 1) (omega arith) (omega arith) in
    let own_after = a.each k (omega arith) ∙ ap (λ ss. matches ss rest) (drop_at steps k step at) in
    OpenFrom-below steps (capture ∷ rest) k here open_at (subst P (turn ∙ add-one k) o) (omega arith)
    (is
    ∙ ap (λ b. opens step capture b (get_or open_at (k + 1) false) (get_or after k false)) next_after
    ∙ ap (λ b. opens step capture (matches (drop (k + 1) steps) rest) b (get_or after k false)) next
    ∙ ap (λ b. opens step capture (matches (drop (k + 1) steps) rest) (matches (drop (k + 1) steps) (capture ∷ rest)) b) own_after
    ∙ sym (matches-cons step (drop (k + 1) steps) capture rest)
    ∙ ap (λ ss. matches ss (capture ∷ rest)) (sym (drop_at steps k step at)))

-- before the first turn
pub OpenFrom-nil_start : (steps : List Step) (end : ℕ) → end ≡ length steps → end ≤ 32 → OpenFrom steps [] end (set (replicate 33 false) end true)
OpenFrom-nil_start steps end same most =
    let P : ℕ → Type 0 = λ n. OpenFrom steps [] n (set (replicate 33 false) end true) in
    subst P (sym same)
    (OpenFrom-end steps [] (set (replicate 33 false) end true) (length-set (replicate 33 false) end true)
    (ap (λ n. get_or (set (replicate 33 false) end true) n false) (sym same) ∙ get_or-set_same (replicate 33 false) end true false (let wide : length (replicate 33 false) ≡ 33 = refl in omega arith)))

pub OpenFrom-cons_start : (steps : List Step) (capture : ℕ) (rest : List ℕ) (end : ℕ) → end ≡ length steps → end ≤ 32 → OpenFrom steps (capture ∷ rest) end (replicate 33 false)
OpenFrom-cons_start steps capture rest end same most =
    let P : ℕ → Type 0 = λ n. OpenFrom steps (capture ∷ rest) n (replicate 33 false) in
    subst P (sym same)
    (OpenFrom-end steps (capture ∷ rest) (replicate 33 false) refl (get_or-replicate 33 (length steps) false false (omega arith)))

pub IsOpen-from_last : (steps : List Step) (captures : List ℕ) (k : ℕ) (open_at : List Bool) → k ≤ 0 → OpenFrom steps captures k open_at → IsOpen steps captures open_at
IsOpen-from_last steps captures k open_at le o =
    let P : ℕ → Type 0 = λ n. OpenFrom steps captures n open_at in
    let zero_is : k ≡ 0 = omega arith in
    IsOpen-from_zero steps captures open_at (subst P zero_is o)
