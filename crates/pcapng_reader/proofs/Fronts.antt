-- What stands at the front of bytes stays when bytes follow.
use Rattle.std.proofs.Common.{◌≡◌, ◌≤◌, ◌<◌, ℕ, List, ◌++◌, length, take, true, false, refl, sym, ap, ◌∙◌, arith, length-append, inl, inr, Option, Some, None, Result, Ok, Err}
use Rattle.std.specs.Prelude.{nat_lt, ◌⊎◌}
use Rattle.std.proofs.lemmas.Bool.{cases_lt}
use Rattle.std.proofs.lemmas.Bool.Decides.{nat_tests}
use Rattle.std.proofs.lemmas.List.{take-append-le}
use Rattle.ds_base.specs.declared.capture.Bad.{Bad}
use Rattle.pcapng_reader.specs.declared.head.Head.{Head}
use Rattle.pcapng_reader.specs.State.{State, Block}
use Rattle.pcapng_reader.specs.Blocks.{head_of}
use Rattle.pcapng_reader.specs.Steps.{step_by_head, step}

pub below : (n m : ℕ) → n < m → nat_lt n m ≡ true
below n m h = grind (arith, nat_tests)

pub above : (n m : ℕ) → m ≤ n → nat_lt n m ≡ false
above n m h = grind (arith, nat_tests)

-- it is not yet told, or whatever bytes follow it stays
abbrev pub Stays : State → List ℕ → Type 0
Stays state xs = (step state xs ≡ Ok None) ⊎ ((ys : List ℕ) → step state (xs ++ ys) ≡ step state xs)

head_stays : (state : State) (r : Result Head Bad) (xs : List ℕ)
    → (step_by_head state r xs ≡ Ok None) ⊎ ((ys : List ℕ) → step_by_head state r (xs ++ ys) ≡ step_by_head state r xs)
head_stays state (Err bad) xs = inr (λ ys. refl)
head_stays state (Ok head) xs =
    elim (cases_lt (length xs) head.total) [
      | inl few ↦ inl (rw (below (length xs) head.total few) refl)
      | inr whole ↦ inr (λ ys. rw (above (length xs) head.total whole, above (length (xs ++ ys)) head.total (omega (arith, whole, length-append xs ys)), take-append-le head.total xs ys whole) refl)
    ]

step_short : (state : State) (xs : List ℕ) → length xs < 12 → step state xs ≡ Ok None
unfolding step
step_short state xs few = rw (below (length xs) 12 few) refl

step_long : (state : State) (xs : List ℕ) → 12 ≤ length xs → step state xs ≡ step_by_head state (head_of state.order state.place (take 12 xs)) xs
unfolding step
step_long state xs long = rw (above (length xs) 12 long) refl

step_more : (state : State) (xs ys : List ℕ) → 12 ≤ length xs
    → step state (xs ++ ys) ≡ step_by_head state (head_of state.order state.place (take 12 xs)) (xs ++ ys)
step_more state xs ys long =
    step_long state (xs ++ ys) (omega (arith, long, length-append xs ys))
    ∙ ap (λ (zs : List ℕ). step_by_head state (head_of state.order state.place zs) (xs ++ ys)) (take-append-le 12 xs ys long)

pub stays : (state : State) (xs : List ℕ) → Stays state xs
stays state xs =
    elim (cases_lt (length xs) 12) [
      | inl few ↦ inl (step_short state xs few)
      | inr long ↦
          elim (head_stays state (head_of state.order state.place (take 12 xs)) xs) [
            | inl none ↦ inl (step_long state xs long ∙ none)
            | inr same ↦ inr (λ ys. step_more state xs ys long ∙ same ys ∙ sym (step_long state xs long))
          ]
    ]

-- the answers differ
block_none : (block : Block) (r : Result (Option Block) Bad) → r ≡ Ok (Some block) → r ≡ Ok None → ⊥
block_none block r e h = cc

fault_none : (b : Bad) (r : Result (Option Block) Bad) → r ≡ Err b → r ≡ Ok None → ⊥
fault_none b r e h = cc

pub step_block : (state : State) (block : Block) (xs ys : List ℕ) → step state xs ≡ Ok (Some block) → step state (xs ++ ys) ≡ Ok (Some block)
step_block state block xs ys e =
    elim (stays state xs) [
      | inl none ↦ absurd (block_none block (step state xs) e none)
      | inr same ↦ same ys ∙ e
    ]

pub step_fault : (state : State) (b : Bad) (xs ys : List ℕ) → step state xs ≡ Err b → step state (xs ++ ys) ≡ Err b
step_fault state b xs ys e =
    elim (stays state xs) [
      | inl none ↦ absurd (fault_none b (step state xs) e none)
      | inr same ↦ same ys ∙ e
    ]
