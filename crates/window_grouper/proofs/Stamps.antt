-- The order of two stamps, as the contracts and as the program say it.
use Rattle.std.proofs.Common.{true, false, ◌≡◌, ◌<◌, ◌≤◌, ◌⊎◌, refl, sym, arith, inl, inr}
use Rattle.std.specs.Ordering.{MatchOrdering, nat_cmp, ordering_then}
use Rattle.std.specs.declared.cmp.Ordering.{Ordering}
use Rattle.std.specs.declared.cmp.Ordering.TheVariants.{Less, Equal, Greater}
use Rattle.std.proofs.lemmas.Bool.Decides.{nat_tests}
use Rattle.std.proofs.lemmas.Cmp.{ranked}
use Rattle.ds_base.specs.Order.{Precedes}
use Rattle.ds_base.specs.contracts.stamp.StampOrd.TheImpl as stamp_order
use Rattle.ds_base.specs.declared.stamp.Stamp.{Stamp}
use Rattle.window_grouper.specs.Sorted.{is_before}

-- the order that the program compares stamps by
abbrev pub stamp_cmp : Stamp → Stamp → Ordering
stamp_cmp = (stamp_order.ghosts).cmp

-- the two stamps are of one time, capture and number
abbrev pub IsSame : Stamp → Stamp → Type 0
IsSame a b = (a.time ≡ b.time) × ((a.capture ≡ b.capture) × (a.number ≡ b.number))

-- ---- the relation

pub precedes_trans : (a b c : Stamp) → Precedes a b → Precedes b c → Precedes a c
precedes_trans a b c h k = grind arith

pub not_both_ways : (a b : Stamp) → Precedes a b → Precedes b a → ⊥
not_both_ways a b h k = grind arith

-- ---- the test `is_before`

pub before_true : (a b : Stamp) → Precedes a b → is_before a b ≡ true
before_true a b h = grind (arith, nat_tests)

pub before_false : (a b : Stamp) → Precedes b a → is_before a b ≡ false
before_false a b h = grind (arith, nat_tests)

-- what is before is no later
pub before_time : (a b : Stamp) → is_before a b ≡ true → a.time ≤ b.time
before_time a b h = grind (arith, nat_tests)

-- ---- the program's order

-- one order and then another, where the first says P, Q or R and the second S, T or U
then_ranked : (o p : Ordering) (P Q Q' R S T U : Type 0) → (Q → Q') → MatchOrdering o P Q R → MatchOrdering p S T U
    → MatchOrdering (ordering_then o p) (P ⊎ (Q × S)) (Q × T) (R ⊎ (Q' × U))
then_ranked Less p P Q Q' R S T U back h k = inl h
then_ranked Equal Less P Q Q' R S T U back h k = inr (h, k)
then_ranked Equal Equal P Q Q' R S T U back h k = (h, k)
then_ranked Equal Greater P Q Q' R S T U back h k = inr (back h, k)
then_ranked Greater p P Q Q' R S T U back h k = inl h

-- what the order answers says which of two stamps is before the other
pub stamps_ranked : (a b : Stamp)
    → MatchOrdering (stamp_cmp a b) (Precedes a b) (IsSame a b) (Precedes b a)
stamps_ranked a b =
    then_ranked (nat_cmp a.time b.time) (ordering_then (nat_cmp a.capture b.capture) (nat_cmp a.number b.number))
    (a.time < b.time) (a.time ≡ b.time) (b.time ≡ a.time) (b.time < a.time)
    ((a.capture < b.capture) ⊎ ((a.capture ≡ b.capture) × (a.number < b.number)))
    ((a.capture ≡ b.capture) × (a.number ≡ b.number))
    ((b.capture < a.capture) ⊎ ((b.capture ≡ a.capture) × (b.number < a.number)))
    sym
    (ranked a.time b.time (nat_cmp a.time b.time) refl)
    (then_ranked (nat_cmp a.capture b.capture) (nat_cmp a.number b.number)
    (a.capture < b.capture) (a.capture ≡ b.capture) (b.capture ≡ a.capture) (b.capture < a.capture)
    (a.number < b.number) (a.number ≡ b.number) (b.number < a.number)
    sym
    (ranked a.capture b.capture (nat_cmp a.capture b.capture) refl)
    (ranked a.number b.number (nat_cmp a.number b.number) refl))

less_from : (o : Ordering) (P Q R : Type 0) → MatchOrdering o P Q R → (Q → ⊥) → (R → ⊥) → o ≡ Less
less_from Less P Q R h q r = refl
less_from Equal P Q R h q r = absurd (q h)
less_from Greater P Q R h q r = absurd (r h)

greater_from : (o : Ordering) (P Q R : Type 0) → MatchOrdering o P Q R → (P → ⊥) → (Q → ⊥) → o ≡ Greater
greater_from Less P Q R h p q = absurd (p h)
greater_from Equal P Q R h p q = absurd (q h)
greater_from Greater P Q R h p q = refl

one_stamp : (a b : Stamp) → Precedes a b → IsSame a b → ⊥
one_stamp a b h k = grind arith

other_stamp : (a b : Stamp) → Precedes b a → IsSame a b → ⊥
other_stamp a b h k = grind arith

pub cmp_less : (a b : Stamp) → Precedes a b → stamp_cmp a b ≡ Less
cmp_less a b h =
    less_from (stamp_cmp a b) (Precedes a b) (IsSame a b) (Precedes b a)
    (stamps_ranked a b) (one_stamp a b h) (not_both_ways a b h)

pub cmp_greater : (a b : Stamp) → Precedes b a → stamp_cmp a b ≡ Greater
cmp_greater a b h =
    greater_from (stamp_cmp a b) (Precedes a b) (IsSame a b) (Precedes b a)
    (stamps_ranked a b) (not_both_ways b a h) (other_stamp a b h)
