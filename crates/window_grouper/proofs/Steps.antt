-- The groups of the program, seen as plain groups.
use Rattle.std.proofs.Common.{ℕ, zero, suc, true, false, List, [], ◌∷◌, ◌++◌, ◌≡◌, ◌+◌, ◌<◌, ◌≤◌, Some, refl, ap, subst, ◌∙◌, map, leb, Option}
use Rattle.std.specs.Prelude.{slice_get, slice_set}
use Rattle.std.specs.Option.{option_map}
use Rattle.std.proofs.lemmas.Bool.{lt-leb, le-leb}
use Rattle.std.proofs.lemmas.List.{map-set}
use Rattle.std.proofs.lemmas.Option.{slice_get-map}
use Rattle.ds_base.specs.Copies.{Copies, copies_of}
use Rattle.ds_base.specs.Items.{Items}
use Rattle.ds_base.specs.declared.summary.Summary.{Summary}
use Rattle.ds_base.specs.declared.summary.Group.{Group}
use Rattle.window_grouper.specs.Groups.{same_key}
use Rattle.window_grouper.specs.Placing.{members_take, takes, with_member, BeganAt, Slot, IsIndexOf}
use Rattle.window_grouper.proofs.Covers.{same_key-from}

pub shown_at : (xs : List Group) (i : ℕ) (x : Group) → slice_get xs i ≡ Some x → slice_get (map copies_of xs) i ≡ Some (copies_of x)
shown_at xs i x at = slice_get-map copies_of xs i ∙ ap (option_map copies_of) at

same_shown : (xs : List Group) (i : ℕ) (x : Group) (g : Copies) → slice_get xs i ≡ Some x → slice_get (map copies_of xs) i ≡ Some g
    → copies_of x ≡ g
same_shown xs i x g at shown = let there : slice_get (map copies_of xs) i ≡ Some (copies_of x) = shown_at xs i x at in cc

-- group i with one more member
pub joined : (xs : List Group) (i : ℕ) (x : Group) (members : Items Summary) (s : Summary) → slice_get xs i ≡ Some x
    → members.items ≡ x.members.items ++ s ∷ [] → (g : Copies) → slice_get (map copies_of xs) i ≡ Some g
    → map copies_of (slice_set xs i (record { key = x.key; members = members })) ≡ slice_set (map copies_of xs) i (with_member g s)
joined xs i x members s at pushed g shown =
    map-set copies_of xs i (record { key = x.key; members = members })
    ∙ ap (λ (m : List Summary). slice_set (map copies_of xs) i (record { key = x.key; members = m })) pushed
    ∙ ap (λ (k : Copies). slice_set (map copies_of xs) i (with_member k s)) (same_shown xs i x g at shown)

set_same : (gs : List Copies) (i : ℕ) (g : Copies) → slice_get gs i ≡ Some g → slice_set gs i g ≡ gs
set_same [] i g at = refl
set_same (k ∷ gs) zero g at = cc
set_same (k ∷ gs) (suc i) g at = ap (λ (hs : List Copies). k ∷ hs) (set_same gs i g at)

-- group i as it was, where its members are in other memory
pub refused : (xs : List Group) (i : ℕ) (x : Group) (members : Items Summary) → slice_get xs i ≡ Some x
    → members.items ≡ x.members.items → map copies_of (slice_set xs i (record { key = x.key; members = members })) ≡ map copies_of xs
refused xs i x members at same =
    map-set copies_of xs i (record { key = x.key; members = members })
    ∙ ap (λ (m : List Summary). slice_set (map copies_of xs) i (record { key = x.key; members = m })) same
    ∙ set_same (map copies_of xs) i (copies_of x) (shown_at xs i x at)

members_take_near : (window : ℕ) (key : List ℕ) (m : List Summary) (s : Summary) (t : ℕ) → BeganAt t m → key ≡ s.key
    → members_take window key m s ≡ leb s.at.time (t + window)
members_take_near window key [] s t began same = absurd began
members_take_near window key (f ∷ fs) s t began same =
    let own : same_key key s.key ≡ true = same_key-from key s.key same in
    rw own (ap (λ (n : ℕ). leb s.at.time (n + window)) began)

-- the group in the slot takes s exactly where the slot's time is near enough
takes_near : (window : ℕ) (slots : List ℕ → Option Slot) (gs : List Copies) (s : Summary) (b : Slot) (g : Copies) → IsIndexOf slots gs
    → slots s.key ≡ Some b → slice_get gs b.place ≡ Some g → takes window g s ≡ leb s.at.time (b.began + window)
takes_near window slots gs s b g index found at =
    let there = index s.key b found in
    let one : there.0 ≡ g = (let is : slice_get gs b.place ≡ Some there.0 = there.1 in cc) in
    subst (λ (k : Copies). takes window k s ≡ leb s.at.time (b.began + window)) one
    (members_take_near window there.0.key there.0.members s b.began there.3 there.2)

pub takes_within : (window : ℕ) (slots : List ℕ → Option Slot) (gs : List Copies) (s : Summary) (b : Slot) (g : Copies) → IsIndexOf slots gs
    → slots s.key ≡ Some b → slice_get gs b.place ≡ Some g → s.at.time ≤ b.began + window → takes window g s ≡ true
takes_within window slots gs s b g index found at near =
    takes_near window slots gs s b g index found at ∙ le-leb s.at.time (b.began + window) near

pub takes_not : (window : ℕ) (slots : List ℕ → Option Slot) (gs : List Copies) (s : Summary) → IsIndexOf slots gs
    → ((b : Slot) → slots s.key ≡ Some b → b.began + window < s.at.time) → (b : Slot) (g : Copies)
    → slots s.key ≡ Some b → slice_get gs b.place ≡ Some g → takes window g s ≡ false
takes_not window slots gs s index past b g found at =
    takes_near window slots gs s b g index found at ∙ lt-leb s.at.time (b.began + window) (past b found)
