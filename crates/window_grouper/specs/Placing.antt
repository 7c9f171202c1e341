-- How one more summary, in stamp order, finds its group among those that are held.
use Rattle.std.specs.Prelude.{ℕ, Bool, false, List, [], ◌∷◌, ◌++◌, ◌≡◌, ◌<◌, ◌+◌, ◌-◌, ◌%◌, ◌^◌, ◌⊎◌, ◌&&◌, Option, Some, nat_le, map, slice_get, if◌then◌else◌}
use Rattle.std.specs.List.{list_any, AllByRecursion}
use Rattle.std.specs.Option.{option_map}
use Rattle.ds_base.specs.Copies.{Copies, copies_of}
use Rattle.ds_base.specs.declared.summary.Group.{Group}
use Rattle.ds_base.specs.declared.summary.Summary.{Summary}
use Rattle.window_grouper.specs.declared.newest.Begun.{Begun}
use Rattle.window_grouper.specs.declared.newest.Newest.{Newest}
use Rattle.window_grouper.specs.Groups.{same_key}
use Rattle.window_grouper.specs.Newest.{newest_of}
use Rattle.window_grouper.specs.Over.{EndsBefore, BegunBy}

-- the groups of a list without where they lie in memory
abbrev pub shown : List Group → List Copies
shown groups = map copies_of groups

-- whether a group with this key and these members takes s
abbrev pub members_take : ℕ → List ℕ → List Summary → Summary → Bool
members_take window key [] s = false
members_take window key (f ∷ fs) s = same_key key s.key && nat_le s.at.time (f.at.time + window)

-- whether a group takes s: s has its key and is in the window of its first
abbrev pub takes : ℕ → Copies → Summary → Bool
takes window g s = members_take window g.key g.members s

-- the group with s behind its members
abbrev pub with_member : Copies → Summary → Copies
with_member g s = record { key = g.key; members = g.members ++ s ∷ [] }

-- the group of s alone
abbrev pub single : Summary → Copies
single s = record { key = s.key; members = s ∷ [] }

-- the group after s came, which it takes or not
abbrev pub grown : ℕ → Summary → Copies → Copies
grown window s g = if takes window g s then with_member g s else g

-- the groups after s came: those that take it have it, and where none does it is one more group
abbrev pub placed : ℕ → Summary → List Copies → List Copies
placed window s gs = if list_any (λ g. takes window g s) gs then map (grown window s) gs
    else map (grown window s) gs ++ single s ∷ []

-- the first member's time
abbrev pub BeganAt : ℕ → List Summary → Type 0
BeganAt t [] = ⊥
BeganAt t (f ∷ fs) = f.at.time ≡ t

-- no group began behind this time
abbrev pub HaveBegun : ℕ → List Copies → Type 0
HaveBegun time gs = AllByRecursion (λ g. BegunBy time g.members) gs

-- the place among the groups held, from 0, of the group with this number, where `given` groups were given
-- out: both count modulo 2^64
abbrev pub place_of : ℕ → ℕ → ℕ
place_of given number = (number + (2 ^ 64 - given)) % 2 ^ 64

-- where a group stands among those held, and its first's time
pub record Slot : Type 0 where
  pub place : ℕ
  pub began : ℕ

-- where the newest group with the key stands, if there is a group with it
abbrev pub slot_of : ℕ → Newest → List ℕ → Option Slot
slot_of given newest key =
    option_map (λ (b : Begun). record { place = place_of given b.number; began = b.time }) (newest_of newest key)

-- in each slot is a group with its key and its first's time
abbrev pub IsIndexOf : (List ℕ → Option Slot) → List Copies → Type 0
IsIndexOf slots gs = (key : List ℕ) (b : Slot) → slots key ≡ Some b
    → (g : Copies) × (slice_get gs b.place ≡ Some g) × (g.key ≡ key) × BeganAt b.began g.members

-- each group is the newest with its key, or was over when that began
abbrev pub HasNewest : ℕ → (List ℕ → Option Slot) → List Copies → Type 0
HasNewest window slots gs = (i : ℕ) (g : Copies) → slice_get gs i ≡ Some g
    → (b : Slot) × (slots g.key ≡ Some b) × ((b.place ≡ i) ⊎ ((i < b.place) × EndsBefore window b.began g.members))

-- the index is that of the groups held, where `given` groups were given out
pub record IsSound (window given : ℕ) (newest : Newest) (gs : List Copies) : Type 0 where
  pub numbers : (key : List ℕ) (b : Begun) → newest_of newest key ≡ Some b → b.number < 2 ^ 64
  pub index : IsIndexOf (slot_of given newest) gs
  pub last : HasNewest window (slot_of given newest) gs
