-- The groups of a list of summaries: for each key the cut of its summaries.
use Rattle.std.specs.Prelude.{ℕ, Bool, List, [], ◌∷◌, ◌≡◌, ◌<◌, ◌+◌, ◌&&◌, nat_eq, nat_le, filter, length, map, if◌then◌else◌}
use Rattle.std.specs.List.{AllByRecursion, list_any, sum_by}
use Rattle.std.specs.Cmp.Lexicographic.{pointwise}
use Rattle.ds_base.specs.Copies.{Copies}
use Rattle.ds_base.specs.Order.{InStampOrder}
use Rattle.ds_base.specs.declared.summary.Summary.{Summary}
use Rattle.window_grouper.specs.Cut.{IsCut, IsWithin, firsts}

-- whether two keys are the same numbers
abbrev pub same_key : List ℕ → List ℕ → Bool
same_key = pointwise nat_eq

-- the summaries with this key
abbrev pub with_key : List ℕ → List Summary → List Summary
with_key key l = filter (λ s. same_key s.key key) l

-- the members of each group
abbrev pub members_of : List Copies → List (List Summary)
members_of gs = map (λ g. g.members) gs

-- the groups with this key
abbrev pub groups_with : List ℕ → List Copies → List Copies
groups_with key gs = filter (λ g. same_key g.key key) gs

-- the groups with each key are the cut of the summaries with that key, and all groups stand in the
-- order of their firsts' stamps
pub record IsGroups (window : ℕ) (l : List Summary) (gs : List Copies) : Type 0 where
  pub cuts : (key : List ℕ) → IsCut window (with_key key l) (members_of (groups_with key gs))
  pub ordered : InStampOrder (firsts (members_of gs))

-- whether a group whose first is f takes s
abbrev pub covers : ℕ → Summary → Summary → Bool
covers window f s = same_key f.key s.key && nat_le s.at.time (f.at.time + window)

-- whether a group with one of these firsts takes s
abbrev pub is_covered : ℕ → List Summary → Summary → Bool
is_covered window fs s = list_any (λ f. covers window f s) fs

-- the groups that begin in l, behind those with the firsts fs: a summary that one of these takes is
-- passed over, and any other begins a group with all later ones that this takes
abbrev pub groups_behind : ℕ → List Summary → List Summary → List Copies
groups_behind window fs [] = []
groups_behind window fs (s ∷ l) = if is_covered window fs s then groups_behind window fs l
    else record { key = s.key; members = s ∷ filter (covers window s) l } ∷ groups_behind window (s ∷ fs) l

-- the groups of l
abbrev pub groups_of : ℕ → List Summary → List Copies
groups_of window l = groups_behind window [] l

-- the groups of a list in stamp order are the one list that meets the relation
abbrev pub OneGrouping : ℕ → List Summary → Type 0
OneGrouping window l = InStampOrder l
    → IsGroups window l (groups_of window l) × ((hs : List Copies) → IsGroups window l hs → hs ≡ groups_of window l)

-- a group has a member, and its members have its key, in stamp order and within the window of the first
pub record IsGroup (window : ℕ) (g : Copies) : Type 0 where
  pub filled : 0 < length g.members
  pub one_key : AllByRecursion (λ m. m.key ≡ g.key) g.members
  pub ordered : InStampOrder g.members
  pub within : IsWithin window g.members

-- how many members the groups have in all
abbrev pub members_in : List Copies → ℕ
members_in gs = sum_by (λ g. length g.members) gs

-- each of the groups of a list in stamp order is such a group, and they have as many members as the list has summaries
abbrev pub AllGrouped : ℕ → List Summary → Type 0
AllGrouped window l = InStampOrder l
    → AllByRecursion (IsGroup window) (groups_of window l) × (members_in (groups_of window l) ≡ length l)
