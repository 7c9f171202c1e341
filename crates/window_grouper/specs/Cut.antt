-- The cut of a list of summaries by a window: one group after another, none longer than the window.
use Rattle.std.specs.Prelude.{ℕ, List, [], ◌∷◌, ◌≡◌, ◌≤◌, ◌<◌, ◌+◌}
use Rattle.std.specs.List.{AllByRecursion, flat_map}
use Rattle.ds_base.specs.declared.summary.Summary.{Summary}

-- the first member of each group
abbrev pub firsts : List (List Summary) → List Summary
firsts [] = []
firsts ([] ∷ gs) = firsts gs
firsts ((s ∷ ss) ∷ gs) = s ∷ firsts gs

-- the group has a member
abbrev pub IsFilled : List Summary → Type 0
IsFilled [] = ⊥
IsFilled (s ∷ ss) = Unit {0}

-- each member's time is at most the first's time plus the window
abbrev pub IsWithin : ℕ → List Summary → Type 0
IsWithin window [] = Unit {0}
IsWithin window (s ∷ ss) = AllByRecursion (λ m. m.at.time ≤ s.at.time + window) (s ∷ ss)

-- the first of these times exceeds t by more than the window, and each other the one before it
abbrev pub RiseFrom : ℕ → ℕ → List Summary → Type 0
RiseFrom window t [] = Unit {0}
RiseFrom window t (s ∷ ss) = (t + window < s.at.time) × RiseFrom window s.at.time ss

-- each time exceeds the one before it by more than the window
abbrev pub AreApart : ℕ → List Summary → Type 0
AreApart window [] = Unit {0}
AreApart window (s ∷ ss) = RiseFrom window s.at.time ss

-- the groups gs are the cut of l: none is empty, joined they are l, each is within the window, and each
-- begins more than the window after the one before it
pub record IsCut (window : ℕ) (l : List Summary) (gs : List (List Summary)) : Type 0 where
  pub filled : AllByRecursion IsFilled gs
  pub joined : flat_map (λ g. g) gs ≡ l
  pub within : AllByRecursion (IsWithin window) gs
  pub apart : AreApart window (firsts gs)

-- one list of groups is the cut of l, and no other
abbrev pub OneCut : ℕ → List Summary → Type 0
OneCut window l = (gs : List (List Summary)) × IsCut window l gs × ((hs : List (List Summary)) → IsCut window l hs → hs ≡ gs)
