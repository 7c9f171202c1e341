-- Groups that are closed: no summary that may still come is in their windows. Of what is still to come one knows
-- a test on times that falls: a time that passes it comes no more.
use Rattle.std.specs.Prelude.{ℕ, Bool, true, false, List, [], ◌∷◌, ◌++◌, ◌≡◌, ◌≤◌, ◌+◌, filter}
use Rattle.std.specs.List.{AllByRecursion}
use Rattle.ds_base.specs.Copies.{Copies}
use Rattle.ds_base.specs.Fronts.{upto}
use Rattle.ds_base.specs.declared.summary.Summary.{Summary}
use Rattle.window_grouper.specs.Groups.{groups_of}

-- what passes is before what fails
abbrev pub IsBound : (ℕ → Bool) → Type 0
IsBound p = (t u : ℕ) → t ≤ u → p u ≡ true → p t ≡ true

-- whether the first's time plus the window passes
abbrev pub ends_by : (ℕ → Bool) → ℕ → List Summary → Bool
ends_by p window [] = true
ends_by p window (f ∷ fs) = p (f.at.time + window)

-- whether the group is closed
abbrev pub is_closed : (ℕ → Bool) → ℕ → Copies → Bool
is_closed p window g = ends_by p window g.members

-- the summaries may still come
abbrev pub AreLate : (ℕ → Bool) → List Summary → Type 0
AreLate p ss = AllByRecursion (λ s. p s.at.time ≡ false) ss

-- the closed groups in front are the same, whatever comes later
abbrev pub ClosedStay : (ℕ → Bool) → ℕ → (l later : List Summary) → Type 0
ClosedStay p window l later = IsBound p → AreLate p later
    → upto (is_closed p window) (groups_of window (l ++ later)) ≡ upto (is_closed p window) (groups_of window l)

-- the groups of the summaries whose keys pass are the groups whose keys pass, in their order
abbrev pub ShardGroups : (List ℕ → Bool) → ℕ → List Summary → Type 0
ShardGroups test window l = groups_of window (filter (λ s. test s.key) l) ≡ filter (λ g. test g.key) (groups_of window l)
