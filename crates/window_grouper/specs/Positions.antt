-- Where the summaries of a list stand in it, counted from 0.
use Rattle.std.specs.Prelude.{ℕ, List, [], ◌∷◌, ◌≡◌, Some, slice_get}
use Rattle.ds_base.specs.declared.summary.Summary.{Summary}
use Rattle.window_grouper.specs.declared.order.Entry.{Entry}

-- these places of l hold the summaries ss, one after another
abbrev pub ArePlaces : List Summary → (places : List ℕ) → (ss : List Summary) → Type 0
ArePlaces l [] [] = Unit {0}
ArePlaces l [] (s ∷ ss) = ⊥
ArePlaces l (p ∷ ps) [] = ⊥
ArePlaces l (p ∷ ps) (s ∷ ss) = (slice_get l p ≡ Some s) × ArePlaces l ps ss

-- the entries are those of the summaries ss, one after another: the stamp of each, and its place in l
abbrev pub AreEntries : List Summary → List Entry → (ss : List Summary) → Type 0
AreEntries l [] [] = Unit {0}
AreEntries l [] (s ∷ ss) = ⊥
AreEntries l (e ∷ es) [] = ⊥
AreEntries l (e ∷ es) (s ∷ ss) = (e.at ≡ s.at) × (slice_get l e.position ≡ Some s) × AreEntries l es ss
