-- When the window of a group is over.
use Rattle.std.specs.Prelude.{ℕ, List, [], ◌∷◌, ◌≤◌, ◌<◌, ◌+◌}
use Rattle.ds_base.specs.Copies.{Copies}
use Rattle.ds_base.specs.declared.summary.Summary.{Summary}

-- the time is past the first member's time plus the window
abbrev pub EndsBefore : ℕ → ℕ → List Summary → Type 0
EndsBefore window time [] = ⊥
EndsBefore window time (f ∷ fs) = f.at.time + window < time

-- the time is at most the first member's time plus the window
abbrev pub ReachesTo : ℕ → ℕ → List Summary → Type 0
ReachesTo window time [] = ⊥
ReachesTo window time (f ∷ fs) = time ≤ f.at.time + window

-- the group's window is over at this time: no summary of this time or a later one is in it
abbrev pub IsOver : ℕ → ℕ → Copies → Type 0
IsOver window time g = EndsBefore window time g.members

-- the group's window is not over at this time
abbrev pub IsOpen : ℕ → ℕ → Copies → Type 0
IsOpen window time g = ReachesTo window time g.members

-- there is a first group, and its window is over
abbrev pub FirstIsOver : ℕ → ℕ → List Copies → Type 0
FirstIsOver window time [] = ⊥
FirstIsOver window time (g ∷ gs) = IsOver window time g

-- the window of the first group, if there is one, is not over
abbrev pub FirstIsOpen : ℕ → ℕ → List Copies → Type 0
FirstIsOpen window time [] = Unit {0}
FirstIsOpen window time (g ∷ gs) = IsOpen window time g

-- the first member is there, and its time is at most this
abbrev pub BegunBy : ℕ → List Summary → Type 0
BegunBy time [] = ⊥
BegunBy time (f ∷ fs) = f.at.time ≤ time
