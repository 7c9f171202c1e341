-- Nodes of one kind that have no more to do.
use Rattle.std.specs.Prelude.{ℕ, ◌≡◌, ◌<◌, Option, None, List, length, slice_index_or}
use Rattle.credit_link.specs.declared.turn.NodeFault.{NodeFault}
use Rattle.round_law.specs.Waits.{Node, IsDone}

-- the first n nodes of a list have met no fault, and each is done
abbrev pub AreDone : {N : Type 0} → (fault : N → Option NodeFault) → (shown : N → Node) → (n : ℕ) → List N → Type 0
AreDone {N = N} fault shown n nodes = (i : ℕ) (d : N) → i < n → (fault (slice_index_or nodes i d) ≡ None) × IsDone (shown (slice_index_or nodes i d))

-- some node of a list has met a fault, or is not done
abbrev pub SomeIsNotDone : {N : Type 0} → (fault : N → Option NodeFault) → (shown : N → Node) → List N → Type 0
SomeIsNotDone {N = N} fault shown nodes = (i : ℕ) × (i < length nodes) × ((d : N) → ¬ ((fault (slice_index_or nodes i d) ≡ None) × IsDone (shown (slice_index_or nodes i d))))
