-- What turns leave of nodes, whatever other nodes do meanwhile.
use Rattle.std.specs.Prelude.{ℕ, ◌≡◌, ◌<◌, ◌≤◌, Option, Some, None, List, length, slice_index_or}
use Rattle.credit_link.specs.declared.turn.NodeFault.{NodeFault}
use Rattle.round_law.specs.Waits.{Node}
use Rattle.round_law.specs.Rows.{moved}

module _ (N : Type 0) (Stands : N → Type 0) (Goes : N → N → Type 0) (Meets : N → N → NodeFault → Type 0) (fault : N → Option NodeFault) (Tells : N → Type 0) (shown : N → Node) where
  -- a turn met this fault, at a state that others had come to without one, and nothing was done after it
  pub record MetFirst (before after : N) (bad : NodeFault) : Type 0 where
    pub mid : N
    pub goes : Goes before mid
    pub quiet : fault mid ≡ None
    pub last : Goes mid after
    pub meets : Meets mid after bad

  -- A node went on by turns, none or more, and keeps its promise. After a fault it does nothing; where it has met none, the
  -- count of what it has moved has not fallen.
  pub record Went (before after : N) : Type 0 where
    pub goes : Goes before after
    pub stands : Stands before → Stands after
    pub same : (bad : NodeFault) → fault before ≡ Some bad → after ≡ before
    pub met : fault before ≡ None → (bad : NodeFault) → fault after ≡ Some bad → MetFirst before after bad
    pub rises : Tells before → fault after ≡ None → moved (shown before) ≤ moved (shown after)

-- item by item
pub record Each {X : Type 0} (R : X → X → Type 0) (before after : List X) : Type 0 where
  pub as_many : length after ≡ length before
  pub each : (i : ℕ) (d : X) → i < length before → R (slice_index_or before i d) (slice_index_or after i d)
