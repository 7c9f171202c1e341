-- What a run comes to.
use Rattle.std.specs.Prelude.{ℕ, ◌≡◌, ◌⊎◌, Some}
use Rattle.credit_link.specs.declared.turn.NodeFault.{NodeFault}
use Rattle.round_law.specs.Waits.{IsDone}
use Rattle.round_law.specs.Pipeline.{EachNode}
use Rattle.round_law.specs.Measure.{ahead}
use Rattle.net_law.specs.Nets.{Net}
use Rattle.net_law.specs.Rounds.{view, NoneHasFault, captures_of}
use Rattle.run_rounds.specs.Faults.{fault_at}
use Rattle.run_rounds.specs.declared.node_at.NodeAt.{NodeAt}

-- no node has met a fault, and each is done
abbrev pub AllAreDone : Net → Type 0
AllAreDone net = NoneHasFault net × EachNode IsDone (view net)

-- how many bytes, records, frames and credits are at most still to move
abbrev pub ahead_of : Net → ℕ
ahead_of net = ahead (captures_of net) (view net)

-- A turn met this fault, at a state that others had come to without one. Such nodes are seen as a net; some facts go on
-- over turns and looks, and a cause ties the states before and after a turn to the node and its fault.
pub record MeetsFirst (N : Type 0) (net : N → Net) (Goes : N → N → Type 0) (Meets : N → N → ℕ → NodeFault → Type 0) (start after : N) (at : NodeAt) : Type 0 where
  pub before : N
  pub goes : Goes start before
  pub quiet : NoneHasFault (net before)
  pub meets : Meets before after at.node at.fault

-- a node had the fault from the start, and took no turn; or a turn met it
abbrev pub HadOrMeets : (N : Type 0) (net : N → Net) (Goes : N → N → Type 0) (Meets : N → N → ℕ → NodeFault → Type 0) (start after : N) → NodeAt → Type 0
HadOrMeets N net Goes Meets start after at = ((after ≡ start) × (fault_at (net start) at.node ≡ Some at.fault)) ⊎ MeetsFirst N net Goes Meets start after at
