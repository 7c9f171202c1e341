-- The merge between turns.
use Rattle.std.specs.Prelude.{ℕ, ◌≡◌, Option, None}
use Rattle.credit_link.specs.declared.turn.NodeFault.{NodeFault}
use Rattle.net_law.specs.Merges.{MergeSeen, MergeStands, MergeRests}
use Rattle.result_merge.specs.Works.{WorkSeen, merge_of, IsSound}

-- the merge, and the name of the reference to its sink, by which whoever lent the sink knows it again
pub record MergeLent : Type 0 where
  pub merge : MergeSeen
  pub lent : ℕ

abbrev pub lent_of : WorkSeen → Option NodeFault → MergeLent
lent_of w fault = record { merge = merge_of w fault; lent = w.lent }

-- it keeps its promise; and as long as it met no fault its work is sound, and all lines that may be written are written
pub record NodeHolds (w : WorkSeen) (fault : Option NodeFault) : Type 0 where
  pub stands : MergeStands (merge_of w fault)
  pub sound : fault ≡ None → IsSound w
  pub rests : fault ≡ None → MergeRests (merge_of w None)
