-- Rounds of the pipeline in which no node moved, and its end.
use Rattle.std.specs.Prelude.{ℕ}
use Rattle.round_law.specs.Links.{AreJoined, ComesThrough, IsSettled}
use Rattle.round_law.specs.Waits.{IsDone}
use Rattle.round_law.specs.Rows.{HasSoundEnds, Rests}
use Rattle.round_law.specs.Pipeline.{Net, Place, node_of, IsIn, IsAlike, EachNode, EachLink, IsSound}
use Rattle.round_law.specs.Measure.{IsInLimits, IsLimited}

-- a round that began with a look, and in which each node answered Idle or Done
pub record IsQuietRound (captures credits : ℕ) (before after : Net) : Type 0 where
  pub limits : IsInLimits captures before
  pub sound : IsSound credits before
  pub joined : EachLink (AreJoined credits) before
  pub limited : IsLimited captures before
  pub alike : IsAlike before after
  pub ends : (place : Place) → IsIn before place → HasSoundEnds credits (node_of after place)
  pub rests : (place : Place) → IsIn before place → Rests credits (node_of before place) (node_of after place)

-- then all nodes are done, and were before it
abbrev pub QuietIsDone : (captures credits : ℕ) (before after : Net) → Type 0
QuietIsDone captures credits before after = IsQuietRound captures credits before after
    → (place : Place) → IsIn before place → IsDone (node_of before place) × IsDone (node_of after place)

-- and each link is settled, and was
abbrev pub QuietIsSettled : (captures credits : ℕ) (before after : Net) → Type 0
QuietIsSettled captures credits before after = IsQuietRound captures credits before after → EachLink IsSettled before × EachLink IsSettled after

-- where all nodes are done, each link is settled
abbrev pub AllDoneIsSettled : (captures credits : ℕ) → Net → Type 0
AllDoneIsSettled captures credits net = IsInLimits captures net → IsSound credits net → EachLink ComesThrough net → IsLimited captures net
    → EachNode IsDone net → EachLink IsSettled net
