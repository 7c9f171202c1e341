-- Networks of nodes: each link leads from a node to one of a higher rank.
use Rattle.std.specs.Prelude.{ℕ, ◌<◌, length}
use Rattle.round_law.specs.Links.{AreJoined}
use Rattle.round_law.specs.Waits.{Node, in_at, out_at, IsDone}
use Rattle.round_law.specs.Rows.{IsOrderly, HasSoundEnds, AreCounted, Rests}

-- link out k of node n is link in j of node m, whose rank is higher, and its ends are joined
pub record Leads {N : Type 0} (IsThere : N → Type 0) (rank : N → ℕ) (credits : ℕ) (node_at : N → Node) (n : N) (k : ℕ) (m : N) (j : ℕ) : Type 0 where
  pub from : IsThere n
  pub out : k < length (node_at n).outs
  pub to : IsThere m
  pub into : j < length (node_at m).ins
  pub rises : rank n < rank m
  pub joined : AreJoined credits (out_at (node_at n) k) (in_at (node_at m) j)

-- each link out leads to a node, and each link in comes from one; no rank is as high as the top
pub record IsNetwork {N : Type 0} (IsThere : N → Type 0) (rank : N → ℕ) (credits : ℕ) (node_at : N → Node) : Type 0 where
  pub top : ℕ
  pub below : (n : N) → IsThere n → rank n < top
  pub outs : (n : N) → IsThere n → (k : ℕ) → k < length (node_at n).outs → (m : N) × (j : ℕ) × Leads IsThere rank credits node_at n k m j
  pub ins : (m : N) → IsThere m → (j : ℕ) → j < length (node_at m).ins → (n : N) × (k : ℕ) × Leads IsThere rank credits node_at n k m j

-- a round that began with a look, and in which each node answered Idle or Done
pub record IsStillRound {N : Type 0} (IsThere : N → Type 0) (rank : N → ℕ) (credits : ℕ) (before after : N → Node) : Type 0 where
  pub network : IsNetwork IsThere rank credits before
  pub orderly : (n : N) → IsThere n → IsOrderly (before n)
  pub sound : (n : N) → IsThere n → HasSoundEnds credits (before n)
  pub sound_after : (n : N) → IsThere n → HasSoundEnds credits (after n)
  pub counted : (n : N) → IsThere n → AreCounted (before n)
  pub counted_after : (n : N) → IsThere n → AreCounted (after n)
  pub rests : (n : N) → IsThere n → Rests credits (before n) (after n)

-- then each node is done, and was before the round
abbrev pub StillIsDone : {N : Type 0} (IsThere : N → Type 0) (rank : N → ℕ) (credits : ℕ) (before after : N → Node) → Type 0
StillIsDone {N} IsThere rank credits before after =
    IsStillRound IsThere rank credits before after → (n : N) → IsThere n → IsDone (before n) × IsDone (after n)
