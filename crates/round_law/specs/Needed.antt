-- No clause of `IsIdle` can be dropped: without it two nodes that are joined by one link stand still for ever.
use Rattle.std.specs.Prelude.{ℕ, ◌≡◌, ◌<◌, Bool, true, false, [], ◌∷◌, length}
use Rattle.round_law.specs.Links.{Sender, Receiver, has_finish, OpensNoFrame}
use Rattle.round_law.specs.Waits.{Node, PipeEnd, IsIdle, AnsweredIn, in_at, NoneWaits, Waits, IsDone}
use Rattle.round_law.specs.Waits.PipeEnd.{DataOut, CreditOut, DataIn, CreditIn}
use Rattle.round_law.specs.Rows.{IsOrderly, HasSoundEnds, OffersFew, AreCounted, Rests}
use Rattle.round_law.specs.Network.{IsNetwork, IsStillRound}

-- the clauses: it waits on some pipe end, it was sure of no byte of such an end of each of the four kinds, and the box
-- opens no frame
pub data Clause : Type 0 where
  SomeEnd : Clause
  NoRoom : Clause
  NoCoins : Clause
  NoItems : Clause
  NoSlots : Clause
  NoFrame : Clause

abbrev pub clause_of : PipeEnd → Clause
clause_of (DataOut k) = NoRoom
clause_of (CreditOut k) = NoCoins
clause_of (DataIn j) = NoItems
clause_of (CreditIn j) = NoSlots

-- `IsIdle` of a node that is after the turn as it was before, but for one clause
pub record IsIdleBut (clause : Clause) (credits : ℕ) (node : Node) : Type 0 where
  pub waits : ¬ (clause ≡ SomeEnd) → (end : PipeEnd) × Waits credits node end
  pub answered : (end : PipeEnd) → ¬ (clause ≡ clause_of end) → Waits credits node end → AnsweredIn node node end
  pub empty : ¬ (clause ≡ NoFrame) → NoneWaits node → (j : ℕ) → j < length node.ins → has_finish (in_at node j).given ≡ false → OpensNoFrame (in_at node j).box

-- a node with one link out, and one with one link in
abbrev pub sending : Sender → Node
sending s = record { read = 0; records = 0; wrote = 0; wrote_all = true; ins = []; outs = s ∷ [] }

abbrev pub receiving : Receiver → Node
receiving r = record { read = 0; records = 0; wrote = 0; wrote_all = true; ins = r ∷ []; outs = [] }

-- the two nodes, the one that sends at false
abbrev pub pair_of : Sender → Receiver → Bool → Node
pair_of s r false = sending s
pair_of s r true = receiving r

abbrev pub rank_of : Bool → ℕ
rank_of false = 0
rank_of true = 1

-- whatever else a still round has, it has, but no node is done
pub record IsStuckWithout (clause : Clause) (s : Sender) (r : Receiver) : Type 0 where
  pub network : IsNetwork (λ n. Unit {0}) rank_of 1 (pair_of s r)
  pub orderly : (n : Bool) → IsOrderly (pair_of s r n)
  pub few : (n : Bool) → OffersFew (pair_of s r n)
  pub sound : (n : Bool) → HasSoundEnds 1 (pair_of s r n)
  pub counted : (n : Bool) → AreCounted (pair_of s r n)
  pub idle : (n : Bool) → IsIdleBut clause 1 (pair_of s r n)
  pub open_yet : (n : Bool) → ¬ IsDone (pair_of s r n)

abbrev pub EachClauseIsNeeded : Clause → Type 0
EachClauseIsNeeded clause = (s : Sender) × (r : Receiver) × IsStuckWithout clause s r

-- all premises of a still round can be met together: by two nodes that are done
abbrev pub SomeRoundIsStill : Type 0
SomeRoundIsStill = (s : Sender) × (r : Receiver) × IsStillRound (λ (n : Bool). Unit {0}) rank_of 1 (pair_of s r) (pair_of s r)

-- and a node that waits for its first frame is idle
abbrev pub SomeNodeIsIdle : Type 0
SomeNodeIsIdle = (node : Node) × Rests 1 node node × IsIdle 1 node node
