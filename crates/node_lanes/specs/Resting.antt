-- A node after a pass in which nothing moved.
use Rattle.std.specs.Prelude.{ℕ, ◌≡◌, ◌<◌, Bool, false, IsTrue, List, [], All, length, slice_index_or}
use Rattle.credit_link.specs.Frames.{has_finish}
use Rattle.credit_link.specs.Ends.{TxSeen, RxSeen}
use Rattle.credit_link.specs.Ahead.{IsPart}
use Rattle.shuffle_poll.specs.Shuffles.{ShuffleSeen, lane_of, IsSettled}
use Rattle.round_law.specs.Links.{HasTakenAll}
use Rattle.round_law.specs.Views.{receiver_view}
use Rattle.round_law.specs.Waits.{Node}
use Rattle.node_lanes.specs.Ends.{put_on, senders_of, receivers_of, InsStand, OutsStand}
use Rattle.node_lanes.specs.Passes.{InsRest, OutsRest}

-- the node by its ends, what it has read and written, and whether it has written all
abbrev pub node_with : (read records wrote : ℕ) → Bool → List RxSeen → ShuffleSeen → Node
node_with read records wrote wrote_all ins outs =
    record { read = read; records = records; wrote = wrote; wrote_all = wrote_all; ins = receivers_of ins; outs = senders_of outs }

-- a node without links out
abbrev pub no_outs : ShuffleSeen
no_outs = record { links = []; queues = [] }

-- no frame waits on its links out
abbrev pub NoneHeld : ShuffleSeen → Type 0
NoneHeld outs = (k : ℕ) → slice_index_or outs.queues k [] ≡ []

-- Finish was taken on each link in
abbrev pub AllEnded : List RxSeen → Type 0
AllEnded ins = All (λ (r : RxSeen). IsTrue (has_finish r.given)) ins

-- on each link in Finish was taken and no credit is owed; each link out has nothing more to do
abbrev pub HasTakenEach : List RxSeen → Type 0
HasTakenEach ins = All (λ (r : RxSeen). HasTakenAll (receiver_view r)) ins

abbrev pub IsSettledEach : ShuffleSeen → Type 0
IsSettledEach outs = (k : ℕ) (d : TxSeen) → k < length outs.links → IsSettled (lane_of outs k d)

-- some link in, or some link out, is not so far
abbrev pub SomeToTake : List RxSeen → Type 0
SomeToTake ins = (j : ℕ) × (j < length ins) × ((d : RxSeen) → ¬ HasTakenAll (receiver_view (slice_index_or ins j d)))

abbrev pub SomeToSettle : ShuffleSeen → Type 0
SomeToSettle outs = (k : ℕ) × (k < length outs.links) × ((d : TxSeen) → ¬ IsSettled (lane_of outs k d))

-- A pass of a node in which nothing moved, from how it stood when the turn began to how it stands now. Where no frame
-- waits, no whole frame is in the box of a link in that goes on, and once all links in have ended, Finish was put for
-- each link out.
pub record HasRested (number : ℕ) (ins ins' : List RxSeen) (outs outs' : ShuffleSeen) : Type 0 where
  pub as_many : (length ins' ≡ length ins) × (length outs'.links ≡ length outs.links)
  pub ins_rest : InsRest ins ins'
  pub outs_rest : OutsRest outs outs'
  pub ins_stand : InsStand number ins'
  pub outs_stand : OutsStand number outs'
  pub empty : NoneHeld outs' → (j : ℕ) (d : RxSeen) → j < length ins' → has_finish (slice_index_or ins' j d).given ≡ false → IsPart (slice_index_or ins' j d).box
  pub ended : NoneHeld outs' → AllEnded ins' → (k : ℕ) → k < length outs'.links → IsTrue (has_finish (put_on outs' k))
