-- What a poll of the links out and a pump of the links in do to the ends of a node.
use Rattle.std.specs.Prelude.{ℕ, ◌≡◌, ◌≢◌, ◌≤◌, ◌<◌, ◌+◌, ◌⊎◌, Bool, true, false, List, [], All, length, slice_index_or}
use Rattle.std.specs.List.{sum_by}
use Rattle.ds_base.specs.Faults.{Rose}
use Rattle.ds_base.specs.Pipes.{PipeSeen, AnsweredZero}
use Rattle.credit_link.specs.declared.link_bad.LinkBad.{LinkBad}
use Rattle.credit_link.specs.declared.link_bad.LinkBad.TheVariants.{Failed}
use Rattle.credit_link.specs.declared.turn.NodeFault.{NodeFault}
use Rattle.credit_link.specs.declared.turn.NodeFault.TheVariants.{Link}
use Rattle.credit_link.specs.Ends.{TxSeen, RxSeen, IsReady}
use Rattle.credit_link.specs.Pumping.{RxKeeps}
use Rattle.shuffle_poll.specs.Lanes.{LaneSeen}
use Rattle.shuffle_poll.specs.Shuffles.{ShuffleSeen, lane_of}
use Rattle.round_law.specs.Rows.{sent_by, taken_by, SenderStays, ReceiverStays}
use Rattle.round_law.specs.Views.{sender_view, receiver_view, TxTells, RxTells}
use Rattle.node_lanes.specs.Ends.{senders_of, receivers_of}
use Rattle.node_lanes.specs.Faults.{TxMeets, RxFailed}

-- ---- an end through which nothing went

-- an end of a pipe was not asked, or answered 0; and it answered 0 where something is still to move
pub record EndRests (before after : PipeSeen) (Waits : Type 0) : Type 0 where
  pub sure : before.sure ≤ after.sure
  pub heard : (after.silent ≡ before.silent) ⊎ Rose before.silent after.silent
  pub zero : Waits → AnsweredZero before after

-- a sending end with the frames that wait for it, on none of whose pipes a byte moved; where a frame waits, the link is
-- not ready for it
pub record OutRests (before after : LaneSeen) : Type 0 where
  pub told : (after.tx.forth.told ≡ before.tx.forth.told) × (after.tx.back.told ≡ before.tx.back.told)
  pub stays : TxTells before.tx → SenderStays (sender_view (length before.queue) before.tx) (sender_view (length after.queue) after.tx)
  pub forth : EndRests before.tx.forth after.tx.forth (0 < length after.tx.left)
  pub back : EndRests before.tx.back after.tx.back (0 < after.tx.held)
  pub unready : after.queue ≢ [] → ¬ IsReady after.tx

-- a receiving end, on none of whose pipes a byte moved
pub record InRests (before after : RxSeen) : Type 0 where
  pub stays : RxTells before → ReceiverStays (receiver_view before) (receiver_view after)
  pub given : after.given ≡ before.given
  pub box : after.box ≡ before.box
  pub forth : EndRests before.forth after.forth (length after.box < 2056)
  pub back : EndRests before.back after.back (0 < after.owed)

-- ---- all ends of a node

-- what no pump changes: the frames given, how many were not granted yet, and where the last one stood
pub record InsKeep (before after : List RxSeen) : Type 0 where
  pub as_many : length after ≡ length before
  pub each : (j : ℕ) (d : RxSeen) → j < length before → RxKeeps (slice_index_or before j d) (slice_index_or after j d)

abbrev pub OutsRest : (before after : ShuffleSeen) → Type 0
OutsRest before after = (k : ℕ) (d : TxSeen) → k < length before.links → OutRests (lane_of before k d) (lane_of after k d)

abbrev pub InsRest : (before after : List RxSeen) → Type 0
InsRest before after = (j : ℕ) (d : RxSeen) → j < length before → InRests (slice_index_or before j d) (slice_index_or after j d)

-- by the answer whether a byte moved: none did, or more has gone than before
abbrev pub OutsPass : (moved : Bool) (before after : ShuffleSeen) → Type 0
OutsPass true before after = All TxTells before.links → sum_by sent_by (senders_of before) < sum_by sent_by (senders_of after)
OutsPass false before after = OutsRest before after

abbrev pub InsPass : (moved : Bool) (before after : List RxSeen) → Type 0
InsPass true before after = All RxTells before → sum_by taken_by (receivers_of before) < sum_by taken_by (receivers_of after)
InsPass false before after = InsRest before after

-- no less has gone than before
abbrev pub OutsNoLess : (before after : ShuffleSeen) → Type 0
OutsNoLess before after = All TxTells before.links → sum_by sent_by (senders_of before) ≤ sum_by sent_by (senders_of after)

abbrev pub InsNoLess : (before after : List RxSeen) → Type 0
InsNoLess before after = All RxTells before → sum_by taken_by (receivers_of before) ≤ sum_by taken_by (receivers_of after)

-- ---- faults

-- no pipe counted a failure
abbrev pub OutsAreCalm : (before after : ShuffleSeen) → Type 0
OutsAreCalm before after = (k : ℕ) (d : TxSeen) → k < length before.links
    → ((slice_index_or after.links k d).forth.faults ≡ (slice_index_or before.links k d).forth.faults)
    × ((slice_index_or after.links k d).back.faults ≡ (slice_index_or before.links k d).back.faults)

abbrev pub InsAreCalm : (before after : List RxSeen) → Type 0
InsAreCalm before after = (j : ℕ) (d : RxSeen) → j < length before
    → ((slice_index_or after j d).forth.faults ≡ (slice_index_or before j d).forth.faults)
    × ((slice_index_or after j d).back.faults ≡ (slice_index_or before j d).back.faults)

-- link k out met a fault, and links out are counted from `first` on
pub record OutsMeet (first : ℕ) (before after : ShuffleSeen) (fault : NodeFault) : Type 0 where
  pub k : ℕ
  pub bad : LinkBad
  pub named : fault ≡ Link (first + k) bad
  pub there : k < length before.links
  pub meets : (d : TxSeen) → TxMeets (slice_index_or before.links k d) (slice_index_or after.links k d) bad

-- a pipe of link j in failed
pub record InsMeet (before after : List RxSeen) (fault : NodeFault) : Type 0 where
  pub j : ℕ
  pub named : fault ≡ Link j Failed
  pub there : j < length before
  pub failed : (d : RxSeen) → RxFailed (slice_index_or before j d) (slice_index_or after j d)
