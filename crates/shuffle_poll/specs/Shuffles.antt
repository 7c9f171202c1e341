-- What a contract sees of a shuffle: its links, and for each the frames that wait.
use Rattle.std.specs.Prelude.{ℕ, ◌≡◌, ◌≤◌, ◌<◌, nat_lt, List, [], length, map, sum_by, slice_index_or, slice_set}
use Rattle.node_frames.specs.declared.frame.Frame.{Frame}
use Rattle.credit_link.specs.declared.row.LinkRow.{LinkRow}
use Rattle.credit_link.specs.Frames.{capped, FinishIsLast}
use Rattle.byte_rings.specs.Rings.{Looks, IsOnRing}
use Rattle.credit_link.specs.Ends.{TxSeen, RxSeen, TxStands}
use Rattle.shuffle_poll.specs.declared.needs.Needs.{Needs}
use Rattle.shuffle_poll.specs.declared.needs.Passed.{Passed}
use Rattle.shuffle_poll.specs.Lanes.{LaneSeen, put_on}
use Rattle.shuffle_poll.specs.Needs.{is_credit, is_room, number_of_bits}
use Rattle.shuffle_poll.specs.declared.needs.ShuffleFault.{ShuffleFault}
use Rattle.shuffle_poll.specs.Polling.{LanePolls, LaneFails}

pub record ShuffleSeen : Type 0 where
  pub links : List TxSeen
  pub queues : List (List Frame)

-- link k with the frames that wait for it; d is what stands for a link that is not there
abbrev pub lane_at : List TxSeen → List (List Frame) → (k : ℕ) → (d : TxSeen) → LaneSeen
lane_at links queues k d = record { tx = slice_index_or links k d; queue = slice_index_or queues k [] }

abbrev pub lane_of : ShuffleSeen → (k : ℕ) → (d : TxSeen) → LaneSeen
lane_of s k d = lane_at s.links s.queues k d

-- lane i was changed, and the others were left alone
pub record ChangesLane (links links' : List TxSeen) (queues queues' : List (List Frame)) (i : ℕ) : Type 0 where
  pub lengths : (length links' ≡ length links) × (length queues' ≡ length queues)
  pub links_set : (d : TxSeen) → links' ≡ slice_set links i (slice_index_or links' i d)
  pub queues_set : queues' ≡ slice_set queues i (slice_index_or queues' i [])

-- As many queues as links, of which there are at most 17. Each link stands as a sending end does, at most two
-- frames wait for it, and of the frames put on it the end is last.
pub record ShuffleHolds (links : List TxSeen) (queues : List (List Frame)) : Type 0 where
  pub as_many : length queues ≡ length links
  pub few : length links ≤ 17
  pub stand : (k : ℕ) (d : TxSeen) → k < length links → TxStands (slice_index_or links k d)
  pub two : (k : ℕ) → length (slice_index_or queues k []) ≤ 2
  pub last : (k : ℕ) (d : TxSeen) → k < length links → FinishIsLast (put_on (lane_at links queues k d))

-- the row of a link
abbrev pub row_of : TxSeen → (from to taken : ℕ) → LinkRow
row_of tx from to taken = record { from = from; to = to; sent = capped (length tx.offered); taken = taken; most_held = tx.most_held }

-- no frame waits, every byte of the frames offered has gone into the pipe, and no frame is held
abbrev pub IsSettled : LaneSeen → Type 0
IsSettled lane = (lane.queue ≡ []) × (lane.tx.left ≡ []) × (lane.tx.held ≡ 0)

-- both ends of a link were shown its two rings, and nothing moved; no end of a ring has ever failed
pub record Shows (tx tx' : TxSeen) (rx rx' : RxSeen) : Type 0 where
  pub sending : tx' ≡ record tx { forth = tx'.forth; back = tx'.back }
  pub receiving : rx' ≡ record rx { forth = rx'.forth; back = rx'.back }
  pub tx_looks : Looks tx.forth tx'.forth × Looks tx.back tx'.back
  pub rx_looks : Looks rx.forth rx'.forth × Looks rx.back rx'.back
  pub calm : (tx'.forth.faults ≡ 0) × (tx'.back.faults ≡ 0) × (rx'.forth.faults ≡ 0) × (rx'.back.faults ≡ 0)
  pub data_ring : IsOnRing tx'.forth_name.capacity tx'.forth rx'.forth
  pub credit_ring : IsOnRing tx'.back_name.capacity rx'.back tx'.back

-- what a poll of some lanes, from the first on, did to them
pub record PollsLanes (links links' : List TxSeen) (queues queues' : List (List Frame)) (cut : ℕ) (needs : Needs) (answers : List Passed) : Type 0 where
  pub each : (k : ℕ) (d : TxSeen) (p : Passed) → k < length answers → LanePolls (lane_at links queues k d) (lane_at links' queues' k d) cut (slice_index_or answers k p)
  pub credit : needs.credit ≡ number_of_bits (map (λ (p : Passed). is_credit p.need) answers)
  pub room : needs.room ≡ number_of_bits (map (λ (p : Passed). is_room p.need) answers)
  pub moved : needs.moved ≡ nat_lt 0 (sum_by (λ (p : Passed). p.moved) answers)

-- a poll met a fault: the lanes before the one that failed were polled without one, and those behind it were
-- left alone
pub record FailsAt (links links' : List TxSeen) (queues queues' : List (List Frame)) (cut : ℕ) (fault : ShuffleFault) : Type 0 where
  pub there : fault.link < length links
  pub before : (k : ℕ) (d : TxSeen) → k < fault.link → (answer : Passed) × LanePolls (lane_at links queues k d) (lane_at links' queues' k d) cut answer
  pub here : (d : TxSeen) → LaneFails (lane_at links queues fault.link d) (lane_at links' queues' fault.link d) cut fault.bad
  pub behind : (k : ℕ) (d : TxSeen) → fault.link < k → lane_at links' queues' k d ≡ lane_at links queues k d
