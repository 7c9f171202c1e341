-- What one poll does to a lane.
use Rattle.std.specs.Prelude.{ℕ, ◌≡◌, ◌≢◌, ◌≤◌, ◌<◌, ◌+◌, ◌++◌, ◌⊎◌, IsTrue, Some, None, List, [], length, replicate}
use Rattle.ds_base.specs.Faults.{Rose}
use Rattle.ds_base.specs.Pipes.{PipeSeen, AnsweredZero}
use Rattle.credit_link.specs.declared.link_bad.LinkBad.{LinkBad}
use Rattle.credit_link.specs.Frames.{capped}
use Rattle.credit_link.specs.Ends.{IsReady, TxStands}
use Rattle.credit_link.specs.Pumping.{TxFails, TxKeeps}
use Rattle.shuffle_poll.specs.declared.needs.Passed.{Passed}
use Rattle.shuffle_poll.specs.declared.needs.Need.TheVariants.{Nothing, Credit, Room}
use Rattle.shuffle_poll.specs.Lanes.{LaneSeen, put_on, OffersFront}

-- a pipe of the link after a poll in which n bytes went through its end; where none did, the number of its answers of 0
-- is as before or rose
pub record EndPolled (before after : PipeSeen) (n : ℕ) : Type 0 where
  pub told : after.told ≡ before.told
  pub faults : after.faults ≡ before.faults
  pub sure : before.sure ≤ after.sure + n
  pub heard : n ≡ 0 → (after.silent ≡ before.silent) ⊎ Rose before.silent after.silent

-- A poll without a fault: bytes went into the data pipe and credits came back, and frames that waited were
-- offered. A pipe that had something to move and moved nothing answered 0, and where neither moved, so did each
-- pipe with something to move at the end; where nothing waits, a pipe with nothing to move is left alone. A link
-- on which a frame waits is not ready: it needs a credit where as many frames are held as there are credits and
-- the credit pipe was asked and brought none, and else room.
pub record LanePolls (before after : LaneSeen) (cut : ℕ) (answer : Passed) : Type 0 where
  pub all_put : put_on after ≡ put_on before
  pub fewer : length after.queue ≤ length before.queue
  pub sent : List ℕ
  pub paid : ℕ
  pub total : answer.moved ≡ length sent + paid
  pub most : (length sent ≤ cut) × (paid ≤ cut)
  pub sent_bytes : IsTrue before.tx.forth.told → after.tx.forth.bytes ≡ before.tx.forth.bytes ++ sent
  pub paid_bytes : IsTrue before.tx.back.told → after.tx.back.bytes ≡ before.tx.back.bytes ++ replicate paid 1
  pub forth : EndPolled before.tx.forth after.tx.forth (length sent)
  pub back : EndPolled before.tx.back after.tx.back paid
  pub repaid : after.tx.repaid ≡ capped (before.tx.repaid + paid)
  pub quiet : before.tx.fault ≡ None
  pub kept : (after.tx.credits ≡ before.tx.credits) × (after.tx.forth_name ≡ before.tx.forth_name) × (after.tx.back_name ≡ before.tx.back_name) × (after.tx.fault ≡ None)
  pub data_asked : sent ≡ [] → 0 < cut → 0 < length before.tx.left → AnsweredZero before.tx.forth after.tx.forth
  pub credit_asked : paid ≡ 0 → 0 < cut → 0 < before.tx.held → AnsweredZero before.tx.back after.tx.back
  pub data_zero : answer.moved ≡ 0 → 0 < cut → 0 < length after.tx.left → AnsweredZero before.tx.forth after.tx.forth
  pub credit_zero : answer.moved ≡ 0 → 0 < cut → 0 < after.tx.held → AnsweredZero before.tx.back after.tx.back
  pub data_alone : before.queue ≡ [] → before.tx.left ≡ [] → after.tx.forth ≡ before.tx.forth
  pub credit_alone : before.queue ≡ [] → before.tx.held ≡ 0 → after.tx.back ≡ before.tx.back
  pub unready : after.queue ≢ [] → ¬ IsReady after.tx
  pub nothing : (answer.need ≡ Nothing → after.queue ≡ []) × (after.queue ≡ [] → answer.need ≡ Nothing)
  pub credit : answer.need ≡ Credit → (paid ≡ 0) × (after.tx.held ≡ after.tx.credits) × (0 < cut → AnsweredZero before.tx.back after.tx.back)
  pub room : answer.need ≡ Room → (paid ≡ 0 → after.tx.held ≡ after.tx.credits → after.tx.back ≡ before.tx.back) × (0 < cut → (0 < answer.moved) ⊎ AnsweredZero before.tx.forth after.tx.forth)

-- A poll met a fault: the first frame that waits was offered where the link was ready; and the link kept the
-- fault from before and its pipes were left alone, or its pump met it now.
pub record LaneFails (before after : LaneSeen) (cut : ℕ) (bad : LinkBad) : Type 0 where
  pub fault : after.tx.fault ≡ Some bad
  pub mid : LaneSeen
  pub stands : TxStands mid.tx
  pub offers : OffersFront before mid
  pub queue : after.queue ≡ mid.queue
  pub kept : TxKeeps mid.tx after.tx
  pub how : ((before.tx.fault ≡ Some bad) × (after.tx ≡ mid.tx)) ⊎ ((before.tx.fault ≡ None) × TxFails mid.tx after.tx cut bad)
