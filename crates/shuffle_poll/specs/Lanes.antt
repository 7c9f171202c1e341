-- A link with the frames that wait for it.
use Rattle.std.specs.Prelude.{◌≡◌, ◌≤◌, ◌⊎◌, List, [], ◌++◌, length}
use Rattle.node_frames.specs.declared.frame.Frame.{Frame}
use Rattle.credit_link.specs.Frames.{FinishIsLast}
use Rattle.credit_link.specs.Ends.{TxSeen, TxStands, IsReady}

-- a link's sending end, and the frames that were put on it and not yet offered
pub record LaneSeen : Type 0 where
  pub tx : TxSeen
  pub queue : List Frame

-- the frames that were put on it: those offered, and those that wait
abbrev pub put_on : LaneSeen → List Frame
put_on lane = lane.tx.offered ++ lane.queue

-- what is true of every lane
pub record LaneStands (lane : LaneSeen) : Type 0 where
  pub link : TxStands lane.tx
  pub few : length lane.queue ≤ 2
  pub last : FinishIsLast (put_on lane)

-- no frame waits, or the link is not ready for one
abbrev pub IsBlocked : LaneSeen → Type 0
IsBlocked lane = (lane.queue ≡ []) ⊎ (¬ IsReady lane.tx)

-- the first frame that waits is offered where the link is ready for it; else all is as it was
pub record OffersFront (before after : LaneSeen) : Type 0 where
  pub all_put : put_on after ≡ put_on before
  pub fewer : length after.queue ≤ length before.queue
  pub same : after.tx ≡ record before.tx { offered = after.tx.offered; left = after.tx.left; held = after.tx.held; most_held = after.tx.most_held; finished = after.tx.finished }
  pub held : before.tx.held ≤ after.tx.held
  pub blocked : IsBlocked after
  pub idle : IsBlocked before → after ≡ before
