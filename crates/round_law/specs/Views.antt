-- What the ends of links show, as the plain records of a run.
use Rattle.std.specs.Prelude.{◌⊎◌, ◌≤◌, ℕ, ◌≡◌, ◌<◌, IsTrue, None, length}
use Rattle.ds_base.specs.Faults.{Rose}
use Rattle.ds_base.specs.Pipes.{PipeSeen, AnsweredZero}
use Rattle.byte_rings.specs.Rings.{Looks, IsOnRing}
use Rattle.credit_link.specs.Frames.{IsCounted}
use Rattle.credit_link.specs.Ends.{TxSeen, RxSeen, TxStands, RxStands}
use Rattle.credit_link.specs.Ahead.{IsPart}
use Rattle.credit_link.specs.Moves.{IsHeard}
use Rattle.credit_link.specs.Pumping.{TxPumps, RxPumps}
use Rattle.round_law.specs.Links.{Sender, Receiver, ring_bytes, IsSender, IsReceiver, IsGranted, OpensNoFrame, AreJoined}
use Rattle.round_law.specs.Rows.{SenderStays, ReceiverStays, SenderIsLookedAt, ReceiverIsLookedAt}
use Rattle.std.specs.Prelude.{List}

-- a sending end, behind which so many frames wait
abbrev pub sender_view : (waiting : ℕ) → TxSeen → Sender
sender_view waiting l = record {
  offered = l.offered;
  waiting = waiting;
  put = l.forth.bytes;
  left = l.left;
  held = l.held;
  back = length l.back.bytes;
  room = l.forth.sure;
  coins = l.back.sure;
  put_silent = l.forth.silent;
  back_silent = l.back.silent;
}

abbrev pub receiver_view : RxSeen → Receiver
receiver_view l = record {
  got = l.forth.bytes;
  given = l.given;
  box = l.box;
  paid = length l.back.bytes;
  owed = l.owed;
  items = l.forth.sure;
  slots = l.back.sure;
  got_silent = l.forth.silent;
  paid_silent = l.back.silent;
}

-- both pipes of an end tell
pub record TxTells (l : TxSeen) : Type 0 where
  pub forth : IsTrue l.forth.told
  pub back : IsTrue l.back.told

pub record RxTells (l : RxSeen) : Type 0 where
  pub forth : IsTrue l.forth.told
  pub back : IsTrue l.back.told

-- ---- what stands

-- a sending end that has met no fault
abbrev pub TxIsSender : (waiting : ℕ) (l : TxSeen) → Type 0
TxIsSender waiting l = TxStands l → TxTells l → l.fault ≡ None → IsCounted l.offered → IsSender l.credits (sender_view waiting l)

-- a receiving end, and one whose frames were all granted
abbrev pub RxIsReceiver : RxSeen → Type 0
RxIsReceiver l = RxStands l → RxTells l → IsReceiver (receiver_view l)

abbrev pub RxIsGranted : RxSeen → Type 0
RxIsGranted l = RxStands l → RxTells l → l.ungranted ≡ 0 → IsCounted l.given → IsGranted (receiver_view l)

-- where a pull answers None, no whole frame opens the box
abbrev pub PartOpensNone : List ℕ → Type 0
PartOpensNone box = IsPart box → OpensNoFrame box

-- and there is room in the box
abbrev pub PartIsShort : List ℕ → Type 0
PartIsShort box = IsPart box → length box < 1028

-- ---- a pump that moved nothing

-- no byte came or went, and a pipe on which there was something to move answered 0
pub record TxRests (waiting : ℕ) (before after : TxSeen) : Type 0 where
  pub stays : TxTells before → SenderStays (sender_view waiting before) (sender_view waiting after)
  pub forth : 0 < length before.left → AnsweredZero before.forth after.forth
  pub back : 0 < before.held → AnsweredZero before.back after.back

abbrev pub TxPumpRests : (waiting cut : ℕ) (before after : TxSeen) → Type 0
TxPumpRests waiting cut before after = 0 < cut → TxPumps before after cut 0 → TxRests waiting before after

pub record RxRests (before after : RxSeen) : Type 0 where
  pub stays : RxTells before → ReceiverStays (receiver_view before) (receiver_view after)
  pub forth : length before.box < 2056 → AnsweredZero before.forth after.forth
  pub back : 0 < before.owed → AnsweredZero before.back after.back

abbrev pub RxPumpRests : (cut : ℕ) (before after : RxSeen) → Type 0
RxPumpRests cut before after = 0 < cut → RxPumps before after cut 0 → RxRests before after

-- a pipe that is asked again in a turn in which nothing moved has answered 0 in the turn
abbrev pub AnsweredAgain : (start mid after : PipeSeen) → Type 0
AnsweredAgain start mid after = start.sure ≤ mid.sure → (mid.silent ≡ start.silent) ⊎ Rose start.silent mid.silent → IsHeard after
    → AnsweredZero mid after → AnsweredZero start after

-- ---- a look

-- what `beside` says of an end
abbrev pub TxLooks : (waiting : ℕ) (before after : TxSeen) → Type 0
TxLooks waiting before after = after ≡ record before { forth = after.forth; back = after.back } → Looks before.forth after.forth → Looks before.back after.back
    → SenderIsLookedAt (sender_view waiting before) (sender_view waiting after)

abbrev pub RxLooks : (before after : RxSeen) → Type 0
RxLooks before after = after ≡ record before { forth = after.forth; back = after.back } → Looks before.forth after.forth → Looks before.back after.back
    → ReceiverIsLookedAt (receiver_view before) (receiver_view after)

-- the two ends of a link over rings, after it
abbrev pub LookedIsJoined : (waiting : ℕ) (tx : TxSeen) (rx : RxSeen) → Type 0
LookedIsJoined waiting tx rx = TxStands tx → IsOnRing ring_bytes tx.forth rx.forth → IsOnRing tx.credits rx.back tx.back
    → AreJoined tx.credits (sender_view waiting tx) (receiver_view rx)
