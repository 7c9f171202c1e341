-- The two ends of one link.
use Rattle.std.specs.Prelude.{ℕ, ◌≡◌, ◌≤◌, ◌++◌, IsTrue, None, List}
use Rattle.byte_rings.specs.Rings.{fresh}
use Rattle.node_frames.specs.declared.frame.Frame.{Frame}
use Rattle.credit_link.specs.declared.link_bad.LinkBad.{LinkBad}
use Rattle.credit_link.specs.Frames.{IsCounted}
use Rattle.credit_link.specs.Sending.{new_sender}
use Rattle.credit_link.specs.Receiving.{new_receiver}
use Rattle.credit_link.specs.Ends.{TxSeen, RxSeen, tx_of, rx_of, TxStands, RxStands}
use Rattle.credit_link.specs.Pumping.{TakesNoCredit}
use Rattle.credit_link.specs.Pulling.{MeetsBad}

-- two ends that belong together: their pipes are the same
abbrev pub AreOneLink : TxSeen → RxSeen → Type 0
AreOneLink tx rx = (rx.forth_name ≡ tx.forth_name) × (rx.back_name ≡ tx.back_name)

-- the two ends of a new link over rings
pub record IsNewLink (credits : ℕ) (tx : TxSeen) (rx : RxSeen) : Type 0 where
  pub one : AreOneLink tx rx
  pub data_places : tx.forth_name.capacity ≡ 4096
  pub credit_places : tx.back_name.capacity ≡ credits
  pub sending : tx ≡ tx_of (new_sender credits) (fresh 4096) (fresh 0) tx.forth_name tx.back_name
  pub receiving : rx ≡ rx_of (new_receiver credits) (fresh 0) (fresh credits) rx.forth_name rx.back_name

-- what was received is a prefix of what was sent, on both pipes of a link
pub record AreJoined (tx : TxSeen) (rx : RxSeen) : Type 0 where
  pub sending : TxStands tx
  pub receiving : RxStands rx
  pub told : IsTrue tx.forth.told × IsTrue tx.back.told × IsTrue rx.forth.told × IsTrue rx.back.told
  pub counted : IsCounted tx.offered
  pub bytes : (more : List ℕ) × (tx.forth.bytes ≡ rx.forth.bytes ++ more)
  pub credits : (more : List ℕ) × (rx.back.bytes ≡ tx.back.bytes ++ more)

-- ---- what is true of joined ends

-- the frames given are the first of those offered
abbrev pub FramesAreAPrefix : Type 0
FramesAreAPrefix = (tx : TxSeen) (rx : RxSeen) → AreJoined tx rx → (later : List Frame) × (tx.offered ≡ rx.given ++ later)

-- no fault of a frame or of the link's end stands next
abbrev pub NoFaultStandsNext : Type 0
NoFaultStandsNext = (tx : TxSeen) (rx : RxSeen) (bad : LinkBad) → AreJoined tx rx → ¬ (MeetsBad rx.given rx.finished rx.box bad)

-- each byte that comes over the credit pipe is a credit, where the sending end has met no fault
abbrev pub EachByteIsACredit : Type 0
EachByteIsACredit = (tx after : TxSeen) (rx : RxSeen) (more : List ℕ) (bad : LinkBad) → AreJoined tx rx → tx.fault ≡ None
    → rx.back.bytes ≡ after.back.bytes ++ more → ¬ (TakesNoCredit tx after bad)

-- there, no more credits are owed than frames are held, of which there are no more than credits
abbrev pub OwedAreHeld : Type 0
OwedAreHeld = (tx : TxSeen) (rx : RxSeen) → AreJoined tx rx → tx.fault ≡ None → (rx.owed ≤ tx.held) × (rx.owed ≤ tx.credits)
