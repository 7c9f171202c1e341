-- The two ends of a link, as plain numbers and lists, and what is true of them after the other end was looked at.
use Rattle.std.specs.Prelude.{ℕ, ◌≡◌, ◌+◌, ◌<◌, ◌≤◌, ◌++◌, IsTrue, List, [], length}
use Rattle.node_frames.specs.declared.frame.Frame.{Frame}
pub use Rattle.credit_link.specs.Frames.{IsCounted, is_finish, has_finish, FinishIsLast}
use Rattle.node_frames.specs.declared.wire.Wire.{Wire}
use Rattle.node_frames.specs.Link.{Opens, SpellsAll}

-- The end of a link that sends: the frames that were offered and how many wait to be (the length of the queue behind
-- them), the bytes of these that went into the data pipe and those left, the number held, the credits taken back (how
-- many bytes came out of the credit pipe), of how many bytes it is sure: that the data pipe takes them, that the credit
-- pipe hands them over, and how many times in a row each of the two pipes has answered 0.
pub record Sender : Type 0 where
  pub offered : List Frame
  pub waiting : ℕ
  pub put : List ℕ
  pub left : List ℕ
  pub held : ℕ
  pub back : ℕ
  pub room : ℕ
  pub coins : ℕ
  pub put_silent : ℕ
  pub back_silent : ℕ

-- The end of a link that receives: the bytes that came out of the data pipe, the frames of these that were taken and
-- the bytes that wait in the box, the credits paid (how many bytes went into the credit pipe) and those granted and
-- still owed, of how many bytes it is sure: that the data pipe hands them over, that the credit pipe takes them, and how
-- many times in a row each of the two pipes has answered 0.
pub record Receiver : Type 0 where
  pub got : List ℕ
  pub given : List Frame
  pub box : List ℕ
  pub paid : ℕ
  pub owed : ℕ
  pub items : ℕ
  pub slots : ℕ
  pub got_silent : ℕ
  pub paid_silent : ℕ

-- the bytes that a data ring holds; a credit ring holds as many as there are credits
unfoldable pub ring_bytes : ℕ
ring_bytes = 4096

-- ---- one end

-- bytes that no whole frame opens
abbrev pub OpensNoFrame : List ℕ → Type 0
OpensNoFrame bytes = (wire : Wire) (after : List ℕ) → ¬ Opens wire bytes after

-- the bytes put and those left spell the frames offered, and each of these is held until a credit comes for it
pub record IsSender (credits : ℕ) (s : Sender) : Type 0 where
  pub spelled : SpellsAll s.offered (s.put ++ s.left) []
  pub counted : s.held + s.back ≡ length s.offered
  pub within : s.held ≤ credits

-- the bytes that came spell the frames taken, and those in the box are the rest
abbrev pub IsReceiver : Receiver → Type 0
IsReceiver r = SpellsAll r.given r.got r.box

-- every frame taken was granted
abbrev pub IsGranted : Receiver → Type 0
IsGranted r = r.paid + r.owed ≡ length r.given

-- Finish was offered, no byte is left, and every credit came back
pub record HasSentAll (s : Sender) : Type 0 where
  pub finish : IsTrue (has_finish s.offered)
  pub left : s.left ≡ []
  pub held : s.held ≡ 0

-- Finish was taken, and every credit was paid
pub record HasTakenAll (r : Receiver) : Type 0 where
  pub finish : IsTrue (has_finish r.given)
  pub owed : r.owed ≡ 0

-- ---- both ends

-- what came out of the data pipe is the front of what was put in
abbrev pub ComesThrough : Sender → Receiver → Type 0
ComesThrough s r = (ring : List ℕ) × (s.put ≡ r.got ++ ring)

-- after a look at both rings of a link: what came out and what lies in the ring is what was put in, and each end is
-- sure of exactly the bytes and the free places that there are
pub record AreJoined (credits : ℕ) (s : Sender) (r : Receiver) : Type 0 where
  pub some : 0 < credits
  pub ring : List ℕ
  pub through : s.put ≡ r.got ++ ring
  pub room : length ring + s.room ≡ ring_bytes
  pub items : r.items ≡ length ring
  pub coins : s.back + s.coins ≡ r.paid
  pub slots : s.coins + r.slots ≡ credits

-- every frame sent was taken, no byte is pending at an end or in a ring, and no frame is held
pub record IsSettled (s : Sender) (r : Receiver) : Type 0 where
  pub taken : r.given ≡ s.offered
  pub left : s.left ≡ []
  pub ring : r.got ≡ s.put
  pub box : r.box ≡ []
  pub owed : r.owed ≡ 0
  pub credits : r.paid ≡ s.back
  pub held : s.held ≡ 0

-- ---- the start of a link

abbrev pub new_sender : Sender
new_sender = record { offered = []; waiting = 0; put = []; left = []; held = 0; back = 0; room = ring_bytes; coins = 0; put_silent = 0; back_silent = 0 }

abbrev pub new_receiver : (credits : ℕ) → Receiver
new_receiver credits = record { got = []; given = []; box = []; paid = 0; owed = 0; items = 0; slots = credits; got_silent = 0; paid_silent = 0 }

-- a new link is sound and joined
pub record StartsSound (credits : ℕ) : Type 0 where
  pub sender : IsSender credits new_sender
  pub receiver : IsReceiver (new_receiver credits)
  pub granted : IsGranted (new_receiver credits)
  pub last : FinishIsLast new_sender.offered
  pub joined : 0 < credits → AreJoined credits new_sender (new_receiver credits)

-- a link whose ends are done is settled
abbrev pub DoneIsSettled : (credits : ℕ) (s : Sender) (r : Receiver) → Type 0
DoneIsSettled credits s r =
    IsSender credits s → FinishIsLast s.offered → IsReceiver r → IsGranted r → ComesThrough s r → HasSentAll s → HasTakenAll r
    → IsSettled s r

-- a sender that has sent all has sent a frame
abbrev pub SentSome : Sender → Type 0
SentSome s = HasSentAll s → 1 ≤ length s.offered

-- a receiver of joined ends never owes more credits than its ring has room for
abbrev pub OwesWithin : (credits : ℕ) (s : Sender) (r : Receiver) → Type 0
OwesWithin credits s r = IsSender credits s → IsReceiver r → IsGranted r → AreJoined credits s r → (r.owed ≤ r.slots) × (r.owed ≤ credits)
