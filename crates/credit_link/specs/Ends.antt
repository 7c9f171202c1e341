-- What a contract sees of the two ends of a link: plain values, and of its pipes what these show.
use Rattle.std.specs.Prelude.{ℕ, ◌≡◌, ◌<◌, ◌++◌, Bool, IsTrue, Option, None, List, [], replicate}
use Rattle.ds_base.specs.Pipes.{PipeSeen}
use Rattle.byte_rings.specs.Rings.{PipeName}
use Rattle.node_frames.specs.declared.frame.Frame.{Frame}
use Rattle.node_frames.specs.Link.{SpellsAll}
use Rattle.credit_link.specs.declared.link_bad.LinkBad.{LinkBad}
use Rattle.credit_link.specs.Frames.{IsCounted, bytes_of_all}
use Rattle.credit_link.specs.Moves.{IsHeard}
use Rattle.credit_link.specs.Sending.{SenderSeen, SenderStands}
use Rattle.credit_link.specs.Receiving.{ReceiverSeen, ReceiverStands}

-- The sending end: the frames offered; the bytes of them that have not gone into the data pipe; how many are
-- held, and were most at once; how many credits came back. `forth` is the end of the data pipe, whose bytes
-- are those that were put and whose `sure` is the room in it; `back` is that of the credit pipe.
pub record TxSeen : Type 0 where
  pub credits : ℕ
  pub offered : List Frame
  pub left : List ℕ
  pub held : ℕ
  pub repaid : ℕ
  pub most_held : ℕ
  pub finished : Bool
  pub fault : Option LinkBad
  pub forth : PipeSeen
  pub back : PipeSeen
  pub forth_name : PipeName
  pub back_name : PipeName

abbrev pub tx_of : SenderSeen → (forth back : PipeSeen) → (forth_name back_name : PipeName) → TxSeen
tx_of s forth back forth_name back_name = record {
  credits = s.credits;
  offered = s.offered;
  left = s.left;
  held = s.held;
  repaid = s.repaid;
  most_held = s.most_held;
  finished = s.finished;
  fault = s.fault;
  forth = forth;
  back = back;
  forth_name = forth_name;
  back_name = back_name;
}

abbrev pub sender_of : TxSeen → SenderSeen
sender_of l = record {
  credits = l.credits;
  offered = l.offered;
  left = l.left;
  held = l.held;
  repaid = l.repaid;
  most_held = l.most_held;
  finished = l.finished;
  fault = l.fault;
}

-- a frame may be offered: fewer are held than there are credits, and no byte of an earlier frame is left
abbrev pub IsReady : TxSeen → Type 0
IsReady l = (l.held < l.credits) × (l.left ≡ [])

-- an end of a pipe that has moved no byte
pub record IsNew (end : PipeSeen) : Type 0 where
  pub bytes : IsTrue end.told → end.bytes ≡ []
  pub silent : IsHeard end

-- the sender and its pipes: what was put and what is left are the bytes of the frames offered, and each byte
-- of the credit pipe was a credit
pub record OnPipes (s : SenderSeen) (forth back : PipeSeen) : Type 0 where
  pub put : IsCounted s.offered → IsTrue forth.told → forth.bytes ++ s.left ≡ bytes_of_all s.offered
  pub forth_heard : IsHeard forth
  pub back_heard : IsHeard back
  pub repaid : IsCounted s.offered → IsTrue back.told → s.fault ≡ None → back.bytes ≡ replicate s.repaid 1

-- what is true of every sending end
pub record TxStands (l : TxSeen) : Type 0 where
  pub sender : SenderStands (sender_of l)
  pub pipes : OnPipes (sender_of l) l.forth l.back

-- The receiving end: the frames given; the bytes received behind them; how many of these frames were not
-- granted yet, how many credits are owed, and how many went out. `forth` is the end of the data pipe, whose
-- bytes are those that were received and whose `sure` is what lies there; `back` is that of the credit pipe.
pub record RxSeen : Type 0 where
  pub credits : ℕ
  pub given : List Frame
  pub box : List ℕ
  pub owed : ℕ
  pub paid : ℕ
  pub ungranted : ℕ
  pub last : ℕ
  pub finished : Bool
  pub fault : Option LinkBad
  pub forth : PipeSeen
  pub back : PipeSeen
  pub forth_name : PipeName
  pub back_name : PipeName

abbrev pub rx_of : ReceiverSeen → (forth back : PipeSeen) → (forth_name back_name : PipeName) → RxSeen
rx_of s forth back forth_name back_name = record {
  credits = s.credits;
  given = s.given;
  box = s.box;
  owed = s.owed;
  paid = s.paid;
  ungranted = s.ungranted;
  last = s.last;
  finished = s.finished;
  fault = s.fault;
  forth = forth;
  back = back;
  forth_name = forth_name;
  back_name = back_name;
}

abbrev pub receiver_of : RxSeen → ReceiverSeen
receiver_of l = record {
  credits = l.credits;
  given = l.given;
  box = l.box;
  owed = l.owed;
  paid = l.paid;
  ungranted = l.ungranted;
  last = l.last;
  finished = l.finished;
  fault = l.fault;
}

-- the receiver and its pipes: the frames given are the first that the bytes received spell, and each credit
-- paid was a byte 1 of the credit pipe
pub record InPipes (s : ReceiverSeen) (forth back : PipeSeen) : Type 0 where
  pub reads : IsTrue forth.told → SpellsAll s.given forth.bytes s.box
  pub forth_heard : IsHeard forth
  pub back_heard : IsHeard back
  pub paid : IsCounted s.given → IsTrue back.told → back.bytes ≡ replicate s.paid 1

-- what is true of every receiving end
pub record RxStands (l : RxSeen) : Type 0 where
  pub receiver : ReceiverStands (receiver_of l)
  pub pipes : InPipes (receiver_of l) l.forth l.back
