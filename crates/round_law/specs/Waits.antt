-- What a node waits on, and when it is idle or done.
use Rattle.std.specs.Prelude.{ℕ, ◌≡◌, ◌<◌, ◌⊎◌, Bool, true, false, IsTrue, List, length, slice_index_or, All}
use Rattle.ds_base.specs.Faults.{Rose}
use Rattle.round_law.specs.Links.{Sender, Receiver, new_sender, new_receiver, has_finish, OpensNoFrame, HasSentAll, HasTakenAll}

-- A node: the bytes that it has read from its sources, the records that it has taken up, the bytes that it has written
-- to its sink, whether it has written all its text (true where it writes none), and its ends of links.
pub record Node : Type 0 where
  pub read : ℕ
  pub records : ℕ
  pub wrote : ℕ
  pub wrote_all : Bool
  pub ins : List Receiver
  pub outs : List Sender

-- its link in and its link out with a number, a new one past the last
abbrev pub in_at : Node → ℕ → Receiver
in_at node j = slice_index_or node.ins j (new_receiver 0)

abbrev pub out_at : Node → ℕ → Sender
out_at node k = slice_index_or node.outs k new_sender

-- its ends of pipes, by the number of the link out or in
pub data PipeEnd : Type 0 where
  DataOut : ℕ → PipeEnd
  CreditOut : ℕ → PipeEnd
  DataIn : ℕ → PipeEnd
  CreditIn : ℕ → PipeEnd

-- of how many bytes an end is sure
abbrev pub sure_at : Node → PipeEnd → ℕ
sure_at node (DataOut k) = (out_at node k).room
sure_at node (CreditOut k) = (out_at node k).coins
sure_at node (DataIn j) = (in_at node j).items
sure_at node (CreditIn j) = (in_at node j).slots

-- how many times in a row the pipe of an end has answered 0
abbrev pub silent_at : Node → PipeEnd → ℕ
silent_at node (DataOut k) = (out_at node k).put_silent
silent_at node (CreditOut k) = (out_at node k).back_silent
silent_at node (DataIn j) = (in_at node j).got_silent
silent_at node (CreditIn j) = (in_at node j).paid_silent

-- it answered 0 in a turn: it was sure of no byte when the turn began, and the count of such answers rose or stands at
-- its end
abbrev pub AnsweredIn : (before after : Node) → PipeEnd → Type 0
AnsweredIn before after end = (sure_at before end ≡ 0) × Rose (silent_at before end) (silent_at after end)

-- no frame waits on its links out
abbrev pub NoneWaits : Node → Type 0
NoneWaits node = All (λ (s : Sender). s.waiting ≡ 0) node.outs

-- a frame waits and the number held equals the credits, or Finish was sent and the number held is not 0
abbrev pub WantsCredit : (credits : ℕ) → Sender → Type 0
WantsCredit credits s = ((0 < s.waiting) × (s.held ≡ credits)) ⊎ (IsTrue (has_finish s.offered) × (0 < s.held))

-- the set of its pipe ends on which a node waits
abbrev pub Waits : (credits : ℕ) (node : Node) → PipeEnd → Type 0
Waits credits node (DataOut k) = (k < length node.outs) × (0 < length (out_at node k).left)
Waits credits node (CreditOut k) = (k < length node.outs) × WantsCredit credits (out_at node k)
Waits credits node (DataIn j) = (j < length node.ins) × (has_finish (in_at node j).given ≡ false) × NoneWaits node
Waits credits node (CreditIn j) = (j < length node.ins) × (0 < (in_at node j).owed)

-- after a turn: it waits on some pipe end, each such end answered 0 in this turn, and where no frame waits on its links
-- out, what came on a link in whose Finish was not taken opens no whole frame
pub record IsIdle (credits : ℕ) (before after : Node) : Type 0 where
  pub waits : (end : PipeEnd) × Waits credits after end
  pub answered : (end : PipeEnd) → Waits credits after end → AnsweredIn before after end
  pub empty : NoneWaits after → (j : ℕ) → j < length after.ins → has_finish (in_at after j).given ≡ false → OpensNoFrame (in_at after j).box

-- it has taken and sent all, and has written all
pub record IsDone (node : Node) : Type 0 where
  pub ins : All HasTakenAll node.ins
  pub outs : All HasSentAll node.outs
  pub wrote_all : node.wrote_all ≡ true

-- who is done waits on nothing
abbrev pub DoneWaitsOnNothing : (credits : ℕ) → Node → Type 0
DoneWaitsOnNothing credits node = 0 < credits → IsDone node → (end : PipeEnd) → ¬ Waits credits node end
