-- What each turn of a node says, by its answer: the node as it was when the turn began, and as it is after it.
use Rattle.std.specs.Prelude.{ℕ, ◌≡◌, ◌+◌, ◌*◌, ◌<◌, ◌≤◌, ◌⊎◌, length, All}
use Rattle.std.specs.List.{sum_by}
use Rattle.credit_link.specs.declared.turn.Turn.{Turn}
use Rattle.credit_link.specs.declared.turn.Turn.TheVariants.{Moved, Idle, Done}
use Rattle.round_law.specs.Links.{Sender, Receiver, FinishIsLast, IsCounted, IsGranted, IsSender, IsReceiver}
use Rattle.round_law.specs.Waits.{Node, in_at, out_at, IsIdle, IsDone}

-- ---- what came and went

-- the bytes put and the credits taken back
abbrev pub sent_by : Sender → ℕ
sent_by s = length s.put + s.back

-- the bytes got, the credits paid and the frames taken
abbrev pub taken_by : Receiver → ℕ
taken_by r = length r.got + r.paid + length r.given

-- all that a node has moved: bytes read, records taken up, and what came and went on its links
abbrev pub moved : Node → ℕ
moved node = node.read + node.records + sum_by sent_by node.outs + sum_by taken_by node.ins

-- the records and frames that it has taken up
abbrev pub taken_up : Node → ℕ
taken_up node = node.records + sum_by (λ (r : Receiver). length r.given) node.ins

-- ---- what is true after each turn that gives no fault

-- every frame taken was granted, and nothing follows a Finish
pub record IsOrderly (node : Node) : Type 0 where
  pub granted : All (λ (r : Receiver). IsCounted r.given → IsGranted r) node.ins
  pub taken : All (λ (r : Receiver). FinishIsLast r.given) node.ins
  pub offered : All (λ (s : Sender). FinishIsLast s.offered) node.outs

-- the frames that a node offers beside two for each record or frame that it has taken up
unfoldable pub frames_beside : ℕ
frames_beside = 4097

abbrev pub OffersFew : Node → Type 0
OffersFew node = All (λ (s : Sender). length s.offered ≤ 2 * taken_up node + frames_beside) node.outs

-- what its links promise
pub record HasSoundEnds (credits : ℕ) (node : Node) : Type 0 where
  pub senders : All (λ (s : Sender). IsCounted s.offered → IsSender credits s) node.outs
  pub receivers : All IsReceiver node.ins

-- the frames of its links are counted
pub record AreCounted (node : Node) : Type 0 where
  pub offered : All (λ (s : Sender). IsCounted s.offered) node.outs
  pub given : All (λ (r : Receiver). IsCounted r.given) node.ins

-- ---- a turn in which nothing moved

-- what was read, taken up, taken and written is as before; frames may have been offered
pub record StandsStill (before after : Node) : Type 0 where
  pub read : after.read ≡ before.read
  pub records : after.records ≡ before.records
  pub wrote : after.wrote ≡ before.wrote
  pub wrote_all : after.wrote_all ≡ before.wrote_all
  pub in_count : length after.ins ≡ length before.ins
  pub out_count : length after.outs ≡ length before.outs
  pub given : (j : ℕ) → j < length before.ins → (in_at after j).given ≡ (in_at before j).given

-- over pipes that tell, the bytes of each are as before
pub record SenderStays (s t : Sender) : Type 0 where
  pub put : t.put ≡ s.put
  pub back : t.back ≡ s.back

pub record ReceiverStays (r t : Receiver) : Type 0 where
  pub got : t.got ≡ r.got
  pub paid : t.paid ≡ r.paid

pub record PipesStay (before after : Node) : Type 0 where
  pub ins : (j : ℕ) → j < length before.ins → ReceiverStays (in_at before j) (in_at after j)
  pub outs : (k : ℕ) → k < length before.outs → SenderStays (out_at before k) (out_at after k)

-- ---- the three answers, over all pipes

pub record MovedRow (after : Node) : Type 0 where
  pub orderly : IsOrderly after
  pub few : OffersFew after

pub record IdleRow (credits : ℕ) (before after : Node) : Type 0 where
  pub still : StandsStill before after
  pub idle : IsIdle credits before after
  pub orderly : IsOrderly after
  pub few : OffersFew after

pub record DoneRow (before after : Node) : Type 0 where
  pub still : StandsStill before after
  pub done : IsDone after
  pub orderly : IsOrderly after
  pub few : OffersFew after

-- what a turn says by its answer
abbrev pub TurnSays : (credits : ℕ) (before after : Node) → Turn → Type 0
TurnSays credits before after Moved = MovedRow after
TurnSays credits before after Idle = IdleRow credits before after
TurnSays credits before after Done = DoneRow before after

-- ---- the same where all pipes of the node tell

-- and what it says of the bytes
abbrev pub TurnTells : (before after : Node) → Turn → Type 0
TurnTells before after Moved = moved before < moved after
TurnTells before after Idle = PipesStay before after
TurnTells before after Done = PipesStay before after

-- moved: something came or went
pub record Moves (before after : Node) : Type 0 where
  pub row : MovedRow after
  pub rises : moved before < moved after

-- idle or done: no byte came or went
pub record Rests (credits : ℕ) (before after : Node) : Type 0 where
  pub row : IdleRow credits before after ⊎ DoneRow before after
  pub pipes : PipesStay before after

-- moved, idle or done
abbrev pub Answers : (credits : ℕ) (before after : Node) → Type 0
Answers credits before after = Moves before after ⊎ Rests credits before after

-- which a turn is by both
abbrev pub TurnAnswers : (credits : ℕ) (before after : Node) → Turn → Type 0
TurnAnswers credits before after turn = TurnSays credits before after turn → TurnTells before after turn → Answers credits before after

-- where a node stands still, the count of what it has moved does too
abbrev pub StillCounts : (before after : Node) → Type 0
StillCounts before after = StandsStill before after → PipesStay before after → moved after ≡ moved before

-- and no answer lowers it
abbrev pub NoneLowers : (credits : ℕ) (before after : Node) → Type 0
NoneLowers credits before after = Answers credits before after → moved before ≤ moved after

-- ---- a look at its links

-- all but of how many bytes an end is sure is as before
pub record SenderIsLookedAt (s t : Sender) : Type 0 where
  pub offered : t.offered ≡ s.offered
  pub waiting : t.waiting ≡ s.waiting
  pub put : t.put ≡ s.put
  pub left : t.left ≡ s.left
  pub held : t.held ≡ s.held
  pub back : t.back ≡ s.back
  pub put_silent : t.put_silent ≡ s.put_silent
  pub back_silent : t.back_silent ≡ s.back_silent

pub record ReceiverIsLookedAt (r t : Receiver) : Type 0 where
  pub got : t.got ≡ r.got
  pub given : t.given ≡ r.given
  pub box : t.box ≡ r.box
  pub paid : t.paid ≡ r.paid
  pub owed : t.owed ≡ r.owed
  pub got_silent : t.got_silent ≡ r.got_silent
  pub paid_silent : t.paid_silent ≡ r.paid_silent

pub record IsLookedAt (before after : Node) : Type 0 where
  pub read : after.read ≡ before.read
  pub records : after.records ≡ before.records
  pub wrote : after.wrote ≡ before.wrote
  pub wrote_all : after.wrote_all ≡ before.wrote_all
  pub in_count : length after.ins ≡ length before.ins
  pub out_count : length after.outs ≡ length before.outs
  pub ins : (j : ℕ) → j < length before.ins → ReceiverIsLookedAt (in_at before j) (in_at after j)
  pub outs : (k : ℕ) → k < length before.outs → SenderIsLookedAt (out_at before k) (out_at after k)

-- a look after a turn leaves what the turn says as it was
abbrev pub LooksKeep : (credits : ℕ) (before now after : Node) → Type 0
LooksKeep credits before now after = IsLookedAt now after → Rests credits before now → Rests credits before after
