-- A node's ends of links as plain lists: what came and went on each, and how the laws of a run see them.
use Rattle.std.specs.Prelude.{ℕ, ◌≡◌, ◌<◌, List, [], ◌∷◌, ◌++◌, All, None, length, map, slice_index_or}
use Rattle.node_frames.specs.declared.frame.Frame.{Frame}
use Rattle.credit_link.specs.Ends.{TxSeen, RxSeen, RxStands}
use Rattle.shuffle_poll.specs.Lanes.{IsBlocked}
use Rattle.shuffle_poll.specs.Shuffles.{ShuffleSeen, ShuffleHolds, lane_of}
use Rattle.round_law.specs.Links.{Sender, Receiver}
use Rattle.round_law.specs.Views.{sender_view, receiver_view, TxTells, RxTells}
use Rattle.run_law.specs.Shapes.{IsFront}

-- ---- the frames of each link

-- the frames given on link j in
abbrev pub given_on : List RxSeen → ℕ → List Frame
given_on ins j = slice_index_or (map (λ (r : RxSeen). r.given) ins) j []

abbrev pub puts_with : List TxSeen → List (List Frame) → List (List Frame)
puts_with [] queues = []
puts_with (l ∷ links) [] = l.offered ∷ puts_with links []
puts_with (l ∷ links) (q ∷ queues) = (l.offered ++ q) ∷ puts_with links queues

-- the frames put for link k out: those offered, and those that wait
abbrev pub put_on : ShuffleSeen → ℕ → List Frame
put_on outs k = slice_index_or (puts_with outs.links outs.queues) k []

-- ---- how the laws of a run see the ends

abbrev pub senders_with : List TxSeen → List (List Frame) → List Sender
senders_with [] queues = []
senders_with (l ∷ links) [] = sender_view 0 l ∷ senders_with links []
senders_with (l ∷ links) (q ∷ queues) = sender_view (length q) l ∷ senders_with links queues

abbrev pub senders_of : ShuffleSeen → List Sender
senders_of outs = senders_with outs.links outs.queues

abbrev pub receivers_of : List RxSeen → List Receiver
receivers_of ins = map receiver_view ins

-- all pipes of the ends tell
pub record EndsTell (receiving : List RxSeen) (sending : List TxSeen) : Type 0 where
  pub ins : All RxTells receiving
  pub outs : All TxTells sending

-- ---- what stands between turns

-- the links in: each is sound, and has so many credits
pub record InsStand (number : ℕ) (ins : List RxSeen) : Type 0 where
  pub stand : All RxStands ins
  pub credits : All (λ (r : RxSeen). r.credits ≡ number) ins

-- the links out
pub record OutsStand (number : ℕ) (outs : ShuffleSeen) : Type 0 where
  pub holds : ShuffleHolds outs.links outs.queues
  pub credits : All (λ (l : TxSeen). l.credits ≡ number) outs.links

-- after a turn that gave no fault: no end has met one, and each frame taken was granted
pub record InsAreQuiet (ins : List RxSeen) : Type 0 where
  pub quiet : All (λ (r : RxSeen). r.fault ≡ None) ins
  pub granted : All (λ (r : RxSeen). r.ungranted ≡ 0) ins

abbrev pub OutsAreQuiet : ShuffleSeen → Type 0
OutsAreQuiet outs = All (λ (l : TxSeen). l.fault ≡ None) outs.links

-- after an idle turn: no frame waits on a link that is ready for one
abbrev pub OutsAreBlocked : ShuffleSeen → Type 0
OutsAreBlocked outs = (k : ℕ) (d : TxSeen) → k < length outs.links → IsBlocked (lane_of outs k d)

-- ---- how the ends go on

-- a receiving end: the same link, and the frames given before are a front
pub record RxGoes (before after : RxSeen) : Type 0 where
  pub credits : after.credits ≡ before.credits
  pub names : (after.forth_name ≡ before.forth_name) × (after.back_name ≡ before.back_name)
  pub told : (after.forth.told ≡ before.forth.told) × (after.back.told ≡ before.back.told)
  pub given : IsFront before.given after.given

-- a sending end
pub record TxGoes (before after : TxSeen) : Type 0 where
  pub credits : after.credits ≡ before.credits
  pub names : (after.forth_name ≡ before.forth_name) × (after.back_name ≡ before.back_name)
  pub told : (after.forth.told ≡ before.forth.told) × (after.back.told ≡ before.back.told)
  pub offered : IsFront before.offered after.offered

-- the links in
pub record InsGo (before after : List RxSeen) : Type 0 where
  pub as_many : length after ≡ length before
  pub each : (j : ℕ) (d : RxSeen) → j < length before → RxGoes (slice_index_or before j d) (slice_index_or after j d)

-- the links out: what was put before is a front too
pub record OutsGo (before after : ShuffleSeen) : Type 0 where
  pub as_many : length after.links ≡ length before.links
  pub each : (k : ℕ) (d : TxSeen) → k < length before.links → TxGoes (slice_index_or before.links k d) (slice_index_or after.links k d)
  pub put : (k : ℕ) → IsFront (put_on before k) (put_on after k)
