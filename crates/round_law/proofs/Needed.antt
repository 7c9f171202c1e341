-- Two nodes that are stuck where a clause of `IsIdle` is dropped.
use Rattle.std.proofs.Common.{◌^◌, ℕ, zero, suc, ◌+◌, ◌-◌, ◌*◌, ◌<◌, ◌≤◌, ◌≡◌, ◌⊎◌, ◌++◌, Bool, true, false, List, [], ◌∷◌, length, refl, sym, subst, ◌∙◌, inl, inr, ⊎_elim, arith, lit<, append-nil, length-append}
use Rattle.std.specs.Prelude.{IsTrue, All}
use Rattle.std.proofs.lemmas.Bool.{false≢true}
use Rattle.node_frames.specs.declared.frame.Frame.{Frame}
use Rattle.node_frames.specs.declared.frame.Frame.TheVariants.{GroupMark}
use Rattle.node_frames.specs.declared.wire.Wire.{Wire}
use Rattle.node_frames.specs.declared.wire.Wire.TheVariants.{Plain}
use Rattle.node_frames.specs.Fields.{bytes_of}
use Rattle.node_frames.specs.Table.{payload_of}
use Rattle.node_frames.specs.Link.{Opens, SpellsAll, framed}
use Rattle.node_frames.proofs.Bytes.{length-bytes_of}
use Rattle.round_law.specs.Links.{IsCounted, Sender, Receiver, ring_bytes, has_finish, FinishIsLast, OpensNoFrame, IsSender, IsReceiver, IsGranted, HasSentAll, HasTakenAll, AreJoined}
use Rattle.round_law.specs.Waits.{in_at, PipeEnd, AnsweredIn, NoneWaits, Waits, IsDone}
use Rattle.round_law.specs.Waits.PipeEnd.{DataOut, CreditOut, DataIn, CreditIn}
use Rattle.round_law.specs.Rows.{AreCounted, IsOrderly, HasSoundEnds, OffersFew, frames_beside}
use Rattle.round_law.specs.Network.{Leads}
use Rattle.round_law.specs.Needed.{Clause, clause_of, IsIdleBut, sending, receiving, pair_of, rank_of, IsStuckWithout, EachClauseIsNeeded}
use Rattle.round_law.specs.Needed.Clause.{SomeEnd, NoRoom, NoCoins, NoItems, NoSlots, NoFrame}
use Rattle.round_law.proofs.Ends.{no_frame_opens_nothing}

-- ---- lists of one

pub all_one : {X : Type 0} (P : X → Type 0) (x : X) → P x → All P (x ∷ [])
all_one P x h zero d less = h
all_one P x h (suc k) d less = absurd (omega arith)

pub all_none : {X : Type 0} (P : X → Type 0) → All P []
all_none P k d less = absurd (omega arith)

-- ---- the two nodes, from what each end and the link need

-- what an end that sends needs
record Sends (clause : Clause) (s : Sender) : Type 0 where
  sound : IsSender 1 s
  few : length s.offered ≤ 1
  open_yet : has_finish s.offered ≡ false
  last : FinishIsLast s.offered
  waits : ¬ (clause ≡ SomeEnd) → (0 < length s.left) ⊎ (0 < s.waiting) × (s.held ≡ 1)
  room : ¬ (clause ≡ NoRoom) → 0 < length s.left → s.room ≡ 0
  coins : ¬ (clause ≡ NoCoins) → 0 < s.waiting → s.coins ≡ 0
  put_silent : s.put_silent ≡ 2 ^ 64 - 1
  back_silent : s.back_silent ≡ 2 ^ 64 - 1

record Takes (clause : Clause) (r : Receiver) : Type 0 where
  sound : IsReceiver r
  granted : IsGranted r
  few : length r.given ≤ 1
  open_yet : has_finish r.given ≡ false
  last : FinishIsLast r.given
  items : ¬ (clause ≡ NoItems) → r.items ≡ 0
  slots : ¬ (clause ≡ NoSlots) → 0 < r.owed → r.slots ≡ 0
  empty : ¬ (clause ≡ NoFrame) → OpensNoFrame r.box
  got_silent : r.got_silent ≡ 2 ^ 64 - 1
  paid_silent : r.paid_silent ≡ 2 ^ 64 - 1

sender_idles : (clause : Clause) (s : Sender) → Sends clause s → IsIdleBut clause 1 (sending s)
sender_idles clause s sends = record { waits = waits; answered = answered; empty = λ kept none j less. absurd (omega arith) }
  where
    waits : ¬ (clause ≡ SomeEnd) → (end : PipeEnd) × Waits 1 (sending s) end
    waits kept =
        ⊎_elim
        (λ (some : 0 < length s.left). (DataOut 0, (omega arith, some)))
        (λ (w : (0 < s.waiting) × (s.held ≡ 1)). (CreditOut 0, (omega arith, inl w)))
        (sends.waits kept)

    answered : (end : PipeEnd) → ¬ (clause ≡ clause_of end) → Waits 1 (sending s) end → AnsweredIn (sending s) (sending s) end
    answered (DataOut zero) kept (less, some) = (sends.room kept some, inr (sends.put_silent, refl))
    answered (DataOut (suc k)) kept (less, some) = absurd (omega arith)
    answered (CreditOut zero) kept (less, wants) =
        ⊎_elim
        (λ (w : (0 < s.waiting) × (s.held ≡ 1)). (sends.coins kept w.0, inr (sends.back_silent, refl)))
        (λ (w : IsTrue (has_finish s.offered) × (0 < s.held)). absurd (false≢true (sym sends.open_yet ∙ w.0)))
        wants
    answered (CreditOut (suc k)) kept (less, wants) = absurd (omega arith)
    answered (DataIn j) kept (less, open_yet, none) = absurd (omega arith)
    answered (CreditIn j) kept (less, some) = absurd (omega arith)

receiver_idles : (clause : Clause) (r : Receiver) → Takes clause r → IsIdleBut clause 1 (receiving r)
receiver_idles clause r takes = record { waits = waits; answered = answered; empty = empty }
  where
    waits : ¬ (clause ≡ SomeEnd) → (end : PipeEnd) × Waits 1 (receiving r) end
    waits kept = (DataIn 0, (omega arith, takes.open_yet, all_none (λ (s : Sender). s.waiting ≡ 0)))

    answered : (end : PipeEnd) → ¬ (clause ≡ clause_of end) → Waits 1 (receiving r) end → AnsweredIn (receiving r) (receiving r) end
    answered (DataOut k) kept (less, some) = absurd (omega arith)
    answered (CreditOut k) kept (less, wants) = absurd (omega arith)
    answered (DataIn zero) kept (less, open_yet, none) = (takes.items kept, inr (takes.got_silent, refl))
    answered (DataIn (suc j)) kept (less, open_yet, none) = absurd (omega arith)
    answered (CreditIn zero) kept (less, some) = (takes.slots kept some, inr (takes.paid_silent, refl))
    answered (CreditIn (suc j)) kept (less, some) = absurd (omega arith)

    empty : ¬ (clause ≡ NoFrame) → NoneWaits (receiving r) → (j : ℕ) → j < 1 → has_finish (in_at (receiving r) j).given ≡ false → OpensNoFrame (in_at (receiving r) j).box
    empty kept none zero less open_yet = takes.empty kept
    empty kept none (suc j) less open_yet = absurd (omega arith)

module _ (clause : Clause) (s : Sender) (r : Receiver) (joined : AreJoined 1 s r) (sends : Sends clause s) (takes : Takes clause r) where
  leads : Leads (λ n. Unit {0}) rank_of 1 (pair_of s r) false 0 true 0
  leads = record { from = tt; out = omega arith; to = tt; into = omega arith; rises = omega arith; joined = joined }

  outs : (n : Bool) → Unit {0} → (k : ℕ) → k < length (pair_of s r n).outs → (m : Bool) × (j : ℕ) × Leads (λ n. Unit {0}) rank_of 1 (pair_of s r) n k m j
  outs false there zero less = (true, 0, leads)
  outs false there (suc k) less = absurd (omega arith)
  outs true there k less = absurd (omega arith)

  ins : (m : Bool) → Unit {0} → (j : ℕ) → j < length (pair_of s r m).ins → (n : Bool) × (k : ℕ) × Leads (λ n. Unit {0}) rank_of 1 (pair_of s r) n k m j
  ins true there zero less = (false, 0, leads)
  ins true there (suc j) less = absurd (omega arith)
  ins false there j less = absurd (omega arith)

  below : (n : Bool) → Unit {0} → rank_of n < 2
  below false there = omega arith
  below true there = omega arith

  orderly : (n : Bool) → IsOrderly (pair_of s r n)
  orderly false = record {
    granted = all_none (λ (r : Receiver). IsCounted r.given → IsGranted r);
    taken = all_none (λ (r : Receiver). FinishIsLast r.given);
    offered = all_one (λ (s : Sender). FinishIsLast s.offered) s sends.last;
  }
  orderly true = record {
    granted = all_one (λ (r : Receiver). IsCounted r.given → IsGranted r) r (λ few. takes.granted);
    taken = all_one (λ (r : Receiver). FinishIsLast r.given) r takes.last;
    offered = all_none (λ (s : Sender). FinishIsLast s.offered);
  }

  one_within : length s.offered ≤ 2 * 0 + frames_beside
  unfolding frames_beside
  one_within = let few = sends.few in omega arith

  few : (n : Bool) → OffersFew (pair_of s r n)
  few false = all_one (λ (s : Sender). length s.offered ≤ 2 * 0 + frames_beside) s one_within
  few true = λ k d less. absurd (omega arith)

  sound : (n : Bool) → HasSoundEnds 1 (pair_of s r n)
  sound false = record { senders = all_one (λ (s : Sender). IsCounted s.offered → IsSender 1 s) s (λ few. sends.sound); receivers = all_none IsReceiver }
  sound true = record { senders = all_none (λ (s : Sender). IsCounted s.offered → IsSender 1 s); receivers = all_one IsReceiver r takes.sound }

  counted : (n : Bool) → AreCounted (pair_of s r n)
  counted false = record {
    offered = all_one (λ (s : Sender). IsCounted s.offered) s (let few = sends.few in omega arith);
    given = all_none (λ (r : Receiver). IsCounted r.given);
  }
  counted true = record {
    offered = all_none (λ (s : Sender). IsCounted s.offered);
    given = all_one (λ (r : Receiver). IsCounted r.given) r (let few = takes.few in omega arith);
  }

  idle : (n : Bool) → IsIdleBut clause 1 (pair_of s r n)
  idle false = sender_idles clause s sends
  idle true = receiver_idles clause r takes

  open_yet : (n : Bool) → IsDone (pair_of s r n) → ⊥
  open_yet false done = let sent : HasSentAll s = done.outs 0 s (omega arith) in false≢true (sym sends.open_yet ∙ sent.finish)
  open_yet true done = let taken : HasTakenAll r = done.ins 0 r (omega arith) in false≢true (sym takes.open_yet ∙ taken.finish)

  is_stuck : IsStuckWithout clause s r
  is_stuck = record {
    network = record { top = 2; below = below; outs = outs; ins = ins };
    orderly = orderly;
    few = few;
    sound = sound;
    counted = counted;
    idle = idle;
    open_yet = open_yet;
  }

-- ---- a frame

abbrev a_frame : Frame
a_frame = GroupMark 0

abbrev a_wire : Wire
a_wire = Plain (GroupMark 0)

a_bytes : List ℕ
a_bytes = framed a_wire

a_length : length a_bytes ≡ 13
unfolding a_bytes
a_length =
    let all : length a_bytes ≡ length (bytes_of 4 (length (payload_of a_wire))) + length (payload_of a_wire) = length-append (bytes_of 4 (length (payload_of a_wire))) (payload_of a_wire) in
    let word : length (bytes_of 4 (length (payload_of a_wire))) ≡ 4 = length-bytes_of 4 (length (payload_of a_wire)) in
    let mark : length (bytes_of 8 0) ≡ 8 = length-bytes_of 8 0 in
    omega arith

opens : Opens a_wire a_bytes []
unfolding a_bytes
opens = record {
  spells = record { fit = lit< tt; same = refl };
  short = let mark : length (bytes_of 8 0) ≡ 8 = length-bytes_of 8 0 in omega arith;
  joined = sym (append-nil (framed a_wire));
}

spelled : SpellsAll (a_frame ∷ []) a_bytes []
spelled = ([], opens, refl)

spelled_put : SpellsAll (a_frame ∷ []) (a_bytes ++ []) []
spelled_put = subst (λ (bytes : List ℕ). SpellsAll (a_frame ∷ []) bytes []) (sym (append-nil a_bytes)) spelled

-- ---- the ends

-- a frame was offered, held back by one credit, and a second waits; its bytes are put or left
abbrev held_by : (put left : List ℕ) (waiting room coins : ℕ) → Sender
held_by put left waiting room coins = record { offered = a_frame ∷ []; waiting = waiting; put = put; left = left; held = 1; back = 0; room = room; coins = coins; put_silent = 2 ^ 64 - 1; back_silent = 2 ^ 64 - 1 }

held_sound : (put left : List ℕ) (waiting room coins : ℕ) → SpellsAll (a_frame ∷ []) (put ++ left) [] → IsSender 1 (held_by put left waiting room coins)
held_sound put left waiting room coins h = record { spelled = h; counted = refl; within = omega arith }

nothing_behind : FinishIsLast (a_frame ∷ [])
nothing_behind = (λ has. absurd (false≢true has), tt)

-- all was put, and a second frame waits for a credit
waits_for_credit : (clause : Clause) (room coins : ℕ) → (¬ (clause ≡ NoCoins) → coins ≡ 0) → Sends clause (held_by a_bytes [] 1 room coins)
waits_for_credit clause room coins none = record {
  sound = held_sound a_bytes [] 1 room coins spelled_put;
  few = omega arith;
  open_yet = refl;
  last = nothing_behind;
  waits = λ kept. inr (omega arith, refl);
  room = λ kept some. absurd (omega arith);
  coins = λ kept some. none kept;
  put_silent = refl;
  back_silent = refl;
}

-- the frame was taken
abbrev took : (paid owed slots : ℕ) → Receiver
took paid owed slots = record { got = a_bytes; given = a_frame ∷ []; box = []; paid = paid; owed = owed; items = 0; slots = slots; got_silent = 2 ^ 64 - 1; paid_silent = 2 ^ 64 - 1 }

has_taken : (clause : Clause) (paid owed slots : ℕ) → paid + owed ≡ 1 → (¬ (clause ≡ NoSlots) → 0 < owed → slots ≡ 0) → Takes clause (took paid owed slots)
has_taken clause paid owed slots granted none = record {
  sound = spelled;
  granted = granted;
  few = omega arith;
  open_yet = refl;
  last = nothing_behind;
  items = λ kept. refl;
  slots = none;
  empty = λ kept. no_frame_opens_nothing;
  got_silent = refl;
  paid_silent = refl;
}

-- nothing was taken
abbrev pub took_none : (got box : List ℕ) (items : ℕ) → Receiver
took_none got box items = record { got = got; given = []; box = box; paid = 0; owed = 0; items = items; slots = 1; got_silent = 2 ^ 64 - 1; paid_silent = 2 ^ 64 - 1 }

has_taken_none : (clause : Clause) (bytes : List ℕ) (items : ℕ) → (¬ (clause ≡ NoItems) → items ≡ 0) → (¬ (clause ≡ NoFrame) → OpensNoFrame bytes) → Takes clause (took_none bytes bytes items)
has_taken_none clause bytes items no_items no_frame = record {
  sound = refl;
  granted = refl;
  few = omega arith;
  open_yet = refl;
  last = tt;
  items = no_items;
  slots = λ kept some. absurd (omega arith);
  empty = no_frame;
  got_silent = refl;
  paid_silent = refl;
}

-- ---- the links

-- nothing lies in the ring
empty_ring : (s : Sender) (r : Receiver) → s.put ≡ r.got → s.room ≡ ring_bytes → r.items ≡ 0 → s.back + s.coins ≡ r.paid → s.coins + r.slots ≡ 1 → AreJoined 1 s r
empty_ring s r same room items coins slots = record {
  some = omega arith;
  ring = [];
  through = same ∙ sym (append-nil r.got);
  room = omega arith;
  items = items;
  coins = coins;
  slots = slots;
}

-- nothing was offered
abbrev idle_sender : Sender
idle_sender = record { offered = []; waiting = 0; put = []; left = []; held = 0; back = 0; room = ring_bytes; coins = 0; put_silent = 2 ^ 64 - 1; back_silent = 2 ^ 64 - 1 }

-- ---- one network for each clause

-- nothing was ever offered
waits_on_nothing : EachClauseIsNeeded SomeEnd
waits_on_nothing = (
  idle_sender,
  took_none [] [] 0,
  is_stuck SomeEnd idle_sender (took_none [] [] 0) (empty_ring idle_sender (took_none [] [] 0) refl refl refl refl refl)
      (record {
        sound = record { spelled = refl; counted = refl; within = omega arith };
        few = omega arith;
        open_yet = refl;
        last = tt;
        waits = λ kept. absurd (kept refl);
        room = λ kept some. absurd (omega arith);
        coins = λ kept some. absurd (omega arith);
        put_silent = refl;
        back_silent = refl;
      })
      (has_taken_none SomeEnd [] 0 (λ kept. refl) (λ kept. no_frame_opens_nothing)),
)

-- a frame's bytes are left, though the ring is empty
leaves_room : EachClauseIsNeeded NoRoom
leaves_room = (
  held_by [] a_bytes 0 ring_bytes 0,
  took_none [] [] 0,
  is_stuck NoRoom (held_by [] a_bytes 0 ring_bytes 0) (took_none [] [] 0) (empty_ring (held_by [] a_bytes 0 ring_bytes 0) (took_none [] [] 0) refl refl refl refl refl)
      (record {
        sound = held_sound [] a_bytes 0 ring_bytes 0 spelled;
        few = omega arith;
        open_yet = refl;
        last = nothing_behind;
        waits = λ kept. inl (let n = a_length in omega arith);
        room = λ kept. absurd (kept refl);
        coins = λ kept some. absurd (omega arith);
        put_silent = refl;
        back_silent = refl;
      })
      (has_taken_none NoRoom [] 0 (λ kept. refl) (λ kept. no_frame_opens_nothing)),
)

-- a credit came, and is not taken
leaves_a_credit : EachClauseIsNeeded NoCoins
leaves_a_credit = (
  held_by a_bytes [] 1 ring_bytes 1,
  took 1 0 0,
  is_stuck NoCoins (held_by a_bytes [] 1 ring_bytes 1) (took 1 0 0) (empty_ring (held_by a_bytes [] 1 ring_bytes 1) (took 1 0 0) refl refl refl refl refl)
      (waits_for_credit NoCoins ring_bytes 1 (λ kept. absurd (kept refl)))
      (has_taken NoCoins 1 0 0 refl (λ kept some. absurd (omega arith))),
)

full_ring : AreJoined 1 (held_by a_bytes [] 1 (ring_bytes - 13) 0) (took_none [] [] 13)
unfolding ring_bytes
full_ring = record {
  some = omega arith;
  ring = a_bytes;
  through = refl;
  room = let n = a_length in omega arith;
  items = sym a_length;
  coins = refl;
  slots = refl;
}

-- a frame's bytes lie in the ring, and do not come out
leaves_bytes : EachClauseIsNeeded NoItems
leaves_bytes = (
  held_by a_bytes [] 1 (ring_bytes - 13) 0,
  took_none [] [] 13,
  is_stuck NoItems (held_by a_bytes [] 1 (ring_bytes - 13) 0) (took_none [] [] 13) full_ring
      (waits_for_credit NoItems (ring_bytes - 13) 0 (λ kept. refl))
      (has_taken_none NoItems [] 13 (λ kept. absurd (kept refl)) (λ kept. no_frame_opens_nothing)),
)

-- a credit is owed, though its ring has room
owes_a_credit : EachClauseIsNeeded NoSlots
owes_a_credit = (
  held_by a_bytes [] 1 ring_bytes 0,
  took 0 1 1,
  is_stuck NoSlots (held_by a_bytes [] 1 ring_bytes 0) (took 0 1 1) (empty_ring (held_by a_bytes [] 1 ring_bytes 0) (took 0 1 1) refl refl refl refl refl)
      (waits_for_credit NoSlots ring_bytes 0 (λ kept. refl))
      (has_taken NoSlots 0 1 1 refl (λ kept. absurd (kept refl))),
)

-- a whole frame waits in the box
leaves_a_frame : EachClauseIsNeeded NoFrame
leaves_a_frame = (
  held_by a_bytes [] 1 ring_bytes 0,
  took_none a_bytes a_bytes 0,
  is_stuck NoFrame (held_by a_bytes [] 1 ring_bytes 0) (took_none a_bytes a_bytes 0) (empty_ring (held_by a_bytes [] 1 ring_bytes 0) (took_none a_bytes a_bytes 0) refl refl refl refl refl)
      (waits_for_credit NoFrame ring_bytes 0 (λ kept. refl))
      (has_taken_none NoFrame a_bytes 0 (λ kept. refl) (λ kept. absurd (kept refl))),
)

pub each_clause_is_needed : (clause : Clause) → EachClauseIsNeeded clause
each_clause_is_needed SomeEnd = waits_on_nothing
each_clause_is_needed NoRoom = leaves_room
each_clause_is_needed NoCoins = leaves_a_credit
each_clause_is_needed NoItems = leaves_bytes
each_clause_is_needed NoSlots = owes_a_credit
each_clause_is_needed NoFrame = leaves_a_frame
