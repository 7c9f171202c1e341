-- One link between two ends.
use Rattle.std.proofs.Common.{ℕ, ◌+◌, ◌<◌, ◌≤◌, ◌≡◌, ◌⊎◌, ◌++◌, Bool, true, false, List, [], ◌∷◌, length, refl, sym, ap, subst, ◌∙◌, inl, inr, ⊎_elim, arith, append_assoc, append-nil, length-append}
use Rattle.std.specs.Prelude.{IsTrue}
use Rattle.std.proofs.lemmas.Bool.{false≢true}
use Rattle.std.proofs.lemmas.List.{nil_from_length}
use Rattle.node_frames.specs.declared.frame.Frame.{Frame}
use Rattle.node_frames.specs.Fields.{bytes_of}
use Rattle.node_frames.specs.Table.{payload_of}
use Rattle.node_frames.specs.Link.{SpellsAll, SpellsFrom, framed, wire_of, carried}
use Rattle.node_frames.proofs.Bytes.{length-bytes_of}
use Rattle.node_frames.proofs.Links.{bytes_come_after, two_readings_are_one}
use Rattle.round_law.specs.Links.{Sender, Receiver, ring_bytes, is_finish, has_finish, FinishIsLast, OpensNoFrame, IsSender, IsReceiver, IsGranted, HasSentAll, AreJoined, StartsSound, DoneIsSettled, OwesWithin, SentSome}
use Rattle.round_law.specs.Waits.{WantsCredit}
use Rattle.round_law.specs.Rows.{SenderStays, ReceiverStays}

-- ---- lists

none_behind : {X : Type 0} (xs ys : List X) → xs ++ ys ≡ [] → (xs ≡ []) × (ys ≡ [])
none_behind xs ys e =
    let n : length xs + length ys ≡ 0 = sym (length-append xs ys) ∙ ap length e in
    (nil_from_length xs (omega arith), nil_from_length ys (omega arith))

none_or_some : {X : Type 0} (xs : List X) → (xs ≡ []) ⊎ (0 < length xs)
none_or_some [] = inl refl
none_or_some (x ∷ xs) = inr (omega arith)

-- nothing stands behind a Finish
pub finish_ends : (front later : List Frame) → FinishIsLast (front ++ later) → IsTrue (has_finish front) → later ≡ []
finish_ends [] later last has = absurd (false≢true has)
finish_ends (f ∷ fs) later last has = by_test (is_finish f) refl (finish_ends fs later last.1)
  where
    by_test : (b : Bool) → is_finish f ≡ b → (IsTrue (has_finish fs) → later ≡ []) → later ≡ []
    by_test true e more = (none_behind fs later (last.0 e)).1
    by_test false e more = more (rw e at has)

-- ---- frames still to come

pub no_frame_opens_nothing : OpensNoFrame []
no_frame_opens_nothing wire after opens =
    let long : 0 ≡ length (framed wire ++ after) = ap length opens.joined in
    let sum : length (framed wire ++ after) ≡ length (framed wire) + length after = length-append (framed wire) after in
    let four : length (framed wire) ≡ length (bytes_of 4 (length (payload_of wire))) + length (payload_of wire) = length-append (bytes_of 4 (length (payload_of wire))) (payload_of wire) in
    let word : length (bytes_of 4 (length (payload_of wire))) ≡ 4 = length-bytes_of 4 (length (payload_of wire)) in
    omega arith

none_to_come : (count : ℕ) (front : List ℕ) (later : List Frame) (bytes : List ℕ) → SpellsFrom count front later bytes [] → OpensNoFrame bytes → later ≡ []
none_to_come count front [] bytes h none = refl
none_to_come count front (f ∷ fs) bytes (after, opens, rest) none = absurd (none (wire_of count front f) after opens)

no_bytes_to_come : (count : ℕ) (front : List ℕ) (later : List Frame) (bytes : List ℕ) → SpellsFrom count front later bytes [] → later ≡ [] → bytes ≡ []
no_bytes_to_come count front later bytes h e = subst (λ (frames : List Frame). SpellsFrom count front frames bytes []) e h

-- the two ends of a link after a round in which they stood still, which began with a look
pub record Meets (credits : ℕ) (sb sa : Sender) (rb ra : Receiver) : Type 0 where
  pub joined : AreJoined credits sb rb
  pub sends : IsSender credits sa
  pub last : FinishIsLast sa.offered
  pub takes : IsReceiver ra
  pub granted : IsGranted ra
  pub out : SenderStays sb sa
  pub into : ReceiverStays rb ra

-- a link that its receiver does not block: nothing lies in the ring, no credit is owed, no frame waits in the box
pub record IsClear (rb ra : Receiver) : Type 0 where
  pub items : rb.items ≡ 0
  pub owed : ra.owed ≡ 0
  pub empty : OpensNoFrame ra.box

-- the frames offered and not taken, which the bytes in the box, in the ring and left spell
pub record Later (s : Sender) (r : Receiver) (ring : List ℕ) : Type 0 where
  pub frames : List Frame
  pub offered : s.offered ≡ r.given ++ frames
  pub spelled : SpellsFrom (length r.given) (carried 0 [] r.given) frames (r.box ++ (ring ++ s.left)) []

pub later_frames : (credits : ℕ) (s : Sender) (r : Receiver) (ring : List ℕ) → IsSender credits s → IsReceiver r → s.put ≡ r.got ++ ring → Later s r ring
later_frames credits s r ring sends takes through =
    let more : SpellsAll r.given (r.got ++ (ring ++ s.left)) (r.box ++ (ring ++ s.left)) = bytes_come_after r.given r.got r.box (ring ++ s.left) takes in
    let same : s.put ++ s.left ≡ r.got ++ (ring ++ s.left) = ap (λ (bytes : List ℕ). bytes ++ s.left) through ∙ append_assoc r.got ring s.left in
    let all : SpellsAll s.offered (r.got ++ (ring ++ s.left)) [] = subst (λ (bytes : List ℕ). SpellsAll s.offered bytes []) same sends.spelled in
    let one = two_readings_are_one s.offered r.given (r.got ++ (ring ++ s.left)) (r.box ++ (ring ++ s.left)) all more in
    record { frames = one.0; offered = one.1; spelled = one.2 }

pub given_within : (s : Sender) (r : Receiver) (ring : List ℕ) → Later s r ring → length r.given ≤ length s.offered
given_within s r ring later =
    let n : length s.offered ≡ length r.given + length later.frames = ap length later.offered ∙ length-append r.given later.frames in
    omega arith

-- where Finish was taken, nothing is left
pub finish_leaves_none : (s : Sender) (r : Receiver) (ring : List ℕ) → Later s r ring → FinishIsLast s.offered → IsTrue (has_finish r.given)
    → (r.given ≡ s.offered) × (r.box ≡ []) × (ring ≡ []) × (s.left ≡ [])
finish_leaves_none s r ring later last has =
    let none : later.frames ≡ [] = finish_ends r.given later.frames (subst FinishIsLast later.offered last) has in
    let bytes : r.box ++ (ring ++ s.left) ≡ [] = no_bytes_to_come (length r.given) (carried 0 [] r.given) later.frames (r.box ++ (ring ++ s.left)) later.spelled none in
    let parts = none_behind r.box (ring ++ s.left) bytes in
    let others = none_behind ring s.left parts.1 in
    let whole : s.offered ≡ r.given = later.offered ∙ ap (λ (frames : List Frame). r.given ++ frames) none ∙ append-nil r.given in
    (sym whole, parts.0, others.0, others.1)

-- where no byte is underway and no frame waits in the box, all was taken
pub quiet_has_all : (s : Sender) (r : Receiver) (ring : List ℕ) → Later s r ring → ring ≡ [] → s.left ≡ [] → OpensNoFrame r.box → s.offered ≡ r.given
quiet_has_all s r ring later no_ring no_left empty =
    let bytes : r.box ++ (ring ++ s.left) ≡ r.box =
    ap (λ (more : List ℕ). r.box ++ (more ++ s.left)) no_ring ∙ ap (λ (more : List ℕ). r.box ++ more) no_left ∙ append-nil r.box in
    let none : later.frames ≡ [] =
    none_to_come (length r.given) (carried 0 [] r.given) later.frames r.box
    (subst (λ (more : List ℕ). SpellsFrom (length r.given) (carried 0 [] r.given) later.frames more []) bytes later.spelled) empty in
    later.offered ∙ ap (λ (frames : List Frame). r.given ++ frames) none ∙ append-nil r.given

-- ---- a link in a still round

module _ (credits : ℕ) (sb sa : Sender) (rb ra : Receiver) (meets : Meets credits sb sa rb ra) where
  later : Later sa ra meets.joined.ring
  later =
      later_frames credits sa ra meets.joined.ring meets.sends meets.takes
      (meets.out.put ∙ meets.joined.through ∙ ap (λ (bytes : List ℕ). bytes ++ meets.joined.ring) (sym meets.into.got))

  -- a receiver never owes more credits than its ring has room for
  pub owes_few : ra.owed ≤ rb.slots
  owes_few =
      let within : length ra.given ≤ length sa.offered = given_within sa ra meets.joined.ring later in
      let counted = meets.sends.counted in
      let held = meets.sends.within in
      let granted = meets.granted in
      let back = meets.out.back in
      let paid = meets.into.paid in
      let coins = meets.joined.coins in
      let slots = meets.joined.slots in
      omega arith

  -- a link whose Finish was taken is clear
  pub finished_is_clear : IsTrue (has_finish ra.given) → ra.owed ≡ 0 → IsClear rb ra
  finished_is_clear has owed =
      let none = finish_leaves_none sa ra meets.joined.ring later meets.last has in
      record {
        items = meets.joined.items ∙ ap length none.2;
        owed = owed;
        empty = subst OpensNoFrame (sym none.1) no_frame_opens_nothing;
      }

  no_ring : IsClear rb ra → meets.joined.ring ≡ []
  no_ring clear = nil_from_length meets.joined.ring (sym meets.joined.items ∙ clear.items)

  -- nothing is left to put where there is room
  pub clear_has_none_left : IsClear rb ra → (0 < length sa.left → sb.room ≡ 0) → sa.left ≡ []
  unfolding ring_bytes
  clear_has_none_left clear answered =
      ⊎_elim
      (λ (e : sa.left ≡ []). e)
      (λ (some : 0 < length sa.left).
      let none : sb.room ≡ 0 = answered some in
      let empty : length meets.joined.ring ≡ 0 = sym meets.joined.items ∙ clear.items in
      let room = meets.joined.room in
      absurd (omega arith))
      (none_or_some sa.left)

  pub clear_has_all : IsClear rb ra → sa.left ≡ [] → sa.offered ≡ ra.given
  clear_has_all clear left = quiet_has_all sa ra meets.joined.ring later (no_ring clear) left clear.empty

  -- all that is held comes back at once
  pub clear_pays : IsClear rb ra → sa.left ≡ [] → sa.held ≡ sb.coins
  clear_pays clear left =
      let same : length sa.offered ≡ length ra.given = ap length (clear_has_all clear left) in
      let counted = meets.sends.counted in
      let granted = meets.granted in
      let owed = clear.owed in
      let back = meets.out.back in
      let paid = meets.into.paid in
      let coins = meets.joined.coins in
      omega arith

  pub clear_wants_none : IsClear rb ra → sa.left ≡ [] → (WantsCredit credits sa → sb.coins ≡ 0) → WantsCredit credits sa → ⊥
  clear_wants_none clear left answered wants =
      let none : sb.coins ≡ 0 = answered wants in
      let pays : sa.held ≡ sb.coins = clear_pays clear left in
      let some = meets.joined.some in
      ⊎_elim
      (λ (w : (0 < sa.waiting) × (sa.held ≡ credits)). let e : sa.held ≡ credits = w.1 in absurd (omega arith))
      (λ (w : IsTrue (has_finish sa.offered) × (0 < sa.held)). let e : 0 < sa.held = w.1 in absurd (omega arith))
      wants

  -- before the round the sender had sent all, if it has now
  pub had_sent_all : IsSender credits sb → FinishIsLast sb.offered → HasSentAll sa → HasSentAll sb
  had_sent_all sends last done =
      let shown : SpellsAll sa.offered (sb.put ++ sb.left) sb.left =
      subst (λ (bytes : List ℕ). SpellsAll sa.offered (bytes ++ sb.left) sb.left) meets.out.put
      (bytes_come_after sa.offered sa.put [] sb.left
      (subst (λ (bytes : List ℕ). SpellsAll sa.offered bytes []) (ap (λ (more : List ℕ). sa.put ++ more) done.left ∙ append-nil sa.put) meets.sends.spelled)) in
      let one = two_readings_are_one sb.offered sa.offered (sb.put ++ sb.left) sb.left sends.spelled shown in
      let none : one.0 ≡ [] = finish_ends sa.offered one.0 (subst FinishIsLast one.1 last) done.finish in
      let same : sb.offered ≡ sa.offered = one.1 ∙ ap (λ (frames : List Frame). sa.offered ++ frames) none ∙ append-nil sa.offered in
      let count : length sb.offered ≡ length sa.offered = ap length same in
      let held = done.held in
      let back = meets.out.back in
      let counted = meets.sends.counted in
      let counted_before = sends.counted in
      record {
        finish = subst (λ (frames : List Frame). IsTrue (has_finish frames)) (sym same) done.finish;
        left = no_bytes_to_come (length sa.offered) (carried 0 [] sa.offered) one.0 sb.left one.2 none;
        held = omega arith;
      }

-- ---- laws of one link

pub start_is_sound : (credits : ℕ) → StartsSound credits
unfolding ring_bytes
start_is_sound credits = record {
  sender = record { spelled = refl; counted = refl; within = omega arith };
  receiver = refl;
  granted = refl;
  last = tt;
  joined = λ some. record { some = some; ring = []; through = refl; room = omega arith; items = refl; coins = refl; slots = omega arith };
}

pub done_is_settled : (credits : ℕ) (s : Sender) (r : Receiver) → DoneIsSettled credits s r
done_is_settled credits s r sends last takes granted through sent taken =
    let later : Later s r through.0 = later_frames credits s r through.0 sends takes through.1 in
    let none = finish_leaves_none s r through.0 later last taken.finish in
    let count : length r.given ≡ length s.offered = ap length none.0 in
    let counted = sends.counted in
    let held = sent.held in
    let owed = taken.owed in
    record {
      taken = none.0;
      left = sent.left;
      ring = sym (through.1 ∙ ap (λ (more : List ℕ). r.got ++ more) none.2 ∙ append-nil r.got);
      box = none.1;
      owed = taken.owed;
      credits = omega arith;
      held = sent.held;
    }

pub owes_within : (credits : ℕ) (s : Sender) (r : Receiver) → OwesWithin credits s r
owes_within credits s r sends takes granted joined =
    let later : Later s r joined.ring = later_frames credits s r joined.ring sends takes joined.through in
    let within : length r.given ≤ length s.offered = given_within s r joined.ring later in
    let counted = sends.counted in
    let held = sends.within in
    let coins = joined.coins in
    let slots = joined.slots in
    (omega arith, omega arith)

pub sent_some : (s : Sender) → SentSome s
sent_some s done = by_frames s.offered done.finish
  where
    by_frames : (frames : List Frame) → IsTrue (has_finish frames) → 1 ≤ length frames
    by_frames [] has = absurd (false≢true has)
    by_frames (f ∷ fs) has = omega arith
