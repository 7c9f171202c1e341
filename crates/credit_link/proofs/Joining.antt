-- The two ends of a link: what was received is a prefix of what was sent.
use Rattle.std.proofs.Common.{◌≡◌, ◌≢◌, ◌<◌, ◌≤◌, ℕ, zero, suc, ◌+◌, ◌^◌, Bool, true, false, ◌||◌, IsTrue, List, [], ◌∷◌, ◌++◌, None, length, take, drop, replicate, refl, sym, ap, ◌∙◌, subst, inl, inr, ⊎_elim, arith, append_assoc, length-append, take_at, drop_at}
use Rattle.std.proofs.lemmas.List.{length-drop, length-replicate, drop-append-le, take-append-le}
use Rattle.sha2.specs.Sha256.{sha256}
use Rattle.byteorder.specs.Endian.{big_from}
use Rattle.byteorder.specs.Numbers.{big_from-append}
use Rattle.node_frames.specs.declared.frame.Frame.{Frame}
use Rattle.node_frames.specs.declared.frame.Frame.TheVariants.{Item, Mark, CaptureEnd, GroupHead, Member, GroupMark, AnswerRow, Profile, CountsRow, Finish}
use Rattle.node_frames.specs.declared.wire.Wire.{Wire}
use Rattle.node_frames.specs.declared.wire.Wire.TheVariants.{Plain, Sealed}
use Rattle.node_frames.specs.declared.wire.Seal.{Seal}
use Rattle.node_frames.specs.Fields.{bytes_of}
use Rattle.node_frames.specs.Table.{Spells, payload_of}
use Rattle.node_frames.specs.Link.{wire_of, Opens, SpellsFrom, SpellsAll}
use Rattle.node_frames.proofs.Bytes.{number_back, length-bytes_of}
use Rattle.node_frames.proofs.Frames.{one_wire}
use Rattle.node_frames.proofs.Links.{bytes_come_after, two_readings_are_one}
use Rattle.credit_link.specs.declared.link_bad.LinkBad.{LinkBad}
use Rattle.credit_link.specs.Frames.{IsCounted, bytes_of_all, wire_behind, is_finish, has_finish, FinishIsLast}
use Rattle.credit_link.specs.Ahead.{length_word, HasWhole, payload_ahead}
use Rattle.credit_link.specs.Ends.{TxSeen, RxSeen}
use Rattle.credit_link.specs.Pulling.{RepeatsEnd, IsFrameBad, IsSealBad, MeetsBad}
use Rattle.credit_link.specs.Joined.{AreJoined, FramesAreAPrefix, NoFaultStandsNext, EachByteIsACredit, OwedAreHeld}

-- ---- the frames that are still to come

-- the frames offered are those given and later ones, which the bytes in the box begin with
pub record Reading (tx : TxSeen) (rx : RxSeen) : Type 0 where
  pub rest : List ℕ
  pub later : List Frame
  pub all : tx.offered ≡ rx.given ++ later
  pub spelled : SpellsFrom (length rx.given) (bytes_of_all rx.given) later (rx.box ++ rest) []

pub reading : (tx : TxSeen) (rx : RxSeen) → AreJoined tx rx → Reading tx rx
reading tx rx j =
    let rest : List ℕ = j.bytes.0 ++ tx.left in
    let put : tx.forth.bytes ++ tx.left ≡ bytes_of_all tx.offered = j.sending.pipes.put j.counted j.told.0 in
    let whole : bytes_of_all tx.offered ≡ rx.forth.bytes ++ rest = sym put ∙ ap (λ b. b ++ tx.left) j.bytes.1 ∙ append_assoc rx.forth.bytes j.bytes.0 tx.left in
    let come : SpellsAll rx.given (rx.forth.bytes ++ rest) (rx.box ++ rest) = bytes_come_after rx.given rx.forth.bytes rx.box rest (j.receiving.pipes.reads j.told.2) in
    let P : List ℕ → Type 0 = λ bytes. SpellsAll rx.given bytes (rx.box ++ rest) in
    let found = two_readings_are_one tx.offered rx.given (bytes_of_all tx.offered) (rx.box ++ rest) (j.sending.sender.spelled j.counted) (subst P (sym whole) come) in
    record { rest = rest; later = found.0; all = found.1; spelled = found.2 }

pub frames_are_a_prefix : FramesAreAPrefix
frames_are_a_prefix tx rx j = let r = reading tx rx j in (r.later, r.all)

given_counted : (tx : TxSeen) (rx : RxSeen) → AreJoined tx rx → (length rx.given ≤ length tx.offered) × IsCounted rx.given
given_counted tx rx j =
    let r = reading tx rx j in
    let sum : length tx.offered ≡ length rx.given + length r.later = ap length r.all ∙ length-append rx.given r.later in
    (omega (arith, sum), omega (arith, sum, j.counted))

-- ---- no fault stands next

some_payload : (wire : Wire) → Spells wire (payload_of wire) → 1 ≤ length (payload_of wire)
some_payload (Plain (Item s)) h = omega arith
some_payload (Plain (Mark capture at)) h = omega arith
some_payload (Plain (CaptureEnd capture)) h = omega arith
some_payload (Plain (GroupHead first members key)) h = omega arith
some_payload (Plain (Member at vals)) h = omega arith
some_payload (Plain (GroupMark at)) h = omega arith
some_payload (Plain (AnswerRow r)) h = omega arith
some_payload (Plain (Profile p)) h = omega arith
some_payload (Plain (CountsRow capture c)) h = omega arith
some_payload (Sealed s) h = omega arith
some_payload (Plain Finish) h = absurd h.fit

-- a frame that the box and more bytes begin with: its length stands in the length word, and its payload is
-- there where so many bytes are
pub record Front (wire : Wire) (box : List ℕ) : Type 0 where
  pub word : 4 ≤ length box → length_word box ≡ length (payload_of wire)
  pub lawful : (1 ≤ length (payload_of wire)) × (length (payload_of wire) ≤ 1024)
  pub spells : (len : ℕ) → HasWhole box len → Spells wire (payload_ahead box len)

front : (wire : Wire) (box rest after : List ℕ) → Opens wire (box ++ rest) after → Front wire box
unfolding length_word
front wire box rest after opens =
    let n : ℕ = length (payload_of wire) in
    let small : length (payload_of wire) < 256 ^ 4 = omega (arith, opens.short) in
    let whole : box ++ rest ≡ bytes_of 4 (length (payload_of wire)) ++ (payload_of wire ++ after) = opens.joined ∙ append_assoc (bytes_of 4 (length (payload_of wire))) (payload_of wire) after in
    let word : 4 ≤ length box → big_from 0 4 box ≡ length (payload_of wire) =
    λ four. sym (big_from-append 4 box rest four) ∙ ap (big_from 0 4) whole ∙ number_back 4 (length (payload_of wire)) (payload_of wire ++ after) small in
    record {
      word = word;
      lawful = (some_payload wire opens.spells, opens.short);
      spells = λ len there.
          let size : len ≡ length (payload_of wire) = there.word ∙ word (omega (arith, there.whole)) in
          let behind : drop 4 (box ++ rest) ≡ payload_of wire ++ after = ap (drop 4) whole ∙ drop_at (bytes_of 4 (length (payload_of wire))) (payload_of wire ++ after) 4 (length-bytes_of 4 (length (payload_of wire))) in
          let here : payload_ahead box len ≡ take len (drop 4 (box ++ rest)) =
          sym (ap (take len) (drop-append-le 4 box rest (omega (arith, there.whole))) ∙ take-append-le len (drop 4 box) rest (omega (arith, length-drop 4 box, there.whole))) in
          record { fit = opens.spells.fit; same = here ∙ ap (take len) behind ∙ take_at (payload_of wire) after len (sym size) };
    }

repeats_finish : (frame : Frame) (n : ℕ) (bytes : List ℕ) (finished : Bool) → RepeatsEnd finished (wire_of n bytes frame) → IsTrue finished
repeats_finish (Item s) n bytes finished h = absurd h
repeats_finish (Mark capture at) n bytes finished h = absurd h
repeats_finish (CaptureEnd capture) n bytes finished h = absurd h
repeats_finish (GroupHead first members key) n bytes finished h = absurd h
repeats_finish (Member at vals) n bytes finished h = absurd h
repeats_finish (GroupMark at) n bytes finished h = absurd h
repeats_finish (AnswerRow r) n bytes finished h = absurd h
repeats_finish (Profile p) n bytes finished h = absurd h
repeats_finish (CountsRow capture c) n bytes finished h = absurd h
repeats_finish Finish n bytes finished h = h

abbrev due : ℕ → List ℕ → Seal
due n bytes = record { frames = n; digest = record { bytes = sha256 bytes } }

told_is_due : (frame : Frame) (n : ℕ) (bytes : List ℕ) (told : Seal) → wire_of n bytes frame ≡ Sealed told → told ≡ due n bytes
told_is_due (Item s) n bytes told h = let e = h in cc
told_is_due (Mark capture at) n bytes told h = let e = h in cc
told_is_due (CaptureEnd capture) n bytes told h = let e = h in cc
told_is_due (GroupHead first members key) n bytes told h = let e = h in cc
told_is_due (Member at vals) n bytes told h = let e = h in cc
told_is_due (GroupMark at) n bytes told h = let e = h in cc
told_is_due (AnswerRow r) n bytes told h = let e = h in cc
told_is_due (Profile p) n bytes told h = let e = h in cc
told_is_due (CountsRow capture c) n bytes told h = let e = h in cc
told_is_due Finish n bytes told h = let e = h in cc

-- nothing follows frames among which the end is
both_empty : (xs ys : List Frame) → xs ++ ys ≡ [] → ys ≡ []
both_empty [] ys h = h
both_empty (x ∷ xs) ys h = let e = h in cc

alone_by : (a b : Bool) (all more : List Frame) → (IsTrue a → all ≡ []) → a || b ≡ true → (b ≡ true → more ≡ []) → (all ≡ [] → more ≡ []) → more ≡ []
alone_by true b all more none e later empty = empty (none refl)
alone_by false b all more none e later empty = later e

last_alone : (frames more : List Frame) → FinishIsLast (frames ++ more) → has_finish frames ≡ true → more ≡ []
last_alone [] more last h = absurd (let k : false ≡ true = h in cc)
last_alone (f ∷ frames) more last h = alone_by (is_finish f) (has_finish frames) (frames ++ more) more last.0 h (last_alone frames more last.1) (both_empty frames more)

no_frame_bad : (given : List Frame) (finished : Bool) (frame : Frame) (later : List Frame) (box rest after : List ℕ) (len : ℕ) → Opens (wire_behind given frame) (box ++ rest) after
    → (IsTrue finished → frame ∷ later ≡ []) → ¬ (IsFrameBad finished box len)
no_frame_bad given finished frame later box rest after len opens alone (inl unlawful) =
    let at = front (wire_behind given frame) box rest after opens in
    let word = at.word unlawful.0 in
    ⊎_elim (λ (e : len ≡ 0). omega (arith, e, unlawful.1, word, at.lawful.0)) (λ (e : 1024 < len). omega (arith, e, unlawful.1, word, at.lawful.1)) unlawful.2
no_frame_bad given finished frame later box rest after len opens alone (inr refused) =
    let at = front (wire_behind given frame) box rest after opens in
    let repeats = refused.1 (wire_behind given frame) (at.spells len refused.0) in
    let empty : frame ∷ later ≡ [] = alone (repeats_finish frame (length given) (bytes_of_all given) finished repeats) in
    cc

no_seal_bad : (given : List Frame) (finished : Bool) (frame : Frame) (box rest after : List ℕ) (told found : Seal) → Opens (wire_behind given frame) (box ++ rest) after → IsCounted given
    → ¬ (IsSealBad given finished box told found)
no_seal_bad given finished frame box rest after told found opens counted bad =
    let at = front (wire_behind given frame) box rest after opens in
    let same : wire_behind given frame ≡ Sealed told = one_wire (wire_behind given frame) (Sealed told) (payload_ahead box bad.len) (at.spells bad.len bad.whole) bad.spells in
    bad.differs counted (told_is_due frame (length given) (bytes_of_all given) told same ∙ sym (bad.found_is counted))

short_box : (box rest : List ℕ) → box ++ rest ≡ [] → length box ≡ 0
short_box [] rest h = refl
short_box (x ∷ box) rest h = let e = h in cc

no_fault : (given : List Frame) (finished : Bool) (box : List ℕ) (later : List Frame) (rest : List ℕ) (bad : LinkBad) → SpellsFrom (length given) (bytes_of_all given) later (box ++ rest) [] → IsCounted given
    → (IsTrue finished → later ≡ []) → ¬ (MeetsBad given finished box bad)
no_fault given finished box [] rest bad spelled counted alone (inl (len, named, inl unlawful)) = omega (arith, short_box box rest spelled, unlawful.0)
no_fault given finished box [] rest bad spelled counted alone (inl (len, named, inr refused)) = omega (arith, short_box box rest spelled, refused.0.whole)
no_fault given finished box [] rest bad spelled counted alone (inr (told, found, named, seal)) = omega (arith, short_box box rest spelled, seal.whole.whole)
no_fault given finished box (frame ∷ later) rest bad (after, opens, others) counted alone (inl (len, named, wrong)) = no_frame_bad given finished frame later box rest after len opens alone wrong
no_fault given finished box (frame ∷ later) rest bad (after, opens, others) counted alone (inr (told, found, named, seal)) = no_seal_bad given finished frame box rest after told found opens counted seal

pub no_fault_stands_next : NoFaultStandsNext
no_fault_stands_next tx rx bad j =
    let r = reading tx rx j in
    let alone : IsTrue rx.finished → r.later ≡ [] = λ over.
    last_alone rx.given r.later (subst FinishIsLast r.all j.sending.sender.last) (sym j.receiving.receiver.ended ∙ over) in
    no_fault rx.given rx.finished rx.box r.later r.rest bad r.spelled (given_counted tx rx j).1 alone

-- ---- credits

ones_only : (n : ℕ) (front back : List ℕ) (g : ℕ) → replicate n 1 ≡ front ++ g ∷ back → g ≡ 1
ones_only zero [] back g h = let e = h in cc
ones_only zero (x ∷ front) back g h = let e = h in cc
ones_only (suc n) [] back g h = let e = h in cc
ones_only (suc n) (x ∷ front) back g h = ones_only n front back g (let e = h in cc)

-- what both ends count of the credit pipe
pub record Credits (tx : TxSeen) (rx : RxSeen) : Type 0 where
  pub sent : rx.back.bytes ≡ replicate rx.paid 1
  pub taken : tx.back.bytes ≡ replicate tx.repaid 1
  pub more : tx.repaid ≤ rx.paid
  pub frames : (tx.held + tx.repaid ≡ length tx.offered) × (rx.paid + rx.owed + rx.ungranted ≡ length rx.given) × (length rx.given ≤ length tx.offered)

credits : (tx : TxSeen) (rx : RxSeen) → AreJoined tx rx → tx.fault ≡ None → Credits tx rx
credits tx rx j quiet =
    let given = given_counted tx rx j in
    let sent = j.receiving.pipes.paid given.1 j.told.3 in
    let taken = j.sending.pipes.repaid j.counted j.told.1 quiet in
    record {
      sent = sent;
      taken = taken;
      more = omega (arith, ap length sent, length-replicate {A = ℕ} rx.paid 1, ap length taken, length-replicate {A = ℕ} tx.repaid 1, ap length j.credits.1, length-append tx.back.bytes j.credits.0);
      frames = (j.sending.sender.counts j.counted, j.receiving.receiver.counts given.1, given.0);
    }

pub owed_are_held : OwedAreHeld
owed_are_held tx rx j quiet =
    let c = credits tx rx j quiet in
    let held : rx.owed ≤ tx.held = omega (arith, c.more, c.frames.0, c.frames.1, c.frames.2) in
    (held, omega (arith, held, j.sending.sender.within))

pub each_byte_is_a_credit : EachByteIsACredit
each_byte_is_a_credit tx after rx more bad j quiet e none_there =
    let c = credits tx rx j quiet in
    let tail : List ℕ = none_there.rest ++ more in
    let ones : List ℕ = replicate none_there.taken 1 in
    let split : replicate rx.paid 1 ≡ (tx.back.bytes ++ ones) ++ none_there.got ∷ tail =
    sym c.sent ∙ e ∙ ap (λ b. b ++ more) (none_there.bytes j.told.1) ∙ append_assoc tx.back.bytes (ones ++ none_there.got ∷ none_there.rest) more
    ∙ ap (λ b. tx.back.bytes ++ b) (append_assoc ones (none_there.got ∷ none_there.rest) more) ∙ sym (append_assoc tx.back.bytes ones (none_there.got ∷ tail)) in
    let one : none_there.got ≡ 1 = ones_only rx.paid (tx.back.bytes ++ ones) tail none_there.got split in
    let count : tx.repaid + none_there.taken + 1 ≤ rx.paid =
    omega (arith, sym (length-replicate {A = ℕ} rx.paid 1) ∙ ap length split ∙ length-append (tx.back.bytes ++ ones) (none_there.got ∷ tail), length-append tx.back.bytes ones, ap length c.taken, length-replicate {A = ℕ} tx.repaid 1, length-replicate {A = ℕ} none_there.taken 1) in
    ⊎_elim (λ (wrong : none_there.got ≢ 1). wrong one) (λ (all : none_there.taken ≡ tx.held). omega (arith, all, count, c.frames.0, c.frames.1, c.frames.2)) none_there.wrong
