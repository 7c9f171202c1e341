-- Bytes read as a frame just where they spell it: the rows of the table one by one.
use Rattle.std.proofs.Common.{◌≡◌, ℕ, ◌==◌, if◌then◌else◌, List, [], ◌∷◌, ◌++◌, Option, Some, None, refl, sym, ap, ◌∙◌, subst, inl, inr, eqb-true, append-nil}
use Rattle.node_frames.specs.declared.frame.Frame.TheVariants.{Item, Mark, CaptureEnd, GroupHead, Member, GroupMark, AnswerRow, Profile, CountsRow, Finish}
use Rattle.node_frames.specs.declared.wire.Wire.{Wire}
use Rattle.node_frames.specs.declared.wire.Wire.TheVariants.{Plain, Sealed}
use Rattle.node_frames.specs.Fields.{Field, Read, ◌>>=◌, ◌&◌, number, plain, stamp, numbers, truth, many, verdict}
use Rattle.node_frames.specs.Table.{item, mark, capture_end, group_head, member, group_mark, answer_row, profile, counts_row, seal, row_of, Spells, payload_of, row_in, whole, wire_in}
use Rattle.node_frames.proofs.Bytes.{AreBytes, tail_bytes}
use Rattle.node_frames.proofs.Exact.{IsExact, steps, goes_on, pair_same, exact_both}
use Rattle.node_frames.proofs.Exactness.{chosen, exact_number, exact_plain, exact_stamp, exact_many, exact_numbers, exact_truth}
use Rattle.node_frames.proofs.Verdicts.{exact_verdict}

exact_item : IsExact item
exact_item = exact_both stamp (numbers & numbers) exact_stamp (exact_both numbers numbers exact_numbers exact_numbers)

exact_mark : IsExact mark
exact_mark = exact_both (number 4) (number 8) (exact_number 4) (exact_number 8)

exact_group_head : IsExact group_head
exact_group_head = exact_both stamp (number 8 & numbers) exact_stamp (exact_both (number 8) numbers (exact_number 8) exact_numbers)

exact_member : IsExact member
exact_member = exact_both stamp numbers exact_stamp exact_numbers

exact_answer_row : IsExact answer_row
exact_answer_row =
    exact_both stamp (numbers & number 8 & verdict) exact_stamp
    (exact_both numbers (number 8 & verdict) exact_numbers (exact_both (number 8) verdict (exact_number 8) exact_verdict))

exact_classes : IsExact (many 64 (number 8))
exact_classes = exact_many (number 8) (exact_number 8) 64

exact_profile : IsExact profile
exact_profile =
    exact_both (number 4) (number 4 & number 8 & number 16 & number 8 & number 8 & many 64 (number 8)) (exact_number 4)
    (exact_both (number 4) (number 8 & number 16 & number 8 & number 8 & many 64 (number 8)) (exact_number 4)
    (exact_both (number 8) (number 16 & number 8 & number 8 & many 64 (number 8)) (exact_number 8)
    (exact_both (number 16) (number 8 & number 8 & many 64 (number 8)) (exact_number 16)
    (exact_both (number 8) (number 8 & many 64 (number 8)) (exact_number 8)
    (exact_both (number 8) (many 64 (number 8)) (exact_number 8) exact_classes)))))

exact_counts_row : IsExact counts_row
exact_counts_row =
    exact_both (number 4) (number 8 & number 8 & number 8 & number 8 & truth) (exact_number 4)
    (exact_both (number 8) (number 8 & number 8 & number 8 & truth) (exact_number 8)
    (exact_both (number 8) (number 8 & number 8 & truth) (exact_number 8)
    (exact_both (number 8) (number 8 & truth) (exact_number 8)
    (exact_both (number 8) truth (exact_number 8) exact_truth))))

exact_seal : IsExact seal
exact_seal = exact_both (number 8) (plain 32) (exact_number 8) (exact_plain 32)

-- ---- from bytes to frames

-- what is known of a frame that was read: it fits, and its spelling was there
abbrev Said : Wire → ℕ → List ℕ → List ℕ → Type 0
Said w first bytes rest = (row_of w).IsFit × (first ∷ bytes ≡ payload_of w ++ rest)

-- a row: a first byte, and then fields
a_row : {A : Type 0} (k : ℕ) (field : Field A) (form : A → Wire) → IsExact field
    → ((a : A) → field.IsFit a → (row_of (form a)).IsFit) → ((a : A) → payload_of (form a) ≡ k ∷ field.spelling a)
    → (first : ℕ) (bytes : List ℕ) (w : Wire) (rest : List ℕ) → AreBytes bytes → first ≡ k
    → (field.read bytes >>= λ a after. Some (form a, after)) ≡ Some (w, rest) → Said w first bytes rest
a_row k field form exact fits spells first bytes w rest are here e =
    let s = steps (field.read bytes) (λ a after. Some (form a, after)) w rest e in
    let one = exact.sound bytes s.value s.rest are s.read in
    let same = pair_same (form s.value) w s.rest rest s.goes_on in (
      subst (λ v. (row_of v).IsFit) same.0 (fits s.value one.fit),
      ap (λ n. n ∷ bytes) here ∙ ap (λ more. k ∷ more) one.spelled ∙ ap (λ spelled. spelled ++ s.rest) (sym (spells s.value))
          ∙ ap (λ v. payload_of v ++ s.rest) same.0 ∙ ap (λ after. payload_of w ++ after) same.1,
    )

pick : (first k : ℕ) (x y : Read Wire) (w : Wire) (bytes rest : List ℕ)
    → (first ≡ k → x ≡ Some (w, rest) → Said w first bytes rest) → (y ≡ Some (w, rest) → Said w first bytes rest)
    → (if first == k then x else y) ≡ Some (w, rest) → Said w first bytes rest
pick first k x y w bytes rest here later e = elim (chosen (first == k) x y (Some (w, rest)) e) [
  | inl found ↦ here (eqb-true first k found.0) found.1
  | inr other ↦ later other.1
]

row_is : (first : ℕ) (bytes : List ℕ) (w : Wire) (rest : List ℕ) → AreBytes bytes → row_in first bytes ≡ Some (w, rest) → Said w first bytes rest
row_is first bytes w rest are =
    pick first 1 _ _ w bytes rest (λ k e. a_row 1 item (λ (at, (key, vals)). Plain (Item (record { at = at; key = key; vals = vals }))) exact_item (λ a fit. fit) (λ a. refl) first bytes w rest are k e)
    (pick first 2 _ _ w bytes rest (λ k e. a_row 2 mark (λ (capture, at). Plain (Mark capture at)) exact_mark (λ a fit. fit) (λ a. refl) first bytes w rest are k e)
    (pick first 3 _ _ w bytes rest (λ k e. a_row 3 capture_end (λ capture. Plain (CaptureEnd capture)) (exact_number 4) (λ a fit. fit) (λ a. refl) first bytes w rest are k e)
    (pick first 4 _ _ w bytes rest (λ k e. a_row 4 group_head (λ (first, (members, key)). Plain (GroupHead first members key)) exact_group_head (λ a fit. fit) (λ a. refl) first bytes w rest are k e)
    (pick first 5 _ _ w bytes rest (λ k e. a_row 5 member (λ (at, vals). Plain (Member at vals)) exact_member (λ a fit. fit) (λ a. refl) first bytes w rest are k e)
    (pick first 6 _ _ w bytes rest (λ k e. a_row 6 group_mark (λ at. Plain (GroupMark at)) (exact_number 8) (λ a fit. fit) (λ a. refl) first bytes w rest are k e)
    (pick first 7 _ _ w bytes rest (λ k e. a_row 7 answer_row (λ (first, (key, (members, said))). Plain (AnswerRow (record { first = first; key = key; members = members; verdict = said }))) exact_answer_row (λ a fit. fit) (λ a. refl) first bytes w rest are k e)
    (pick first 8 _ _ w bytes rest (λ k e. a_row 8 profile (λ (from, (to, (count, (sum, (least, (greatest, classes)))))). Plain (Profile (record { from = from; to = to; count = count; sum = sum; least = least; greatest = greatest; classes = classes }))) exact_profile (λ a fit. fit) (λ a. refl) first bytes w rest are k e)
    (pick first 9 _ _ w bytes rest (λ k e. a_row 9 counts_row (λ (capture, (records, (unmatched, (late, (accepted, cut))))). Plain (CountsRow capture (record { records = records; unmatched = unmatched; late = late; accepted = accepted; cut = cut }))) exact_counts_row (λ a fit. fit) (λ a. refl) first bytes w rest are k e)
    (pick first 11 _ _ w bytes rest (λ k e. a_row 11 seal (λ (frames, digest). Sealed (record { frames = frames; digest = record { bytes = digest } })) exact_seal (λ a fit. fit) (λ a. refl) first bytes w rest are k e)
    (λ e. let none : Read Wire = None in let nothing_is : none ≡ Some (w, rest) = e in absurd (cc)))))))))))

whole_is : (r : Read Wire) (w : Wire) → whole r ≡ Some w → r ≡ Some (w, [])
whole_is None w e = let none : Option Wire = None in let nothing_is : none ≡ Some w = e in absurd (cc)
whole_is (Some (v, [])) w e = let left : Option Wire = Some v in let right : Option Wire = Some w in let same : left ≡ right = e in let one : v ≡ w = cc in ap (λ u. Some (u, [])) one
whole_is (Some (v, b ∷ rest)) w e = let none : Option Wire = None in let nothing_is : none ≡ Some w = e in absurd (cc)

-- bytes that read as a frame spell it
pub wire_sound : (bytes : List ℕ) (w : Wire) → AreBytes bytes → wire_in bytes ≡ Some w → Spells w bytes
wire_sound [] w are e = let none : Option Wire = None in let nothing_is : none ≡ Some w = e in absurd (cc)
wire_sound (first ∷ rest) w are e =
    let said = row_is first rest w [] (tail_bytes first rest are) (whole_is (row_in first rest) w e) in
    record { fit = said.0; same = said.1 ∙ append-nil (payload_of w) }

-- ---- from frames to bytes

back : {A : Type 0} (k : ℕ) (field : Field A) (form : A → Wire) → IsExact field → (a : A) → field.IsFit a
    → (row_in k (field.spelling a) ≡ (field.read (field.spelling a) >>= λ b after. Some (form b, after)))
    → wire_in (k ∷ field.spelling a) ≡ Some (form a)
back k field form exact a fit row =
    let read : field.read (field.spelling a) ≡ Some (a, []) = ap field.read (sym (append-nil (field.spelling a))) ∙ exact.complete a [] fit in
    ap whole (row ∙ goes_on (field.read (field.spelling a)) (λ b after. Some (form b, after)) a [] read)

-- the spelling of a frame reads as the frame
pub wire_back : (w : Wire) → (row_of w).IsFit → wire_in (payload_of w) ≡ Some w
wire_back (Plain (Item s)) fit = back 1 item (λ (at, (key, vals)). Plain (Item (record { at = at; key = key; vals = vals }))) exact_item (s.at, (s.key, s.vals)) fit refl
wire_back (Plain (Mark capture at)) fit = back 2 mark (λ (capture, at). Plain (Mark capture at)) exact_mark (capture, at) fit refl
wire_back (Plain (CaptureEnd capture)) fit = back 3 capture_end (λ capture. Plain (CaptureEnd capture)) (exact_number 4) capture fit refl
wire_back (Plain (GroupHead first members key)) fit =
    back 4 group_head (λ (first, (members, key)). Plain (GroupHead first members key)) exact_group_head (first, (members, key)) fit refl
wire_back (Plain (Member at vals)) fit = back 5 member (λ (at, vals). Plain (Member at vals)) exact_member (at, vals) fit refl
wire_back (Plain (GroupMark at)) fit = back 6 group_mark (λ at. Plain (GroupMark at)) (exact_number 8) at fit refl
wire_back (Plain (AnswerRow a)) fit =
    back 7 answer_row (λ (first, (key, (members, said))). Plain (AnswerRow (record { first = first; key = key; members = members; verdict = said }))) exact_answer_row
    (a.first, (a.key, (a.members, a.verdict))) fit refl
wire_back (Plain (Profile p)) fit =
    back 8 profile (λ (from, (to, (count, (sum, (least, (greatest, classes)))))). Plain (Profile (record { from = from; to = to; count = count; sum = sum; least = least; greatest = greatest; classes = classes }))) exact_profile
    (p.from, (p.to, (p.count, (p.sum, (p.least, (p.greatest, p.classes)))))) fit refl
wire_back (Plain (CountsRow capture c)) fit =
    back 9 counts_row (λ (capture, (records, (unmatched, (late, (accepted, cut))))). Plain (CountsRow capture (record { records = records; unmatched = unmatched; late = late; accepted = accepted; cut = cut }))) exact_counts_row
    (capture, (c.records, (c.unmatched, (c.late, (c.accepted, c.cut))))) fit refl
wire_back (Plain Finish) fit = absurd fit
wire_back (Sealed s) fit =
    back 11 seal (λ (frames, digest). Sealed (record { frames = frames; digest = record { bytes = digest } })) exact_seal (s.frames, s.digest.bytes) fit refl

pub wire_complete : (w : Wire) (bytes : List ℕ) → Spells w bytes → wire_in bytes ≡ Some w
wire_complete w bytes spells = ap wire_in spells.same ∙ wire_back w spells.fit

-- bytes spell one frame at most
pub one_wire : (v w : Wire) (bytes : List ℕ) → Spells v bytes → Spells w bytes → v ≡ w
one_wire v w bytes left right =
    let a = wire_complete v bytes left in
    let b = wire_complete w bytes right in
    let l : Option Wire = Some v in
    let r : Option Wire = Some w in
    let same : l ≡ r = sym a ∙ b in
    cc
