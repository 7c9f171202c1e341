-- The bytes of a link and the frames on it.
use Rattle.std.proofs.Common.{◌≡◌, ◌<◌, ℕ, ◌+◌, ◌^◌, List, [], ◌∷◌, ◌++◌, length, take, drop, refl, sym, ap, ap₂, ◌∙◌, subst, arith, append_assoc, append-nil, take_at, drop_at, length-append}
use Rattle.byteorder.specs.Endian.{big_from}
use Rattle.node_frames.specs.declared.frame.Frame.{Frame}
use Rattle.node_frames.specs.declared.frame.Frame.TheVariants.{Item, Mark, CaptureEnd, GroupHead, Member, GroupMark, AnswerRow, Profile, CountsRow, Finish}
use Rattle.node_frames.specs.declared.wire.Wire.{Wire}
use Rattle.node_frames.specs.declared.wire.Wire.TheVariants.{Plain, Sealed}
use Rattle.node_frames.specs.Fields.{bytes_of}
use Rattle.node_frames.specs.Table.{payload_of}
use Rattle.node_frames.specs.Link.{wire_of, framed, Opens, SpellsFrom, carried, BytesOfFrames, BytesComeAfter, FrameOpensRest, FrameIsOffered, OneOpens, TwoReadingsAreOne}
use Rattle.node_frames.proofs.Bytes.{number_back, length-bytes_of}
use Rattle.node_frames.proofs.Frames.{one_wire}

-- ---- the bytes of frames

spelled_by : (count : ℕ) (front : List ℕ) (frames : List Frame) (bytes rest : List ℕ) → SpellsFrom count front frames bytes rest → bytes ≡ carried count front frames ++ rest
spelled_by count front [] bytes rest h = h
spelled_by count front (frame ∷ frames) bytes rest (after, opens, later) =
    opens.joined ∙ ap (λ more. framed (wire_of count front frame) ++ more) (spelled_by (count + 1) (front ++ framed (wire_of count front frame)) frames after rest later)
    ∙ sym (append_assoc (framed (wire_of count front frame)) (carried (count + 1) (front ++ framed (wire_of count front frame)) frames) rest)

pub bytes_of_frames : BytesOfFrames
bytes_of_frames frames bytes rest h = spelled_by 0 [] frames bytes rest h

-- ---- bytes come after

opens_more : (wire : Wire) (bytes after more : List ℕ) → Opens wire bytes after → Opens wire (bytes ++ more) (after ++ more)
opens_more wire bytes after more opens = record {
  spells = opens.spells;
  short = opens.short;
  joined = ap (λ all. all ++ more) opens.joined ∙ append_assoc (framed wire) after more;
}

come_after : (count : ℕ) (front : List ℕ) (frames : List Frame) (bytes rest more : List ℕ) → SpellsFrom count front frames bytes rest
    → SpellsFrom count front frames (bytes ++ more) (rest ++ more)
come_after count front [] bytes rest more h = ap (λ all. all ++ more) h
come_after count front (frame ∷ frames) bytes rest more (after, opens, later) = (
  after ++ more,
  opens_more (wire_of count front frame) bytes after more opens,
  come_after (count + 1) (front ++ framed (wire_of count front frame)) frames after rest more later,
)

pub bytes_come_after : BytesComeAfter
bytes_come_after frames bytes rest more h = come_after 0 [] frames bytes rest more h

-- ---- a frame opens the rest

opens_rest : (count : ℕ) (front : List ℕ) (frames : List Frame) (frame : Frame) (bytes rest after : List ℕ) → SpellsFrom count front frames bytes rest
    → Opens (wire_of (count + length frames) (front ++ carried count front frames) frame) rest after → SpellsFrom count front (frames ++ frame ∷ []) bytes after
opens_rest count front [] frame bytes rest after h opens =
    let none : count + 0 ≡ count = omega arith in (
      after,
      subst (λ all. Opens (wire_of count front frame) all after) (sym h)
          (subst (λ so_far. Opens (wire_of count so_far frame) rest after) (append-nil front) (subst (λ n. Opens (wire_of n (front ++ []) frame) rest after) none opens)),
      refl,
    )
opens_rest count front (f ∷ frames) frame bytes rest after (next, first, later) opens =
    let one_on : count + length (f ∷ frames) ≡ (count + 1) + length frames = omega arith in (
      next,
      first,
      opens_rest (count + 1) (front ++ framed (wire_of count front f)) frames frame next rest after later
          (subst (λ so_far. Opens (wire_of ((count + 1) + length frames) so_far frame) rest after)
          (sym (append_assoc front (framed (wire_of count front f)) (carried (count + 1) (front ++ framed (wire_of count front f)) frames)))
          (subst (λ n. Opens (wire_of n (front ++ carried count front (f ∷ frames)) frame) rest after) one_on opens)),
    )

pub frame_opens_rest : FrameOpensRest
frame_opens_rest frames frame bytes rest after h opens =
    let none : 0 + length frames ≡ length frames = omega arith in
    opens_rest 0 [] frames frame bytes rest after h (subst (λ n. Opens (wire_of n (carried 0 [] frames) frame) rest after) (sym none) opens)

-- ---- a frame is offered

pub frame_is_offered : FrameIsOffered
frame_is_offered frames frame bytes h spells short =
    let wire : Wire = wire_of (length frames) bytes frame in
    let all : bytes ≡ carried 0 [] frames = bytes_of_frames frames bytes [] h ∙ append-nil (carried 0 [] frames) in
    let opens : Opens wire (framed wire) [] = record { spells = spells; short = short; joined = sym (append-nil (framed wire)) } in
    frame_opens_rest frames frame (bytes ++ framed wire) (framed wire) [] (bytes_come_after frames bytes [] (framed wire) h)
    (subst (λ so_far. Opens (wire_of (length frames) so_far frame) (framed wire) []) all opens)

-- ---- two readings are one

payload_front : (wire : Wire) (bytes after : List ℕ) → Opens wire bytes after
    → (big_from 0 4 bytes ≡ length (payload_of wire)) × (drop 4 bytes ≡ payload_of wire ++ after)
payload_front wire bytes after opens =
    let small : length (payload_of wire) < 256 ^ 4 = omega (arith, opens.short) in
    let whole : bytes ≡ bytes_of 4 (length (payload_of wire)) ++ (payload_of wire ++ after) = opens.joined ∙ append_assoc (bytes_of 4 (length (payload_of wire))) (payload_of wire) after in (
      ap (big_from 0 4) whole ∙ number_back 4 (length (payload_of wire)) (payload_of wire ++ after) small,
      ap (drop 4) whole ∙ drop_at (bytes_of 4 (length (payload_of wire))) (payload_of wire ++ after) 4 (length-bytes_of 4 (length (payload_of wire))),
    )

pub one_opens : OneOpens
one_opens v w bytes after rest left right =
    let a = payload_front v bytes after left in
    let b = payload_front w bytes rest right in
    let len : length (payload_of v) ≡ length (payload_of w) = sym a.0 ∙ b.0 in
    let both : payload_of v ++ after ≡ payload_of w ++ rest = sym a.1 ∙ b.1 in
    let n : ℕ = length (payload_of v) in
    let payloads : payload_of v ≡ payload_of w =
    sym (take_at (payload_of v) after (length (payload_of v)) refl) ∙ ap (take (length (payload_of v))) both ∙ take_at (payload_of w) rest (length (payload_of v)) (sym len) in
    let rests : after ≡ rest =
    sym (drop_at (payload_of v) after (length (payload_of v)) refl) ∙ ap (drop (length (payload_of v))) both ∙ drop_at (payload_of w) rest (length (payload_of v)) (sym len) in
    let same : v ≡ w = one_wire v w (payload_of v) left.spells (record { fit = right.spells.fit; same = payloads }) in
    (same, rests)

-- a frame is known by how it stands on the link
frame_of : Wire → Frame
frame_of (Plain frame) = frame
frame_of (Sealed s) = Finish

framed_back : (count : ℕ) (front : List ℕ) (frame : Frame) → frame_of (wire_of count front frame) ≡ frame
unfolding frame_of
framed_back count front (Item s) = refl
framed_back count front (Mark capture at) = refl
framed_back count front (CaptureEnd capture) = refl
framed_back count front (GroupHead first members key) = refl
framed_back count front (Member at vals) = refl
framed_back count front (GroupMark at) = refl
framed_back count front (AnswerRow a) = refl
framed_back count front (Profile p) = refl
framed_back count front (CountsRow capture c) = refl
framed_back count front Finish = refl

no_bytes : (wire : Wire) (after : List ℕ) → Opens wire [] after → ⊥
no_bytes wire after opens =
    let long : 0 ≡ length (framed wire ++ after) = ap length opens.joined in
    let sum : length (framed wire ++ after) ≡ length (framed wire) + length after = length-append (framed wire) after in
    let four : length (framed wire) ≡ length (bytes_of 4 (length (payload_of wire))) + length (payload_of wire) = length-append (bytes_of 4 (length (payload_of wire))) (payload_of wire) in
    let word : length (bytes_of 4 (length (payload_of wire))) ≡ 4 = length-bytes_of 4 (length (payload_of wire)) in
    omega arith

abbrev Agree : ℕ → List ℕ → List Frame → List Frame → List ℕ → Type 0
Agree count front frames read rest = (later : List Frame) × (frames ≡ read ++ later) × SpellsFrom (count + length read) (front ++ carried count front read) later rest []

agree : (count : ℕ) (front : List ℕ) (frames read : List Frame) (bytes rest : List ℕ) → SpellsFrom count front frames bytes [] → SpellsFrom count front read bytes rest
    → Agree count front frames read rest
agree count front frames [] bytes rest all some =
    let none : count + 0 ≡ count = omega arith in (
      frames,
      refl,
      subst (λ n. SpellsFrom n (front ++ []) frames rest []) (sym none)
          (subst (λ so_far. SpellsFrom count so_far frames rest []) (sym (append-nil front)) (subst (λ b. SpellsFrom count front frames b []) some all)),
    )
agree count front [] (f ∷ read) bytes rest all (after, opens, later) =
    absurd (no_bytes (wire_of count front f) after (subst (λ b. Opens (wire_of count front f) b after) all opens))
agree count front (g ∷ frames) (f ∷ read) bytes rest (next, first, others) (after, opens, later) =
    let one = one_opens (wire_of count front g) (wire_of count front f) bytes next after first opens in
    let same : g ≡ f = sym (framed_back count front g) ∙ ap frame_of one.0 ∙ framed_back count front f in
    let moved : SpellsFrom (count + 1) (front ++ framed (wire_of count front f)) frames after [] =
    subst (λ b. SpellsFrom (count + 1) (front ++ framed (wire_of count front f)) frames b []) one.1
    (subst (λ w. SpellsFrom (count + 1) (front ++ framed w) frames next []) one.0 others) in
    let rest_agrees = agree (count + 1) (front ++ framed (wire_of count front f)) frames read after rest moved later in
    let one_on : (count + 1) + length read ≡ count + length (f ∷ read) = omega arith in (
      rest_agrees.0,
      ap₂ (λ (x : Frame) (xs : List Frame). x ∷ xs) same rest_agrees.1,
      subst (λ n. SpellsFrom n (front ++ carried count front (f ∷ read)) rest_agrees.0 rest []) one_on
          (subst (λ so_far. SpellsFrom ((count + 1) + length read) so_far rest_agrees.0 rest [])
          (append_assoc front (framed (wire_of count front f)) (carried (count + 1) (front ++ framed (wire_of count front f)) read)) rest_agrees.2),
    )

pub two_readings_are_one : TwoReadingsAreOne
two_readings_are_one frames read bytes rest all some =
    let found = agree 0 [] frames read bytes rest all some in
    let none : 0 + length read ≡ length read = omega arith in
    (found.0, found.1, subst (λ n. SpellsFrom n (carried 0 [] read) found.0 rest []) none found.2)
