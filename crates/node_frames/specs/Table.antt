-- The table of frames: the first byte of each, its name, and its fields in order.
use Rattle.std.specs.Prelude.{ℕ, ◌≡◌, ◌==◌, if◌then◌else◌, List, [], ◌∷◌, Bool, Option, Some, None}
use Rattle.ds_base.specs.declared.stamp.Stamp.{Stamp}
use Rattle.ds_base.specs.declared.verdict.Verdict.{Verdict}
use Rattle.node_frames.specs.declared.frame.Frame.TheVariants.{Item, Mark, CaptureEnd, GroupHead, Member, GroupMark, AnswerRow, Profile, CountsRow, Finish}
use Rattle.node_frames.specs.declared.wire.Wire.{Wire}
use Rattle.node_frames.specs.declared.wire.Wire.TheVariants.{Plain, Sealed}
use Rattle.node_frames.specs.Fields.{Field, Read, ◌>>=◌, ◌&◌, number, plain, stamp, numbers, truth, many, verdict}

-- ---- the fields of each frame, in order

abbrev pub item : Field (Stamp × (List ℕ × List ℕ))
item = stamp & numbers & numbers

abbrev pub mark : Field (ℕ × ℕ)
mark = number 4 & number 8

abbrev pub capture_end : Field ℕ
capture_end = number 4

abbrev pub group_head : Field (Stamp × (ℕ × List ℕ))
group_head = stamp & number 8 & numbers

abbrev pub member : Field (Stamp × List ℕ)
member = stamp & numbers

abbrev pub group_mark : Field ℕ
group_mark = number 8

abbrev pub answer_row : Field (Stamp × (List ℕ × (ℕ × Verdict)))
answer_row = stamp & numbers & number 8 & verdict

-- between two captures: how many delays, their sum, the least, the greatest, and 64 classes
abbrev pub profile : Field (ℕ × (ℕ × (ℕ × (ℕ × (ℕ × (ℕ × List ℕ))))))
profile = number 4 & number 4 & number 8 & number 16 & number 8 & number 8 & many 64 (number 8)

-- of a capture: its records, those unmatched, late and accepted, and whether it was cut
abbrev pub counts_row : Field (ℕ × (ℕ × (ℕ × (ℕ × (ℕ × Bool)))))
counts_row = number 4 & number 8 & number 8 & number 8 & number 8 & truth

-- how many frames went before on the link, and the digest of its bytes so far
abbrev pub seal : Field (ℕ × List ℕ)
seal = number 8 & plain 32

-- ---- the table

-- a row: a first byte and then fields, of these values
pub record Row : Type 1 where
  pub spelled : List ℕ
  pub IsFit : Type 0

abbrev pub row : {A : Type 0} → ℕ → Field A → A → Row
row first fields values = record { spelled = first ∷ fields.spelling values; IsFit = fields.IsFit values }

-- the end of a link stands there as its seal and in no other form
abbrev pub never : Row
never = record { spelled = []; IsFit = ⊥ }

abbrev pub row_of : Wire → Row
row_of (Plain (Item s)) = row 1 item (s.at, (s.key, s.vals))
row_of (Plain (Mark capture at)) = row 2 mark (capture, at)
row_of (Plain (CaptureEnd capture)) = row 3 capture_end capture
row_of (Plain (GroupHead first members key)) = row 4 group_head (first, (members, key))
row_of (Plain (Member at vals)) = row 5 member (at, vals)
row_of (Plain (GroupMark at)) = row 6 group_mark at
row_of (Plain (AnswerRow a)) = row 7 answer_row (a.first, (a.key, (a.members, a.verdict)))
row_of (Plain (Profile p)) = row 8 profile (p.from, (p.to, (p.count, (p.sum, (p.least, (p.greatest, p.classes))))))
row_of (Plain (CountsRow capture counts)) =
    row 9 counts_row (capture, (counts.records, (counts.unmatched, (counts.late, (counts.accepted, counts.cut)))))
row_of (Sealed s) = row 11 seal (s.frames, s.digest.bytes)
row_of (Plain Finish) = never

-- the one spelling of a frame on a link
abbrev pub payload_of : Wire → List ℕ
payload_of wire = (row_of wire).spelled

-- the frame's numbers and lists fit its fields, and these are its bytes
pub record Spells (wire : Wire) (bytes : List ℕ) : Type 0 where
  pub fit : (row_of wire).IsFit
  pub same : bytes ≡ payload_of wire

-- a frame that stands on a link as it is: any but `Finish`
abbrev pub CanStand : Wire → Type 0
CanStand (Plain Finish) = ⊥
CanStand _ = Unit {0}

-- ---- the same table from bytes to frames

-- ---- one row: a frame of these values, and the bytes after its last field

abbrev pub item_in : List ℕ → Read Wire
item_in bytes = item.read bytes >>= λ (at, (key, vals)) rest. Some (Plain (Item (record { at = at; key = key; vals = vals })), rest)

abbrev pub mark_in : List ℕ → Read Wire
mark_in bytes = mark.read bytes >>= λ (capture, at) rest. Some (Plain (Mark capture at), rest)

abbrev pub capture_end_in : List ℕ → Read Wire
capture_end_in bytes = capture_end.read bytes >>= λ capture rest. Some (Plain (CaptureEnd capture), rest)

abbrev pub group_head_in : List ℕ → Read Wire
group_head_in bytes = group_head.read bytes >>= λ (first, (members, key)) rest. Some (Plain (GroupHead first members key), rest)

abbrev pub member_in : List ℕ → Read Wire
member_in bytes = member.read bytes >>= λ (at, vals) rest. Some (Plain (Member at vals), rest)

abbrev pub group_mark_in : List ℕ → Read Wire
group_mark_in bytes = group_mark.read bytes >>= λ at rest. Some (Plain (GroupMark at), rest)

abbrev pub answer_row_in : List ℕ → Read Wire
answer_row_in bytes =
    answer_row.read bytes >>= λ (first, (key, (members, said))) rest.
    Some (Plain (AnswerRow (record { first = first; key = key; members = members; verdict = said })), rest)

abbrev pub profile_in : List ℕ → Read Wire
profile_in bytes =
    profile.read bytes >>= λ (from, (to, (count, (sum, (least, (greatest, classes)))))) rest.
    Some (Plain (Profile (record { from = from; to = to; count = count; sum = sum; least = least; greatest = greatest; classes = classes })), rest)

abbrev pub counts_row_in : List ℕ → Read Wire
counts_row_in bytes =
    counts_row.read bytes >>= λ (capture, (records, (unmatched, (late, (accepted, cut))))) rest.
    Some (Plain (CountsRow capture (record { records = records; unmatched = unmatched; late = late; accepted = accepted; cut = cut })), rest)

abbrev pub seal_in : List ℕ → Read Wire
seal_in bytes = seal.read bytes >>= λ (frames, digest) rest. Some (Sealed (record { frames = frames; digest = record { bytes = digest } }), rest)

abbrev pub row_in : (first : ℕ) → List ℕ → Read Wire
row_in first bytes =
    if first == 1 then item_in bytes
    else if first == 2 then mark_in bytes
    else if first == 3 then capture_end_in bytes
    else if first == 4 then group_head_in bytes
    else if first == 5 then member_in bytes
    else if first == 6 then group_mark_in bytes
    else if first == 7 then answer_row_in bytes
    else if first == 8 then profile_in bytes
    else if first == 9 then counts_row_in bytes
    else if first == 11 then seal_in bytes
    else None

-- ---- the frame that bytes spell, with nothing after its last field

abbrev pub whole : Read Wire → Option Wire
whole None = None
whole (Some (wire, [])) = Some wire
whole (Some (wire, byte ∷ rest)) = None

abbrev pub wire_in : List ℕ → Option Wire
wire_in [] = None
wire_in (first ∷ rest) = whole (row_in first rest)

-- ---- what is true of every frame

abbrev pub OneSpelling : Type 0
OneSpelling = (wire : Wire) (a b : List ℕ) → Spells wire a → Spells wire b → a ≡ b

abbrev pub OneFrame : Type 0
OneFrame = (v w : Wire) (bytes : List ℕ) → Spells v bytes → Spells w bytes → v ≡ w
