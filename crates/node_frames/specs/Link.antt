-- The bytes of a link: the frames on it, one after another, each spelling with its length before it.
use Rattle.std.specs.Prelude.{ℕ, ◌≡◌, ◌+◌, ◌≤◌, List, [], ◌∷◌, ◌++◌, length}
use Rattle.sha2.specs.Sha256.{sha256}
use Rattle.node_frames.specs.declared.frame.Frame.{Frame}
use Rattle.node_frames.specs.declared.frame.Frame.TheVariants.{Finish}
use Rattle.node_frames.specs.declared.wire.Wire.{Wire}
use Rattle.node_frames.specs.declared.wire.Wire.TheVariants.{Plain, Sealed}
use Rattle.node_frames.specs.Fields.{bytes_of}
use Rattle.node_frames.specs.Table.{Spells, payload_of}

-- how a frame stands on a link that has `count` frames before it, whose bytes are `front`: the end as the
-- seal of these, any other frame as it is
abbrev pub wire_of : (count : ℕ) (front : List ℕ) → Frame → Wire
wire_of count front Finish = Sealed (record { frames = count; digest = record { bytes = sha256 front } })
wire_of count front frame = Plain frame

-- a spelling with its length before it, in four bytes
abbrev pub framed : Wire → List ℕ
framed wire = bytes_of 4 (length (payload_of wire)) ++ payload_of wire

-- bytes begin with a whole frame, and `after` are the bytes after it
pub record Opens (wire : Wire) (bytes after : List ℕ) : Type 0 where
  pub spells : Spells wire (payload_of wire)
  pub short : length (payload_of wire) ≤ 1024
  pub joined : bytes ≡ framed wire ++ after

-- where `count` frames stand before, whose bytes are `front`: bytes begin with these frames, and `rest` are
-- the bytes after them
abbrev pub SpellsFrom : (count : ℕ) (front : List ℕ) → List Frame → (bytes rest : List ℕ) → Type 0
SpellsFrom count front [] bytes rest = bytes ≡ rest
SpellsFrom count front (frame ∷ frames) bytes rest =
    (after : List ℕ) × Opens (wire_of count front frame) bytes after × SpellsFrom (count + 1) (front ++ framed (wire_of count front frame)) frames after rest

-- the bytes of a link begin with these frames
abbrev pub SpellsAll : List Frame → (bytes rest : List ℕ) → Type 0
SpellsAll frames bytes rest = SpellsFrom 0 [] frames bytes rest

-- the bytes of these frames
abbrev pub carried : (count : ℕ) (front : List ℕ) → List Frame → List ℕ
carried count front [] = []
carried count front (frame ∷ frames) = framed (wire_of count front frame) ++ carried (count + 1) (front ++ framed (wire_of count front frame)) frames

-- ---- what is true of the bytes of every link

-- the frames are spelled by the bytes before the rest
abbrev pub BytesOfFrames : Type 0
BytesOfFrames = (frames : List Frame) (bytes rest : List ℕ) → SpellsAll frames bytes rest → bytes ≡ carried 0 [] frames ++ rest

-- bytes that come after change no frame
abbrev pub BytesComeAfter : Type 0
BytesComeAfter = (frames : List Frame) (bytes rest more : List ℕ) → SpellsAll frames bytes rest → SpellsAll frames (bytes ++ more) (rest ++ more)

-- a frame that the rest begins with, spelled for its place, is the next one
abbrev pub FrameOpensRest : Type 0
FrameOpensRest = (frames : List Frame) (frame : Frame) (bytes rest after : List ℕ) → SpellsAll frames bytes rest
    → Opens (wire_of (length frames) (carried 0 [] frames) frame) rest after → SpellsAll (frames ++ frame ∷ []) bytes after

-- a frame that is offered is spelled by the bytes that it adds
abbrev pub FrameIsOffered : Type 0
FrameIsOffered = (frames : List Frame) (frame : Frame) (bytes : List ℕ) → SpellsAll frames bytes [] → Spells (wire_of (length frames) bytes frame) (payload_of (wire_of (length frames) bytes frame))
    → length (payload_of (wire_of (length frames) bytes frame)) ≤ 1024 → SpellsAll (frames ++ frame ∷ []) (bytes ++ framed (wire_of (length frames) bytes frame)) []

-- bytes begin with one whole frame at most
abbrev pub OneOpens : Type 0
OneOpens = (v w : Wire) (bytes after rest : List ℕ) → Opens v bytes after → Opens w bytes rest → (v ≡ w) × (after ≡ rest)

-- two readings of the bytes of a link are one: where all bytes spell `frames`, what was read of their front
-- are the first of these, and the other ones are spelled by the bytes that are left
abbrev pub TwoReadingsAreOne : Type 0
TwoReadingsAreOne = (frames read : List Frame) (bytes rest : List ℕ) → SpellsAll frames bytes [] → SpellsAll read bytes rest
    → (later : List Frame) × (frames ≡ read ++ later) × SpellsFrom (length read) (carried 0 [] read) later rest []
