-- The frames of one link, as both ends count them.
use Rattle.std.specs.Prelude.{ℕ, ◌≡◌, ◌<◌, ◌^◌, ◌-◌, min, Bool, true, false, ◌||◌, IsTrue, List, [], ◌∷◌, length}
use Rattle.node_frames.specs.declared.frame.Frame.{Frame}
use Rattle.node_frames.specs.declared.frame.Frame.TheVariants.{Finish}
use Rattle.node_frames.specs.declared.wire.Wire.{Wire}
use Rattle.node_frames.specs.Link.{wire_of, carried}

-- a count that stands at the end of its type
abbrev pub capped : ℕ → ℕ
capped n = min n (2 ^ 64 - 1)

-- frames that a u64 counts
abbrev pub IsCounted : List Frame → Type 0
IsCounted frames = length frames < 2 ^ 64

-- the bytes of a link's first frames
abbrev pub bytes_of_all : List Frame → List ℕ
bytes_of_all frames = carried 0 [] frames

-- how a frame stands behind a link's first frames
abbrev pub wire_behind : List Frame → Frame → Wire
wire_behind frames frame = wire_of (length frames) (bytes_of_all frames) frame

abbrev pub is_finish : Frame → Bool
is_finish Finish = true
is_finish _ = false

abbrev pub has_finish : List Frame → Bool
has_finish [] = false
has_finish (frame ∷ frames) = is_finish frame || has_finish frames

-- nothing follows the end of the link
abbrev pub FinishIsLast : List Frame → Type 0
FinishIsLast [] = Unit {0}
FinishIsLast (frame ∷ frames) = (IsTrue (is_finish frame) → frames ≡ []) × FinishIsLast frames
