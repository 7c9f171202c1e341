-- What is kept of the frames from a parser to a grouper.
use Rattle.std.specs.Prelude.{ℕ, ◌≡◌, ◌<◌, ◌≤◌, ◌%◌, Bool, false, List, get_or}
use Rattle.std.specs.List.{list_any}
use Rattle.ds_base.specs.declared.summary.Summary.{Summary}
use Rattle.node_frames.specs.declared.frame.Frame.{Frame}
use Rattle.run_law.specs.Links.{HasEnded}
use Rattle.run_law.specs.Shapes.{Shape}
use Rattle.frame_order.specs.Said.{greatest, next_of, mark_of, is_end_of, is_finish}
use Rattle.frame_order.specs.declared.item_link.ItemLink.{ItemLink}

-- the link is one of a pipeline of this shape
abbrev pub IsOf : Shape → ItemLink → Type 0
IsOf shape link = (shape.parsers ≡ link.parsers) × (shape.groupers ≡ link.groupers)

-- a shape of the pipelines that the link is one of
abbrev pub shape_with : ItemLink → Shape
shape_with link = record { parsers = link.parsers; groupers = link.groupers; processors = 0 }

-- for each capture the least number that its next Item may have, its last mark, and whether it has ended; and whether
-- the link has
pub record KeepsItems (next marks : List ℕ) (ended : List Bool) (finished : Bool) (frames : List Frame) : Type 0 where
  pub nexts : (c : ℕ) → c < 64 → get_or next c 0 ≡ greatest (next_of c) frames
  pub last_marks : (c : ℕ) → c < 64 → get_or marks c 0 ≡ greatest (mark_of c) frames
  pub ends : (c : ℕ) → c < 64 → get_or ended c false ≡ list_any (is_end_of c) frames
  pub finish : finished ≡ list_any is_finish frames

-- all captures of this parser have ended
abbrev pub HaveAllEnded : (captures parsers parser : ℕ) → List Frame → Type 0
HaveAllEnded captures parsers parser frames = (c : ℕ) → (c < captures) × (c % parsers ≡ parser) → HasEnded c frames

-- no frame before forbids the end of this capture
pub record EndFits (frames : List Frame) (c : ℕ) : Type 0 where
  pub going : list_any is_finish frames ≡ false
  pub unended : list_any (is_end_of c) frames ≡ false

-- no frame before forbids this Mark
pub record MarkFits (frames : List Frame) (c mark : ℕ) : Type 0 where
  pub going : list_any is_finish frames ≡ false
  pub unended : list_any (is_end_of c) frames ≡ false
  pub rising : greatest (mark_of c) frames ≤ mark

-- no frame before forbids this Item
pub record ItemFits (frames : List Frame) (s : Summary) : Type 0 where
  pub going : list_any is_finish frames ≡ false
  pub unended : list_any (is_end_of s.at.capture) frames ≡ false
  pub later : greatest (next_of s.at.capture) frames ≤ s.at.number
  pub marked : greatest (mark_of s.at.capture) frames ≤ s.at.time
