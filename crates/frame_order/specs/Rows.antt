-- What is kept of the frames from a parser to the merge.
use Rattle.std.specs.Prelude.{ℕ, ◌≡◌, ◌<◌, ◌%◌, Bool, false, List, get_or}
use Rattle.std.specs.List.{list_any}
use Rattle.node_frames.specs.declared.frame.Frame.{Frame}
use Rattle.run_law.specs.Links.{HasRow}
use Rattle.run_law.specs.Shapes.{Shape}
use Rattle.frame_order.specs.Said.{is_row_of, is_finish}

-- a shape of the pipelines with so many parsers
abbrev pub shape_of : (parsers : ℕ) → Shape
shape_of parsers = record { parsers = parsers; groupers = 0; processors = 0 }

-- whether each capture's row came, and whether the link has ended
pub record KeepsRows (rows : List Bool) (finished : Bool) (frames : List Frame) : Type 0 where
  pub came : (c : ℕ) → c < 64 → get_or rows c false ≡ list_any (is_row_of c) frames
  pub finish : finished ≡ list_any is_finish frames

-- the rows of all captures of this parser came
abbrev pub HaveAllRows : (captures parsers parser : ℕ) → List Frame → Type 0
HaveAllRows captures parsers parser frames = (c : ℕ) → (c < captures) × (c % parsers ≡ parser) → HasRow c frames

-- no frame before forbids the row of this capture
pub record RowFits (frames : List Frame) (c : ℕ) : Type 0 where
  pub going : list_any is_finish frames ≡ false
  pub new : list_any (is_row_of c) frames ≡ false
