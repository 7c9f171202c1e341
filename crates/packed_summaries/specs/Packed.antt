-- A packed list, as contracts see it.
use Rattle.std.specs.Prelude.{ℕ, ◌≡◌, ◌*◌, List, length, map}
use Rattle.ds_base.specs.declared.summary.Summary.{Summary}
use Rattle.packed_summaries.specs.Packing.{Shape, row_len}
use Rattle.packed_summaries.specs.Rows.{rows, summary_in}

-- how the summaries are packed, and the summaries
pub record Packed : Type 0 where
  pub shape : Shape
  pub items : List Summary

-- the summaries of so many rows
abbrev pub summaries_in : Shape → (count : ℕ) → (words : List ℕ) → List Summary
summaries_in shape count words = map (summary_in shape) (rows (row_len shape.wide) count words)

-- the words are those of so many rows
abbrev pub AreRows : Shape → (count : ℕ) → (words : List ℕ) → Type 0
AreRows shape count words = length words ≡ count * row_len shape.wide
