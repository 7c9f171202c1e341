-- What the rows of the links of a run say.
use Rattle.std.specs.Prelude.{ℕ, ◌≡◌, ◌⊎◌, ◌<◌, ◌≤◌, ◌+◌, ◌*◌, true, List, [], All, length, slice_index_or}
use Rattle.credit_link.specs.declared.row.LinkRow.{LinkRow}
use Rattle.summary_spec.specs.Declaration.{Declared}
use Rattle.run_law.specs.Laws.{accepted_between, captures_of}
use Rattle.run_law.specs.Shapes.{Shape}
use Rattle.pipeline_law.specs.Rows.{link_count}
use Rattle.pipeline_law.specs.RowLaws.{IsWhole}
use Rattle.link_rows.specs.Rows.{RowsSeen}

-- the row joins these nodes
abbrev pub Joins : LinkRow → (from to : ℕ) → Type 0
Joins row from to = (row.from ≡ from) × (row.to ≡ to)

-- One row a link, in the order of the links' numbers: parsers to groupers, parsers to the merge, groupers to
-- processors, processors to the merge. Nodes are numbered parsers, groupers, processors, merge.
pub record AreInOrder (shape : Shape) (rows : List LinkRow) : Type 0 where
  pub count : length rows ≡ link_count shape
  pub to_grouper : (p g : ℕ) (d : LinkRow) → p < shape.parsers → g < shape.groupers
      → Joins (slice_index_or rows (p * shape.groupers + g) d) p (shape.parsers + g)
  pub to_merge : (p : ℕ) (d : LinkRow) → p < shape.parsers
      → Joins (slice_index_or rows (shape.parsers * shape.groupers + p) d) p (shape.parsers + shape.groupers + shape.processors)
  pub to_processor : (g q : ℕ) (d : LinkRow) → g < shape.groupers → q < shape.processors
      → Joins (slice_index_or rows (shape.parsers * shape.groupers + shape.parsers + (g * shape.processors + q)) d) (shape.parsers + g) (shape.parsers + shape.groupers + q)
  pub from_processor : (q : ℕ) (d : LinkRow) → q < shape.processors
      → Joins (slice_index_or rows (shape.parsers * shape.groupers + shape.parsers + shape.groupers * shape.processors + q) d)
      (shape.parsers + shape.groupers + q) (shape.parsers + shape.groupers + shape.processors)

-- No row where no pipeline was made, else one a link. No link held more frames than its credits, and where the run is
-- done, as many were sent as taken on each, and at least one.
pub record AreRowsOf (shape : Shape) (credits : ℕ) (rows : RowsSeen) : Type 0 where
  pub in_order : (rows.rows ≡ []) ⊎ AreInOrder shape rows.rows
  pub held : All (λ (row : LinkRow). row.most_held ≤ credits) rows.rows
  pub done : rows.done ≡ true → AreInOrder shape rows.rows × All IsWhole rows.rows

-- Where the run is done, from each parser to each grouper were sent at least the accepted summaries of the parser's
-- captures whose keys are of the grouper's shard, an end for each of these captures, and the end.
abbrev pub AreBoundBelow : Declared → (files : List (List ℕ)) → Shape → RowsSeen → Type 0
AreBoundBelow job files shape rows = rows.done ≡ true → (p g : ℕ) (d : LinkRow) → p < shape.parsers → g < shape.groupers
    → length (accepted_between job files shape p g) + length (captures_of job shape p) + 1 ≤ (slice_index_or rows.rows (p * shape.groupers + g) d).sent
