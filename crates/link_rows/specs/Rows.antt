-- What contracts see of the rows of a run.
use Rattle.std.specs.Prelude.{◌≡◌, ◌≤◌, Bool, true, List, All, length}
use Rattle.credit_link.specs.declared.row.LinkRow.{LinkRow}

pub record RowsSeen : Type 0 where
  pub rows : List LinkRow
  pub done : Bool

-- no more rows than the greatest shape has links, and where the run is done a frame at least was sent on each
pub record RowsHold (rows : List LinkRow) (done : Bool) : Type 0 where
  pub few : length rows ≤ 544
  pub some : done ≡ true → All (λ (row : LinkRow). 1 ≤ row.sent) rows
