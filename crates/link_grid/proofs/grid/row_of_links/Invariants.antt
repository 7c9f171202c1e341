use Rattle.link_grid.specs.Grids.{IsRow}
use Rattle.link_grid.proofs.grid.row_of_links.Given as goal

abbrev pub invariant-loop-j : goal.invariant-loop-j
invariant-loop-j l = IsRow l.credits l.j l.fn.rxs.items l.rxs.items l.row.items
