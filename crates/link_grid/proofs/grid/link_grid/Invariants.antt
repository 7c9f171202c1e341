use Rattle.link_grid.specs.Grids.{IsGrid}
use Rattle.link_grid.proofs.grid.link_grid.Given as goal

abbrev pub invariant-loop : goal.invariant-loop
invariant-loop l = IsGrid l.credits l.counter l.receivers l.txs.items l.rxs.items
