use Rattle.std.proofs.Common.{◌≤◌, length}
use Rattle.node_layers.proofs.Closing.{Closes}
use Rattle.node_layers.proofs.parsers.close_parsers.Given as goal

abbrev pub invariant-loop-node : goal.invariant-loop-node
invariant-loop-node g l = record {
  closes : Closes g.S.Source.seen l.fn.layer.items l.fn.sources.items l.sources.items l.layer.items;
  spare : l.fn.layer.spare ≤ l.layer.spare;
}

abbrev pub decreases-loop-node : goal.decreases-loop-node
decreases-loop-node g l = length l.layer.items
