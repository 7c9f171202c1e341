-- The nodes so far went on.
use Rattle.node_bundles.specs.Going.{Each}
use Rattle.node_bundles.specs.Bundles.{AnyWent}
use Rattle.node_bundles.proofs.any_node.turn_each.Given as goal

abbrev pub invariant-nodes : goal.invariant-nodes
invariant-nodes g l = Each (AnyWent g.row.S.Denot) l.fn.nodes.items l.nodes.items
