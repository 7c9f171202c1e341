-- One node is changed, and went on.
use Rattle.node_bundles.specs.Bundles.{AnyWent}
use Rattle.node_bundles.proofs.Going.{each_set}
use Rattle.node_bundles.proofs.Bundled.{any_nowhere}
use Rattle.node_bundles.proofs.any_node.turn_at.Goals as goal

pub returns : goal.returns
returns g c =
    each_set (AnyWent g.row.S.Denot) (any_nowhere g.row.S.Denot) c.args.nodes.now.items c.args.i c.get_mut.result.now c.turn_any.new.node c.get_mut.ensures.value c.requires c.turn_any.ensures
