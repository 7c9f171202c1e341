-- One node more.
use Rattle.node_bundles.proofs.Bundled.{all_then}
use Rattle.node_bundles.proofs.any_node.turn_each.Goals as goal

pub returns-in_err-turn : goal.returns-in_err-turn
returns-in_err-turn g c = all_then g.row.S.Denot c.args.nodes.now.items c.nodes.nodes.items c.turn_at.new.nodes.items c.nodes.invariant c.turn_at.ensures

pub nodes-preserved : goal.nodes-preserved
nodes-preserved g c = all_then g.row.S.Denot c.args.nodes.now.items c.nodes.nodes.items c.turn_at.new.nodes.items c.nodes.invariant c.turn_at.ensures
