-- No fault of a link is ever answered, so what stands between turns stands.
use Rattle.std.proofs.Common.{rules}
use Rattle.pipeline_nodes.proofs.Never.{no_link_answered, stands_by_ok}
use Rattle.pipeline_nodes.proofs.Looked.{apart, looked_stands}
use Rattle.pipeline_nodes.proofs.nodes.Nodes.turn.Goals as goal

pub unreachable-requires : goal.unreachable-requires
unreachable-requires g c =
    c.is_of_link.ensures.of_link (search rules)
    (no_link_answered c.args.self.now.net c.turn_node.new.self.net c.look_at_all.new.self.net c.args.node c.in-Err.bad c.requires.stands c.in-Err.ensures.turned (looked_stands c.turn_node.new.self.net c.look_at_all.new.self.net c.in-Err.ensures.turned.stands c.look_at_all.ensures.looks)
    c.look_at_all.ensures.looks c.look_at_all.ensures.looked)

pub returns-in-Ok-clause-stands : goal.returns-in-Ok-clause-stands
returns-in-Ok-clause-stands g c = stands_by_ok c.args.self.now.net c.turn_node.new.self.net c.args.node c.in-Ok.turn c.requires.stands c.in-Ok.ensures.turned

pub look_at_all-requires : goal.look_at_all-requires
look_at_all-requires g c = record { stands = apart c.turn_node.new.self.net c.in-Err.ensures.turned.stands }
