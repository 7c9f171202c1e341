-- No look gives a node a fault.
use Rattle.pipeline_nodes.proofs.Looked.{apart}
use Rattle.pipeline_nodes.proofs.Never.{nodes_looked}
use Rattle.pipeline_nodes.proofs.nodes.Nodes.look.Goals as goal

pub returns-clause-stands : goal.returns-clause-stands
returns-clause-stands g c = nodes_looked c.args.self.now.net c.look_at_all.new.self.net c.requires.stands c.look_at_all.ensures.looks

pub look_at_all-requires : goal.look_at_all-requires
look_at_all-requires g c = record { stands = apart c.args.self.now.net c.requires.stands.stands }
