-- A parser's turn is one of the pipeline.
use Rattle.std.proofs.Common.{◌<◌, length, set, sym, subst}
use Rattle.summary_spec.specs.Job.{declared_of}
use Rattle.net_law.specs.Nets.{NetStands}
use Rattle.pipeline_nodes.specs.Nodes.{NodesSeen, net_of}
use Rattle.pipeline_nodes.specs.Turns.{HasTurned}
use Rattle.pipeline_nodes.proofs.Listed.{parser_turned}
use Rattle.pipeline_nodes.proofs.Looked.{apart}
use Rattle.pipeline_nodes.proofs.nodes.Nodes.turn_parser.Goals as goal

pub returns-clause-turned : goal.returns-clause-turned
returns-clause-turned g c =
    let e = c.turn.ensures in
    subst (λ (s : NodesSeen). HasTurned c.args.p s.net (net_of (declared_of c.self.inside.job.now) c.self.inside.credits (set c.self.inside.parsers.items c.args.p c.turn.new.self) c.self.inside.groupers.items c.self.inside.processors.items c.self.inside.merge.merge) c.turn.result) c.self.view_is
    (parser_turned (declared_of c.self.inside.job.now) c.self.inside.credits c.self.inside.parsers.items c.self.inside.groupers.items c.self.inside.processors.items c.self.inside.merge.merge (apart (net_of (declared_of c.self.inside.job.now) c.self.inside.credits c.self.inside.parsers.items c.self.inside.groupers.items c.self.inside.processors.items c.self.inside.merge.merge) (subst (λ (s : NodesSeen). NetStands s.net) (sym c.self.view_is) c.requires.stands))
    c.args.p (subst (λ (s : NodesSeen). c.args.p < length s.net.parsers) (sym c.self.view_is) c.requires.there) c.get_mut.result.now c.turn.new.self c.get_mut.ensures.value
    (subst (λ (s : NodesSeen). NetStands s.net) (sym c.self.view_is) c.requires.stands) c.turn.result e.goes e.stands (record { says = e.says; told = e.tells; stored = e.fault; again = e.again; causes = e.causes }))
