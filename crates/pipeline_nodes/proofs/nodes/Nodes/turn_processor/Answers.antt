-- A query processor's turn and the look behind it are a turn of the pipeline.
use Rattle.std.proofs.Common.{◌+◌, ◌<◌, length, set, sym, subst}
use Rattle.summary_spec.specs.Job.{declared_of}
use Rattle.net_law.specs.Nets.{NetStands}
use Rattle.pipeline_nodes.specs.Nodes.{NodesSeen, net_of}
use Rattle.pipeline_nodes.specs.Turns.{HasTurned}
use Rattle.pipeline_nodes.proofs.Listed.{processor_ins, processor_outs, processor_ends, processor_turned}
use Rattle.pipeline_nodes.proofs.Looked.{apart}
use Rattle.pipeline_nodes.proofs.nodes.Nodes.turn_processor.Goals as goal

pub look_at_processor-requires-clause-ins : goal.look_at_processor-requires-clause-ins
look_at_processor-requires-clause-ins g c =
    processor_ins (declared_of c.self.inside.job.now) c.self.inside.credits c.self.inside.parsers.items c.self.inside.groupers.items c.self.inside.processors.items c.self.inside.merge.merge (apart (net_of (declared_of c.self.inside.job.now) c.self.inside.credits c.self.inside.parsers.items c.self.inside.groupers.items c.self.inside.processors.items c.self.inside.merge.merge) (subst (λ (s : NodesSeen). NetStands s.net) (sym c.self.view_is) c.requires.stands))
    c.args.q (subst (λ (s : NodesSeen). c.args.q < length s.net.processors) (sym c.self.view_is) c.requires.there) c.get_mut-node.result.now c.turn-turned.new.self c.get_mut-node.ensures.value c.turn-turned.ensures.goes

pub look_at_processor-requires-clause-outs : goal.look_at_processor-requires-clause-outs
look_at_processor-requires-clause-outs g c =
    processor_outs (declared_of c.self.inside.job.now) c.self.inside.credits c.self.inside.parsers.items c.self.inside.groupers.items c.self.inside.processors.items c.self.inside.merge.merge (apart (net_of (declared_of c.self.inside.job.now) c.self.inside.credits c.self.inside.parsers.items c.self.inside.groupers.items c.self.inside.processors.items c.self.inside.merge.merge) (subst (λ (s : NodesSeen). NetStands s.net) (sym c.self.view_is) c.requires.stands))
    c.args.q (subst (λ (s : NodesSeen). c.args.q < length s.net.processors) (sym c.self.view_is) c.requires.there) c.get_mut-node.result.now c.turn-turned.new.self c.get_mut-node.ensures.value c.turn-turned.ensures.goes

pub look_at_processor-requires-clause-ends : goal.look_at_processor-requires-clause-ends
look_at_processor-requires-clause-ends g c =
    processor_ends (declared_of c.self.inside.job.now) c.self.inside.credits c.self.inside.parsers.items c.self.inside.groupers.items c.self.inside.processors.items c.self.inside.merge.merge (apart (net_of (declared_of c.self.inside.job.now) c.self.inside.credits c.self.inside.parsers.items c.self.inside.groupers.items c.self.inside.processors.items c.self.inside.merge.merge) (subst (λ (s : NodesSeen). NetStands s.net) (sym c.self.view_is) c.requires.stands))
    c.args.q (subst (λ (s : NodesSeen). c.args.q < length s.net.processors) (sym c.self.view_is) c.requires.there) c.get_mut-node.result.now c.turn-turned.new.self c.get_mut-node.ensures.value c.turn-turned.ensures.goes

pub returns-clause-turned : goal.returns-clause-turned
returns-clause-turned g c =
    let e = c.turn-turned.ensures in
    let l = c.look_at_processor in
    subst (λ (s : NodesSeen). HasTurned (s.net.shape.parsers + s.net.shape.groupers + c.args.q) s.net (net_of (declared_of c.self.inside.job.now) c.self.inside.credits c.self.inside.parsers.items l.new.groupers.items (set c.self.inside.processors.items c.args.q l.new.processor) c.self.inside.merge.merge) c.turn-turned.result) c.self.view_is
    (processor_turned (declared_of c.self.inside.job.now) c.self.inside.credits c.self.inside.parsers.items c.self.inside.groupers.items c.self.inside.processors.items c.self.inside.merge.merge (apart (net_of (declared_of c.self.inside.job.now) c.self.inside.credits c.self.inside.parsers.items c.self.inside.groupers.items c.self.inside.processors.items c.self.inside.merge.merge) (subst (λ (s : NodesSeen). NetStands s.net) (sym c.self.view_is) c.requires.stands))
    c.args.q (subst (λ (s : NodesSeen). c.args.q < length s.net.processors) (sym c.self.view_is) c.requires.there) c.get_mut-node.result.now c.turn-turned.new.self c.get_mut-node.ensures.value c.turn-turned.ensures.goes
    l.new.groupers.items l.new.processor l.ensures.looks l.ensures.as_many l.ensures.senders l.ensures.looked (subst (λ (s : NodesSeen). NetStands s.net) (sym c.self.view_is) c.requires.stands) c.turn-turned.result (record { says = e.says; told = e.tells; stored = e.fault; again = e.again; causes = e.causes }))
