-- The links into one query processor are looked at.
use Rattle.std.proofs.Common.{◌<◌, length, set, refl, sym, subst}
use Rattle.summary_spec.specs.Job.{declared_of}
use Rattle.pipeline_nodes.specs.Nodes.{NodesSeen, net_of}
use Rattle.net_law.proofs.Going.{processor_stays}
use Rattle.pipeline_nodes.specs.Looks.{StandsApart, ProcessorIsLookedAt}
use Rattle.pipeline_nodes.proofs.Listed.{processor_stands, processor_ins, processor_outs, processor_ends, processor_seen}
use Rattle.pipeline_nodes.proofs.Looked.{looked_apart}
use Rattle.pipeline_nodes.proofs.nodes.Nodes.look_at_processor.Goals as goal

pub look_at_processor-requires-clause-stands : goal.look_at_processor-requires-clause-stands
look_at_processor-requires-clause-stands g c =
    processor_stands (declared_of c.self.inside.job.now) c.self.inside.credits c.self.inside.parsers.items c.self.inside.groupers.items c.self.inside.processors.items c.self.inside.merge.merge (subst (λ (s : NodesSeen). StandsApart s.net) (sym c.self.view_is) c.requires.stands)
    c.args.q (subst (λ (s : NodesSeen). c.args.q < length s.net.processors) (sym c.self.view_is) c.requires.there) c.get_mut.result.now c.get_mut.ensures.value

pub look_at_processor-requires-clause-ins : goal.look_at_processor-requires-clause-ins
look_at_processor-requires-clause-ins g c =
    processor_ins (declared_of c.self.inside.job.now) c.self.inside.credits c.self.inside.parsers.items c.self.inside.groupers.items c.self.inside.processors.items c.self.inside.merge.merge (subst (λ (s : NodesSeen). StandsApart s.net) (sym c.self.view_is) c.requires.stands)
    c.args.q (subst (λ (s : NodesSeen). c.args.q < length s.net.processors) (sym c.self.view_is) c.requires.there) c.get_mut.result.now c.get_mut.result.now c.get_mut.ensures.value (processor_stays c.get_mut.result.now)

pub look_at_processor-requires-clause-outs : goal.look_at_processor-requires-clause-outs
look_at_processor-requires-clause-outs g c =
    processor_outs (declared_of c.self.inside.job.now) c.self.inside.credits c.self.inside.parsers.items c.self.inside.groupers.items c.self.inside.processors.items c.self.inside.merge.merge (subst (λ (s : NodesSeen). StandsApart s.net) (sym c.self.view_is) c.requires.stands)
    c.args.q (subst (λ (s : NodesSeen). c.args.q < length s.net.processors) (sym c.self.view_is) c.requires.there) c.get_mut.result.now c.get_mut.result.now c.get_mut.ensures.value (processor_stays c.get_mut.result.now)

pub look_at_processor-requires-clause-ends : goal.look_at_processor-requires-clause-ends
look_at_processor-requires-clause-ends g c =
    processor_ends (declared_of c.self.inside.job.now) c.self.inside.credits c.self.inside.parsers.items c.self.inside.groupers.items c.self.inside.processors.items c.self.inside.merge.merge (subst (λ (s : NodesSeen). StandsApart s.net) (sym c.self.view_is) c.requires.stands)
    c.args.q (subst (λ (s : NodesSeen). c.args.q < length s.net.processors) (sym c.self.view_is) c.requires.there) c.get_mut.result.now c.get_mut.result.now c.get_mut.ensures.value (processor_stays c.get_mut.result.now)

pub returns-clause-looks : goal.returns-clause-looks
returns-clause-looks g c =
    let l = c.look_at_processor in
    subst (λ (s : NodesSeen). ProcessorIsLookedAt c.args.q s.net (net_of (declared_of c.self.inside.job.now) c.self.inside.credits c.self.inside.parsers.items l.new.groupers.items (set c.self.inside.processors.items c.args.q l.new.processor) c.self.inside.merge.merge)) c.self.view_is
    (processor_seen (declared_of c.self.inside.job.now) c.self.inside.credits c.self.inside.parsers.items c.self.inside.groupers.items c.self.inside.processors.items c.self.inside.merge.merge (subst (λ (s : NodesSeen). StandsApart s.net) (sym c.self.view_is) c.requires.stands)
    c.args.q (subst (λ (s : NodesSeen). c.args.q < length s.net.processors) (sym c.self.view_is) c.requires.there) c.get_mut.result.now c.get_mut.result.now c.get_mut.ensures.value (processor_stays c.get_mut.result.now)
    l.new.groupers.items l.new.processor l.ensures.looks l.ensures.as_many l.ensures.senders l.ensures.looked refl l.ensures.beside l.ensures.ins_stay)

pub returns-clause-stands : goal.returns-clause-stands
returns-clause-stands g c =
    looked_apart c.args.self.now.net (net_of (declared_of c.self.inside.job.now) c.self.inside.credits c.self.inside.parsers.items c.look_at_processor.new.groupers.items (set c.self.inside.processors.items c.args.q c.look_at_processor.new.processor) c.self.inside.merge.merge) c.requires.stands (returns-clause-looks g c).looks
