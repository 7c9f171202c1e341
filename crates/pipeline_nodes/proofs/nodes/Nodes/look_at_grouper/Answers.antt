-- The links into one grouper are looked at.
use Rattle.std.proofs.Common.{◌<◌, length, set, refl, sym, subst}
use Rattle.summary_spec.specs.Job.{declared_of}
use Rattle.pipeline_nodes.specs.Nodes.{NodesSeen, net_of}
use Rattle.net_law.proofs.Going.{grouper_stays}
use Rattle.pipeline_nodes.specs.Looks.{StandsApart, GrouperIsLookedAt}
use Rattle.pipeline_nodes.proofs.Listed.{grouper_stands, grouper_ins, grouper_outs, grouper_ends, grouper_seen}
use Rattle.pipeline_nodes.proofs.Looked.{looked_apart}
use Rattle.pipeline_nodes.proofs.nodes.Nodes.look_at_grouper.Goals as goal

pub look_at_grouper-requires-clause-stands : goal.look_at_grouper-requires-clause-stands
look_at_grouper-requires-clause-stands g c =
    grouper_stands (declared_of c.self.inside.job.now) c.self.inside.credits c.self.inside.parsers.items c.self.inside.groupers.items c.self.inside.processors.items c.self.inside.merge.merge (subst (λ (s : NodesSeen). StandsApart s.net) (sym c.self.view_is) c.requires.stands)
    c.args.g (subst (λ (s : NodesSeen). c.args.g < length s.net.groupers) (sym c.self.view_is) c.requires.there) c.get_mut.result.now c.get_mut.ensures.value

pub look_at_grouper-requires-clause-ins : goal.look_at_grouper-requires-clause-ins
look_at_grouper-requires-clause-ins g c =
    grouper_ins (declared_of c.self.inside.job.now) c.self.inside.credits c.self.inside.parsers.items c.self.inside.groupers.items c.self.inside.processors.items c.self.inside.merge.merge (subst (λ (s : NodesSeen). StandsApart s.net) (sym c.self.view_is) c.requires.stands)
    c.args.g (subst (λ (s : NodesSeen). c.args.g < length s.net.groupers) (sym c.self.view_is) c.requires.there) c.get_mut.result.now c.get_mut.result.now c.get_mut.ensures.value (grouper_stays c.get_mut.result.now)

pub look_at_grouper-requires-clause-outs : goal.look_at_grouper-requires-clause-outs
look_at_grouper-requires-clause-outs g c =
    grouper_outs (declared_of c.self.inside.job.now) c.self.inside.credits c.self.inside.parsers.items c.self.inside.groupers.items c.self.inside.processors.items c.self.inside.merge.merge (subst (λ (s : NodesSeen). StandsApart s.net) (sym c.self.view_is) c.requires.stands)
    c.args.g (subst (λ (s : NodesSeen). c.args.g < length s.net.groupers) (sym c.self.view_is) c.requires.there) c.get_mut.result.now c.get_mut.result.now c.get_mut.ensures.value (grouper_stays c.get_mut.result.now)

pub look_at_grouper-requires-clause-ends : goal.look_at_grouper-requires-clause-ends
look_at_grouper-requires-clause-ends g c =
    grouper_ends (declared_of c.self.inside.job.now) c.self.inside.credits c.self.inside.parsers.items c.self.inside.groupers.items c.self.inside.processors.items c.self.inside.merge.merge (subst (λ (s : NodesSeen). StandsApart s.net) (sym c.self.view_is) c.requires.stands)
    c.args.g (subst (λ (s : NodesSeen). c.args.g < length s.net.groupers) (sym c.self.view_is) c.requires.there) c.get_mut.result.now c.get_mut.result.now c.get_mut.ensures.value (grouper_stays c.get_mut.result.now)

pub returns-clause-looks : goal.returns-clause-looks
returns-clause-looks g c =
    let l = c.look_at_grouper in
    subst (λ (s : NodesSeen). GrouperIsLookedAt c.args.g s.net (net_of (declared_of c.self.inside.job.now) c.self.inside.credits l.new.parsers.items (set c.self.inside.groupers.items c.args.g l.new.grouper) c.self.inside.processors.items c.self.inside.merge.merge)) c.self.view_is
    (grouper_seen (declared_of c.self.inside.job.now) c.self.inside.credits c.self.inside.parsers.items c.self.inside.groupers.items c.self.inside.processors.items c.self.inside.merge.merge (subst (λ (s : NodesSeen). StandsApart s.net) (sym c.self.view_is) c.requires.stands)
    c.args.g (subst (λ (s : NodesSeen). c.args.g < length s.net.groupers) (sym c.self.view_is) c.requires.there) c.get_mut.result.now c.get_mut.result.now c.get_mut.ensures.value (grouper_stays c.get_mut.result.now)
    l.new.parsers.items l.new.grouper l.ensures.looks l.ensures.as_many l.ensures.senders l.ensures.looked refl l.ensures.beside)

pub returns-clause-stands : goal.returns-clause-stands
returns-clause-stands g c =
    looked_apart c.args.self.now.net (net_of (declared_of c.self.inside.job.now) c.self.inside.credits c.look_at_grouper.new.parsers.items (set c.self.inside.groupers.items c.args.g c.look_at_grouper.new.grouper) c.self.inside.processors.items c.self.inside.merge.merge) c.requires.stands (returns-clause-looks g c).looks
