-- The links into the merge are looked at.
use Rattle.std.proofs.Common.{refl, sym, ap, ◌∙◌, subst}
use Rattle.summary_spec.specs.Job.{declared_of}
use Rattle.pipeline_nodes.specs.Nodes.{NodesSeen, net_of}
use Rattle.net_law.proofs.Going.{merge_stays}
use Rattle.pipeline_nodes.specs.Looks.{StandsApart, MergeIsLookedAt}
use Rattle.pipeline_nodes.proofs.Listed.{merge_ins, merge_parser_outs, merge_processor_outs, merge_parser_ends, merge_processor_ends, merge_seen}
use Rattle.pipeline_nodes.proofs.Looked.{looked_apart}
use Rattle.pipeline_nodes.proofs.nodes.Nodes.look_at_merge.Goals as goal

pub look_at_merge-requires-clause-stands : goal.look_at_merge-requires-clause-stands
look_at_merge-requires-clause-stands g c = (subst (λ (s : NodesSeen). StandsApart s.net) (sym c.self.view_is) c.requires).merge.stands

pub look_at_merge-requires-clause-ins : goal.look_at_merge-requires-clause-ins
look_at_merge-requires-clause-ins g c =
    merge_ins (declared_of c.self.inside.job.now) c.self.inside.credits c.self.inside.parsers.items c.self.inside.groupers.items c.self.inside.processors.items c.self.inside.merge.merge (subst (λ (s : NodesSeen). StandsApart s.net) (sym c.self.view_is) c.requires) c.self.inside.merge.merge (merge_stays c.self.inside.merge.merge)

pub look_at_merge-requires-clause-parser_outs : goal.look_at_merge-requires-clause-parser_outs
look_at_merge-requires-clause-parser_outs g c =
    merge_parser_outs (declared_of c.self.inside.job.now) c.self.inside.credits c.self.inside.parsers.items c.self.inside.groupers.items c.self.inside.processors.items c.self.inside.merge.merge (subst (λ (s : NodesSeen). StandsApart s.net) (sym c.self.view_is) c.requires) c.self.inside.merge.merge (merge_stays c.self.inside.merge.merge) c.grouper_count-groupers.result (c.grouper_count-groupers.ensures.is ∙ ap (λ (s : NodesSeen). s.net.shape.groupers) (sym c.self.view_is))

pub look_at_merge-requires-clause-processor_outs : goal.look_at_merge-requires-clause-processor_outs
look_at_merge-requires-clause-processor_outs g c =
    merge_processor_outs (declared_of c.self.inside.job.now) c.self.inside.credits c.self.inside.parsers.items c.self.inside.groupers.items c.self.inside.processors.items c.self.inside.merge.merge (subst (λ (s : NodesSeen). StandsApart s.net) (sym c.self.view_is) c.requires) c.self.inside.merge.merge (merge_stays c.self.inside.merge.merge)

pub look_at_merge-requires-clause-parser_ends : goal.look_at_merge-requires-clause-parser_ends
look_at_merge-requires-clause-parser_ends g c =
    merge_parser_ends (declared_of c.self.inside.job.now) c.self.inside.credits c.self.inside.parsers.items c.self.inside.groupers.items c.self.inside.processors.items c.self.inside.merge.merge (subst (λ (s : NodesSeen). StandsApart s.net) (sym c.self.view_is) c.requires) c.self.inside.merge.merge (merge_stays c.self.inside.merge.merge) c.grouper_count-groupers.result (c.grouper_count-groupers.ensures.is ∙ ap (λ (s : NodesSeen). s.net.shape.groupers) (sym c.self.view_is))

pub look_at_merge-requires-clause-processor_ends : goal.look_at_merge-requires-clause-processor_ends
look_at_merge-requires-clause-processor_ends g c =
    merge_processor_ends (declared_of c.self.inside.job.now) c.self.inside.credits c.self.inside.parsers.items c.self.inside.groupers.items c.self.inside.processors.items c.self.inside.merge.merge (subst (λ (s : NodesSeen). StandsApart s.net) (sym c.self.view_is) c.requires) c.self.inside.merge.merge (merge_stays c.self.inside.merge.merge)

pub returns-clause-looks : goal.returns-clause-looks
returns-clause-looks g c =
    let l = c.look_at_merge in
    subst (λ (s : NodesSeen). MergeIsLookedAt s.net (net_of (declared_of c.self.inside.job.now) c.self.inside.credits l.new.parsers.items c.self.inside.groupers.items l.new.processors.items l.new.merge.merge)) c.self.view_is
    (merge_seen (declared_of c.self.inside.job.now) c.self.inside.credits c.self.inside.parsers.items c.self.inside.groupers.items c.self.inside.processors.items c.self.inside.merge.merge (subst (λ (s : NodesSeen). StandsApart s.net) (sym c.self.view_is) c.requires) c.self.inside.merge.merge (merge_stays c.self.inside.merge.merge)
    l.new.parsers.items l.new.processors.items l.new.merge.merge c.grouper_count-groupers.result (c.grouper_count-groupers.ensures.is ∙ ap (λ (s : NodesSeen). s.net.shape.groupers) (sym c.self.view_is)) l.ensures.looks l.ensures.as_many l.ensures.parsers l.ensures.processors
    l.ensures.counts_looked l.ensures.answers_looked refl l.ensures.beside l.ensures.ins_stay)

pub returns-clause-stands : goal.returns-clause-stands
returns-clause-stands g c =
    looked_apart c.args.self.now.net (net_of (declared_of c.self.inside.job.now) c.self.inside.credits c.look_at_merge.new.parsers.items c.self.inside.groupers.items c.look_at_merge.new.processors.items c.look_at_merge.new.merge.merge) c.requires (returns-clause-looks g c).looks
