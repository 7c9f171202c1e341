-- The merge's turn and the look behind it are a turn of the pipeline.
use Rattle.std.proofs.Common.{◌+◌, sym, ap, ◌∙◌, subst}
use Rattle.summary_spec.specs.Job.{declared_of}
use Rattle.net_law.specs.Nets.{NetStands}
use Rattle.result_merge.specs.Nodes.{MergeLent}
use Rattle.pipeline_nodes.specs.Nodes.{NodesSeen, net_of}
use Rattle.pipeline_nodes.specs.Turns.{HasTurned}
use Rattle.pipeline_nodes.proofs.Listed.{merge_ins, merge_parser_outs, merge_processor_outs, merge_parser_ends, merge_processor_ends, merge_turned}
use Rattle.pipeline_nodes.proofs.Looked.{apart}
use Rattle.pipeline_nodes.proofs.nodes.Nodes.turn_merge.Goals as goal

pub look_at_merge-requires-clause-ins : goal.look_at_merge-requires-clause-ins
look_at_merge-requires-clause-ins g c =
    merge_ins (declared_of c.self.inside.job.now) c.self.inside.credits c.self.inside.parsers.items c.self.inside.groupers.items c.self.inside.processors.items c.self.inside.merge.merge (apart (net_of (declared_of c.self.inside.job.now) c.self.inside.credits c.self.inside.parsers.items c.self.inside.groupers.items c.self.inside.processors.items c.self.inside.merge.merge) (subst (λ (s : NodesSeen). NetStands s.net) (sym c.self.view_is) c.requires.stands)) c.turn-turned.new.self.merge c.turn-turned.ensures.goes

pub look_at_merge-requires-clause-parser_outs : goal.look_at_merge-requires-clause-parser_outs
look_at_merge-requires-clause-parser_outs g c =
    merge_parser_outs (declared_of c.self.inside.job.now) c.self.inside.credits c.self.inside.parsers.items c.self.inside.groupers.items c.self.inside.processors.items c.self.inside.merge.merge (apart (net_of (declared_of c.self.inside.job.now) c.self.inside.credits c.self.inside.parsers.items c.self.inside.groupers.items c.self.inside.processors.items c.self.inside.merge.merge) (subst (λ (s : NodesSeen). NetStands s.net) (sym c.self.view_is) c.requires.stands)) c.turn-turned.new.self.merge c.turn-turned.ensures.goes c.grouper_count-groupers.result (c.grouper_count-groupers.ensures.is ∙ ap (λ (s : NodesSeen). s.net.shape.groupers) (sym c.self.view_is))

pub look_at_merge-requires-clause-processor_outs : goal.look_at_merge-requires-clause-processor_outs
look_at_merge-requires-clause-processor_outs g c =
    merge_processor_outs (declared_of c.self.inside.job.now) c.self.inside.credits c.self.inside.parsers.items c.self.inside.groupers.items c.self.inside.processors.items c.self.inside.merge.merge (apart (net_of (declared_of c.self.inside.job.now) c.self.inside.credits c.self.inside.parsers.items c.self.inside.groupers.items c.self.inside.processors.items c.self.inside.merge.merge) (subst (λ (s : NodesSeen). NetStands s.net) (sym c.self.view_is) c.requires.stands)) c.turn-turned.new.self.merge c.turn-turned.ensures.goes

pub look_at_merge-requires-clause-parser_ends : goal.look_at_merge-requires-clause-parser_ends
look_at_merge-requires-clause-parser_ends g c =
    merge_parser_ends (declared_of c.self.inside.job.now) c.self.inside.credits c.self.inside.parsers.items c.self.inside.groupers.items c.self.inside.processors.items c.self.inside.merge.merge (apart (net_of (declared_of c.self.inside.job.now) c.self.inside.credits c.self.inside.parsers.items c.self.inside.groupers.items c.self.inside.processors.items c.self.inside.merge.merge) (subst (λ (s : NodesSeen). NetStands s.net) (sym c.self.view_is) c.requires.stands)) c.turn-turned.new.self.merge c.turn-turned.ensures.goes c.grouper_count-groupers.result (c.grouper_count-groupers.ensures.is ∙ ap (λ (s : NodesSeen). s.net.shape.groupers) (sym c.self.view_is))

pub look_at_merge-requires-clause-processor_ends : goal.look_at_merge-requires-clause-processor_ends
look_at_merge-requires-clause-processor_ends g c =
    merge_processor_ends (declared_of c.self.inside.job.now) c.self.inside.credits c.self.inside.parsers.items c.self.inside.groupers.items c.self.inside.processors.items c.self.inside.merge.merge (apart (net_of (declared_of c.self.inside.job.now) c.self.inside.credits c.self.inside.parsers.items c.self.inside.groupers.items c.self.inside.processors.items c.self.inside.merge.merge) (subst (λ (s : NodesSeen). NetStands s.net) (sym c.self.view_is) c.requires.stands)) c.turn-turned.new.self.merge c.turn-turned.ensures.goes

pub returns-clause-turned : goal.returns-clause-turned
returns-clause-turned g c =
    let e = c.turn-turned.ensures in
    let l = c.look_at_merge in
    subst (λ (s : NodesSeen). HasTurned (s.net.shape.parsers + s.net.shape.groupers + s.net.shape.processors) s.net (net_of (declared_of c.self.inside.job.now) c.self.inside.credits l.new.parsers.items c.self.inside.groupers.items l.new.processors.items l.new.merge.merge) c.turn-turned.result) c.self.view_is
    (merge_turned (declared_of c.self.inside.job.now) c.self.inside.credits c.self.inside.parsers.items c.self.inside.groupers.items c.self.inside.processors.items c.self.inside.merge.merge (apart (net_of (declared_of c.self.inside.job.now) c.self.inside.credits c.self.inside.parsers.items c.self.inside.groupers.items c.self.inside.processors.items c.self.inside.merge.merge) (subst (λ (s : NodesSeen). NetStands s.net) (sym c.self.view_is) c.requires.stands)) c.turn-turned.new.self.merge c.turn-turned.ensures.goes
    l.new.parsers.items l.new.processors.items l.new.merge.merge c.grouper_count-groupers.result (c.grouper_count-groupers.ensures.is ∙ ap (λ (s : NodesSeen). s.net.shape.groupers) (sym c.self.view_is)) l.ensures.looks l.ensures.as_many l.ensures.parsers l.ensures.processors
    l.ensures.counts_looked l.ensures.answers_looked (subst (λ (s : NodesSeen). NetStands s.net) (sym c.self.view_is) c.requires.stands) c.turn-turned.result (record { says = e.says; told = e.tells; stored = e.fault; again = λ bad is. let kept = e.again bad is in (kept.0, ap (λ (s : MergeLent). s.merge) kept.1); causes = e.causes }))
