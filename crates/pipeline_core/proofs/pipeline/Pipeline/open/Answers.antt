-- A new pipeline holds.
use Rattle.std.proofs.Common.{ℕ, None, length, map, sym, ◌∙◌, subst}
use Rattle.summary_spec.specs.Job.{declared_of}
use Rattle.net_law.specs.Nets.{Net}
use Rattle.new_pipeline.specs.Rooms.{IsRoom}
use Rattle.pipeline_core.specs.Pipelines.{PipelineHolds, AreSourcesOf}
use Rattle.pipeline_core.proofs.Opened.{opened_holds, opened_sources}
use Rattle.pipeline_core.proofs.pipeline.Pipeline.open.Goals as goal

pub invariant_of-result : goal.invariant_of-result
invariant_of-result g c =
    subst (λ (net : Net). PipelineHolds net None c.in-Ok-open_nodes.made.room.lists.items c.in-Ok-open_nodes.made.room.gathered c.len-captures.result c.in-Ok.rows) (sym c.new-nodes.ensures.net)
    (opened_holds (declared_of c.args.job.now) c.args.shape c.in-Ok-open_nodes.made.parsers.items c.in-Ok-open_nodes.made.groupers.items c.in-Ok-open_nodes.made.processors.items c.in-Ok-open_nodes.made.merge.merge
    c.in-Ok-open_nodes.ensures.stands (map g.S.Source.seen c.args.sources.items) (g.O.Sink.seen c.args.sink.now) c.in-Ok-open_nodes.ensures.new c.in-Ok-open_nodes.made.room.lists.items
    c.in-Ok-open_nodes.made.room.gathered c.len-captures.result c.in-Ok.rows
    (subst (λ (n : ℕ). IsRoom c.args.shape.parsers n c.in-Ok-open_nodes.made.room.lists.items c.in-Ok-open_nodes.made.room.gathered) (sym c.len-captures.ensures) c.in-Ok-open_nodes.ensures.room)
    (c.len-captures.ensures ∙ c.requires.captures) c.in-Ok.ensures.none c.in-Ok.ensures.room)

pub returns-in-Ok-open_nodes-clause-sources : goal.returns-in-Ok-open_nodes-clause-sources
returns-in-Ok-open_nodes-clause-sources g c =
    subst (λ (net : Net). AreSourcesOf net (map g.S.Source.seen c.args.sources.items)) (sym c.new-nodes.ensures.net)
    (opened_sources (declared_of c.args.job.now) c.args.shape c.in-Ok-open_nodes.made.parsers.items c.in-Ok-open_nodes.made.groupers.items c.in-Ok-open_nodes.made.processors.items
    c.in-Ok-open_nodes.made.merge.merge c.in-Ok-open_nodes.ensures.stands (map g.S.Source.seen c.args.sources.items) (g.O.Sink.seen c.args.sink.now) c.in-Ok-open_nodes.ensures.new)
