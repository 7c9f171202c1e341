-- The four grids, joined.
use Rattle.std.proofs.lemmas.Result.{IfOk-weaker}
use Rattle.link_grid.specs.Pipelines.{AreJoined}
use Rattle.link_grid.specs.declared.pipeline.PipelineLinks.{PipelineLinks}
use Rattle.link_grid.proofs.Linking.{joined_links}
use Rattle.link_grid.proofs.pipeline.pipeline_links.Goals as goal

pub returns : goal.returns
returns c =
    IfOk-weaker c.join_grids.result _ _
    (λ (links : PipelineLinks) (j : AreJoined c.in_ok-items.items c.in_ok-counts.counts c.in_ok-groups.groups c.in_ok-answers.answers links).
    joined_links c.args.credits c.args.parsers c.args.groupers c.args.processors c.in_ok-items.items c.in_ok-counts.counts c.in_ok-groups.groups c.in_ok-answers.answers links j c.in_ok-items.ensures c.in_ok-counts.ensures
    c.in_ok-groups.ensures c.in_ok-answers.ensures)
    c.join_grids.ensures
