-- A look leaves all that is kept.
use Rattle.std.proofs.Common.{subst}
use Rattle.pipeline_core.specs.Pipelines.{PipelineSeen, PipelineGoes}
use Rattle.pipeline_core.proofs.Holding.{goes_by_look, holds_on, tells_by_look}
use Rattle.pipeline_core.proofs.pipeline.Pipeline.look.Goals as goal

pub invariant_of-self : goal.invariant_of-self
invariant_of-self g c =
    holds_on c.self.inside.nodes.net c.look.new.self.net c.self.inside.first c.self.inside.room.lists.items c.self.inside.room.gathered c.self.inside.captures c.self.inside.rows c.self.invariant
    c.self.inside.first c.look.ensures.stands c.look.ensures.looks.alike
    (tells_by_look c.self.inside.nodes.net c.look.new.self.net c.self.inside.first c.self.invariant.tells c.self.invariant.nodes.stands c.look.ensures.looks)

pub returns-clause-goes : goal.returns-clause-goes
returns-clause-goes g c =
    subst (λ (s : PipelineSeen). PipelineGoes s (record { net = c.look.new.self.net; lent = c.look.new.self.lent; fault = c.self.inside.first })) c.self.view_is
    (record { net = goes_by_look c.self.inside.nodes.net c.look.new.self.net c.look.ensures.looks; lent = c.look.ensures.lent })
