-- There is no first fault exactly where no node has one.
use Rattle.std.proofs.Common.{None, Some, Option, refl, sym, subst}
use Rattle.std.specs.Prelude.{IsNone}
use Rattle.net_law.specs.Rounds.{NoneHasFault}
use Rattle.pipeline_core.specs.Pipelines.{PipelineSeen}
use Rattle.pipeline_core.proofs.Holding.{first_none, is_none, none_is}
use Rattle.pipeline_core.proofs.pipeline.Pipeline.fault.Goals as goal

pub returns-clause-none : goal.returns-clause-none
returns-clause-none g c = (
  λ none. subst (λ (s : PipelineSeen). NoneHasFault s.net) c.self.view_is (c.self.invariant.tells.quiet (none_is c.self.inside.first none)),
  λ quiet. is_none c.self.inside.first
      (first_none c.self.inside.nodes.net c.self.inside.first c.self.invariant.nodes.stands c.self.invariant.tells (subst (λ (s : PipelineSeen). NoneHasFault s.net) (sym c.self.view_is) quiet)),
)
