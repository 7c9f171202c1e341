-- Why a run ended with a fault.
use Rattle.pipeline_nodes.specs.Turns.{HasMet}
use Rattle.run_rounds.specs.declared.node_at.NodeAt.{NodeAt}
use Rattle.run_rounds.specs.Runs.{HadOrMeets}
use Rattle.pipeline_core.specs.Pipelines.{PipelineSeen, PipelineGoes}

-- a node had the fault from before, and took no turn; or a turn met it, where no node had one
abbrev pub MetBy : (before after : PipelineSeen) → NodeAt → Type 0
MetBy = HadOrMeets PipelineSeen (λ p. p.net) PipelineGoes (λ before after node bad. HasMet node before.net after.net bad)
