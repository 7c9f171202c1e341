-- Turns and looks of a pipeline, none or one after another.
use Rattle.std.specs.Prelude.{refl}
use Rattle.std.proofs.Common.{◌∙◌}
use Rattle.pipeline_law.proofs.Staying.{goes_nowhere, goes_then}
use Rattle.pipeline_core.specs.Pipelines.{PipelineSeen, PipelineGoes}

pub pipeline_stays : (a : PipelineSeen) → PipelineGoes a a
pipeline_stays a = record { net = goes_nowhere a.net; lent = refl }

pub pipeline_then : (a b c : PipelineSeen) → PipelineGoes a b → PipelineGoes b c → PipelineGoes a c
pipeline_then a b c f g = record { net = goes_then a.net b.net c.net f.net g.net; lent = g.lent ∙ f.lent }
