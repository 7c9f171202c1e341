use Rattle.pipeline_law.proofs.Agreeing as law
use Rattle.pipeline_law.proofs.laws.held_is_within.Goals as goal

pub returns : goal.returns
returns c = law.held_is_within
