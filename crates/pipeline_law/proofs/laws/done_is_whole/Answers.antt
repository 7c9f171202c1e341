use Rattle.pipeline_law.proofs.Moments as law
use Rattle.pipeline_law.proofs.laws.done_is_whole.Goals as goal

pub returns : goal.returns
returns c = law.done_is_whole
