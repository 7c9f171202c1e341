use Rattle.pipeline_law.proofs.Agreeing as law
use Rattle.pipeline_law.proofs.laws.done_rows_have_bound.Goals as goal

pub returns : goal.returns
returns c = law.done_rows_have_bound
