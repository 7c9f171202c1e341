use Rattle.pipeline_law.proofs.Agreeing as law
use Rattle.pipeline_law.proofs.laws.done_rows_agree.Goals as goal

pub returns : goal.returns
returns c = law.done_rows_agree
