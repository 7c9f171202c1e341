use Rattle.pipeline_law.proofs.Numbered as law
use Rattle.pipeline_law.proofs.laws.rows_are_numbered.Goals as goal

pub returns : goal.returns
returns c = law.rows_are_numbered
