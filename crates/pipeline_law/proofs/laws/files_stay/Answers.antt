use Rattle.pipeline_law.proofs.Staying as law
use Rattle.pipeline_law.proofs.laws.files_stay.Goals as goal

pub returns : goal.returns
returns c = law.files_stay
