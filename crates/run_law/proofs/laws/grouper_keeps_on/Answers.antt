use Rattle.run_law.proofs.More as law
use Rattle.run_law.proofs.laws.grouper_keeps_on.Goals as goal

pub returns : goal.returns
returns c = law.grouper_keeps_on
