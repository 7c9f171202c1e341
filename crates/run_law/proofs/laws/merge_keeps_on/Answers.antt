use Rattle.run_law.proofs.Going as law
use Rattle.run_law.proofs.laws.merge_keeps_on.Goals as goal

pub returns : goal.returns
returns c = law.merge_keeps_on
