use Rattle.run_law.proofs.Quiet as law
use Rattle.run_law.proofs.laws.run_without_records_ends.Goals as goal

pub returns : goal.returns
returns c = law.run_without_records_ends
