use Rattle.run_law.proofs.Joining as law
use Rattle.run_law.proofs.laws.no_sent_group_gains.Goals as goal

pub returns : goal.returns
returns c = law.no_group_gains
