use Rattle.run_law.proofs.Written as law
use Rattle.run_law.proofs.laws.written_is_front_of_report.Goals as goal

pub returns : goal.returns
returns c = law.written_is_front
