use Rattle.run_law.proofs.Ended as law
use Rattle.run_law.proofs.laws.done_has_written_report.Goals as goal

pub returns : goal.returns
returns c = law.done_is_whole
