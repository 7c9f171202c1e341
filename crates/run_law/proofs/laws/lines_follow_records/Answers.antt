use Rattle.run_law.proofs.Marked as law
use Rattle.run_law.proofs.laws.lines_follow_records.Goals as goal

pub returns : goal.returns
returns c = law.lines_follow_records
