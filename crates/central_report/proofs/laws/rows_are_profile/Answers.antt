use Rattle.central_report.proofs.Profiled as law
use Rattle.central_report.proofs.laws.rows_are_profile.Goals as goal

pub returns : goal.returns
returns c = law.rows_are_profile
