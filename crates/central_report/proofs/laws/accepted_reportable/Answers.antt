use Rattle.central_report.proofs.Accepted as law
use Rattle.central_report.proofs.laws.accepted_reportable.Goals as goal

pub returns : goal.returns
returns c = law.accepted_reportable
