use Rattle.central_report.proofs.Membership as law
use Rattle.central_report.proofs.laws.accepted_is_all.Goals as goal

pub returns : goal.returns
returns c = law.accepted_is_all
