use Rattle.net_law.proofs.Steps as law
use Rattle.net_law.proofs.laws.net_goes_on.Goals as goal

pub returns : goal.returns
returns c = law.net_goes_on
