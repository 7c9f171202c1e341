use Rattle.net_law.proofs.Turned as law
use Rattle.net_law.proofs.laws.turns_go_on.Goals as goal

pub returns : goal.returns
returns c = law.turns_go_on
