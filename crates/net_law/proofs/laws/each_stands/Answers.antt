use Rattle.net_law.proofs.Pairs as law
use Rattle.net_law.proofs.laws.each_stands.Goals as goal

pub returns : goal.returns
returns c = law.each_stands
