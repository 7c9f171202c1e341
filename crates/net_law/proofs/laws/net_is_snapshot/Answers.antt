use Rattle.net_law.proofs.Moments as law
use Rattle.net_law.proofs.laws.net_is_snapshot.Goals as goal

pub returns : goal.returns
returns c = law.net_is_snapshot
