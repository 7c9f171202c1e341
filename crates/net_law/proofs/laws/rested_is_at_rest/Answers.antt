use Rattle.net_law.proofs.Rests as law
use Rattle.net_law.proofs.laws.rested_is_at_rest.Goals as goal

pub returns : goal.returns
returns c = law.rested_is_at_rest
