use Rattle.net_law.proofs.Rounds as law
use Rattle.net_law.proofs.laws.turns_make_rounds.Goals as goal

pub returns : goal.returns
returns c = law.turns_make_rounds
