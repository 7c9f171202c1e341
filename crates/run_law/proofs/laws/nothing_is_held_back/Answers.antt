use Rattle.run_law.proofs.Resting as law
use Rattle.run_law.proofs.laws.nothing_is_held_back.Goals as goal

pub returns : goal.returns
returns c = law.nothing_is_held_back
