use Rattle.run_law.proofs.Resting as law
use Rattle.run_law.proofs.laws.answers_to_come_are_later.Goals as goal

pub returns : goal.returns
returns c = law.answers_to_come_are_later
