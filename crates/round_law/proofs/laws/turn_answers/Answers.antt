use Rattle.round_law.proofs.Counts.{turn_answers}
use Rattle.round_law.proofs.laws.turn_answers.Goals as goal

pub returns : goal.returns
returns c = turn_answers
