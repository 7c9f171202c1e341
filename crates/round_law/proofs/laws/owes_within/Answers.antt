use Rattle.round_law.proofs.Ends.{owes_within}
use Rattle.round_law.proofs.laws.owes_within.Goals as goal

pub returns : goal.returns
returns c = owes_within
