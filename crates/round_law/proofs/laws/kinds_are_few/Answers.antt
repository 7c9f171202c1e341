use Rattle.round_law.proofs.Offers.{kinds_are_few}
use Rattle.round_law.proofs.laws.kinds_are_few.Goals as goal

pub returns : goal.returns
returns c = kinds_are_few
