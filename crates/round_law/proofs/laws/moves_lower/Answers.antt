use Rattle.round_law.proofs.Counts.{moves_lower}
use Rattle.round_law.proofs.laws.moves_lower.Goals as goal

pub returns : goal.returns
returns c = moves_lower
