use Rattle.round_law.proofs.Bounds.{run_has_bound}
use Rattle.round_law.proofs.laws.run_has_bound.Goals as goal

pub returns : goal.returns
returns c = run_has_bound
