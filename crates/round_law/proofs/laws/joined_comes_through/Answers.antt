use Rattle.round_law.proofs.Pipelines.{joined_comes_through}
use Rattle.round_law.proofs.laws.joined_comes_through.Goals as goal

pub returns : goal.returns
returns c = joined_comes_through
