use Rattle.window_grouper.proofs.Unique.{one_grouping}
use Rattle.window_grouper.proofs.laws.one_grouping.Goals as goal

pub returns : goal.returns
returns c = one_grouping
