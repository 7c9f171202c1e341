use Rattle.window_grouper.proofs.Cuts.{one_cut}
use Rattle.window_grouper.proofs.laws.one_cut.Goals as goal

pub returns : goal.returns
returns c = one_cut
