use Rattle.window_grouper.proofs.Later.{closed_stay}
use Rattle.window_grouper.proofs.laws.closed_stay.Goals as goal

pub returns : goal.returns
returns c = closed_stay
