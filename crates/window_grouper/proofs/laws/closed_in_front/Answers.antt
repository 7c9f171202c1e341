use Rattle.window_grouper.proofs.Standing.{closed_in_front}
use Rattle.window_grouper.proofs.laws.closed_in_front.Goals as goal

pub returns : goal.returns
returns c = closed_in_front
