use Rattle.window_grouper.proofs.Standing.{held_once}
use Rattle.window_grouper.proofs.laws.held_once.Goals as goal

pub returns : goal.returns
returns c = held_once
