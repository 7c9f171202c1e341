use Rattle.window_grouper.proofs.Standing.{stamps_apart}
use Rattle.window_grouper.proofs.laws.stamps_apart.Goals as goal

pub returns : goal.returns
returns c = stamps_apart
