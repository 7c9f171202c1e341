use Rattle.round_law.proofs.Quiet.{all_done_is_settled}
use Rattle.round_law.proofs.laws.all_done_is_settled.Goals as goal

pub returns : goal.returns
returns c = all_done_is_settled
