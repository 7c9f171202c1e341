use Rattle.credit_link.proofs.Joining.{frames_are_a_prefix}
use Rattle.credit_link.proofs.laws.frames_are_a_prefix.Goals as goal

pub returns : goal.returns
returns c = frames_are_a_prefix
