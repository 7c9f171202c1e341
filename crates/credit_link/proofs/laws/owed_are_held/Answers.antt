use Rattle.credit_link.proofs.Joining.{owed_are_held}
use Rattle.credit_link.proofs.laws.owed_are_held.Goals as goal

pub returns : goal.returns
returns c = owed_are_held
