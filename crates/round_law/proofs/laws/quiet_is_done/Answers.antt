use Rattle.round_law.proofs.Quiet.{quiet_is_done, quiet_is_settled}
use Rattle.round_law.proofs.laws.quiet_is_done.Goals as goal

pub returns-clause-done : goal.returns-clause-done
returns-clause-done c = quiet_is_done

pub returns-clause-settled : goal.returns-clause-settled
returns-clause-settled c = quiet_is_settled
