use Rattle.round_law.proofs.Ends.{done_is_settled, sent_some}
use Rattle.round_law.proofs.laws.done_is_settled.Goals as goal

pub returns-clause-settled : goal.returns-clause-settled
returns-clause-settled c = done_is_settled

pub returns-clause-sent : goal.returns-clause-sent
returns-clause-sent c = sent_some
