use Rattle.round_law.proofs.Finished.{some_round_is_still}
use Rattle.round_law.proofs.Idling.{some_node_is_idle}
use Rattle.round_law.proofs.laws.some_round_is_still.Goals as goal

pub returns-clause-round : goal.returns-clause-round
returns-clause-round c = some_round_is_still

pub returns-clause-idle : goal.returns-clause-idle
returns-clause-idle c = some_node_is_idle
