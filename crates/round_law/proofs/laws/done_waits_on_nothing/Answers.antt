use Rattle.round_law.proofs.Standing.{done_waits_on_nothing}
use Rattle.round_law.proofs.laws.done_waits_on_nothing.Goals as goal

pub returns : goal.returns
returns c = done_waits_on_nothing
