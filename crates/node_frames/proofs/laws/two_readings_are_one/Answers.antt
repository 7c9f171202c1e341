use Rattle.node_frames.proofs.Links.{one_opens, two_readings_are_one}
use Rattle.node_frames.proofs.laws.two_readings_are_one.Goals as goal

pub returns-clause-opens : goal.returns-clause-opens
returns-clause-opens c = one_opens

pub returns-clause-readings : goal.returns-clause-readings
returns-clause-readings c = two_readings_are_one
