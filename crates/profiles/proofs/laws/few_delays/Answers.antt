use Rattle.profiles.proofs.Windows.{few_in_group, few_delays}
use Rattle.profiles.proofs.laws.few_delays.Goals as goal

pub returns-clause-in_group : goal.returns-clause-in_group
returns-clause-in_group c = few_in_group

pub returns-clause-in_profile : goal.returns-clause-in_profile
returns-clause-in_profile c = few_delays
