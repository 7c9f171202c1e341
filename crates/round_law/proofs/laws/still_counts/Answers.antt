use Rattle.round_law.proofs.Counts.{still_counts, none_lowers}
use Rattle.round_law.proofs.laws.still_counts.Goals as goal

pub returns-clause-stays : goal.returns-clause-stays
returns-clause-stays c = still_counts

pub returns-clause-never_falls : goal.returns-clause-never_falls
returns-clause-never_falls c = none_lowers
