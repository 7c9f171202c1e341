use Rattle.run_law.proofs.Starting as law
use Rattle.run_law.proofs.laws.start_is_snapshot.Goals as goal

pub returns-clause-snapshot : goal.returns-clause-snapshot
returns-clause-snapshot c = law.start_is_snapshot

pub returns-clause-marked : goal.returns-clause-marked
returns-clause-marked c = law.start_is_marked
