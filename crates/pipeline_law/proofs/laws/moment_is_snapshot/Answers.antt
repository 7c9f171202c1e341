use Rattle.pipeline_law.proofs.Moments as law
use Rattle.pipeline_law.proofs.laws.moment_is_snapshot.Goals as goal

pub returns-clause-snapshot : goal.returns-clause-snapshot
returns-clause-snapshot c = law.moment_is_snapshot

pub returns-clause-written : goal.returns-clause-written
returns-clause-written c = law.moment_is_written
