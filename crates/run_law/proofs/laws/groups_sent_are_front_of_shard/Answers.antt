use Rattle.run_law.proofs.Sharded as law
use Rattle.run_law.proofs.laws.groups_sent_are_front_of_shard.Goals as goal

pub returns : goal.returns
returns c = law.groups_sent_are_front
