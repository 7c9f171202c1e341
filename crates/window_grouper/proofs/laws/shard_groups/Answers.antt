use Rattle.window_grouper.proofs.Shards.{shard_groups}
use Rattle.window_grouper.proofs.laws.shard_groups.Goals as goal

pub returns : goal.returns
returns c = shard_groups
