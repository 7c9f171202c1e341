use Rattle.std.proofs.Common.{◌∙◌}
use Rattle.key_select.proofs.Hashing.{hash_next}
use Rattle.ds_base.proofs.Places.{drop_at}
use Rattle.key_select.proofs.hash.shard.Goals as goal

pub loop-i-preserved : goal.loop-i-preserved
loop-i-preserved c =
    c.loop-i.invariant
    ∙ hash_next c.args.key.now c.loop-i.i c.get.result c.loop-i.hash c.with_number-hash.result (drop_at c.args.key.now c.loop-i.i c.get.result c.get.ensures) c.with_number-hash.ensures
