use Rattle.std.proofs.Common.{◌≡◌, drop}
use Rattle.std.specs.List.{fold}
use Rattle.ds_base.specs.Keys.{fnv, fnv_step, key_bytes}
use Rattle.key_select.proofs.hash.shard.Given as goal

abbrev pub invariant-loop-i : goal.invariant-loop-i
invariant-loop-i l = fnv (key_bytes l.key) ≡ fold fnv_step l.hash (key_bytes (drop l.i l.key))
