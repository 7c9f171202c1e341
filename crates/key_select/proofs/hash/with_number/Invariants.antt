use Rattle.std.proofs.Common.{◌≡◌, drop}
use Rattle.std.specs.List.{fold}
use Rattle.ds_base.specs.Keys.{fnv_step}
use Rattle.key_select.proofs.hash.with_number.Given as goal

abbrev pub invariant-loop-byte : goal.invariant-loop-byte
invariant-loop-byte l = fold fnv_step l.from l.byte-items ≡ fold fnv_step l.hash (drop l.byte-index l.byte-items)
