use Rattle.std.proofs.Common.{◌≡◌, drop}
use Rattle.std.specs.List.{fold}
use Rattle.ds_base.specs.Keys.{fnv, fnv_step}
use Rattle.sample_run.proofs.totals.hash.Given as goal

abbrev pub invariant-loop-byte : goal.invariant-loop-byte
invariant-loop-byte l = fnv l.bytes ≡ fold fnv_step l.hash (drop l.byte-index l.bytes)
