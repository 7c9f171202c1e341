use Rattle.std.proofs.Common.{ℕ, ◌<◌}
use Rattle.ds_base.specs.Keys.{key_of}
use Rattle.frame_order.specs.Agreeing.{AgreesAt}
use Rattle.frame_order.proofs.of_job.is_key_of.Given as goal

abbrev pub invariant-loop-i : goal.invariant-loop-i
invariant-loop-i l = (k : ℕ) → k < l.i → AgreesAt k l.key (key_of l.job.key.items l.vals)
