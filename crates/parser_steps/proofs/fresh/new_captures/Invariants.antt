-- So many captures so far, of which nothing was read.
use Rattle.std.proofs.Common.{ℕ, ◌≡◌, ◌<◌, ◌+◌, ◌*◌, length, vec_len, vec_capacity}
use Rattle.summary_spec.specs.Job.{declared_of}
use Rattle.parser_captures.specs.Choice.{capture_in}
use Rattle.parser_captures.specs.declared.capture.OneCapture.{OneCapture}
use Rattle.parser_steps.specs.One.{IsFreshCapture}
use Rattle.parser_steps.proofs.fresh.new_captures.Given as goal

abbrev pub invariant-captures : goal.invariant-captures
invariant-captures l = record {
  count : length l.captures.items ≡ l.i;
  len : vec_len l.captures ≡ l.i;
  cap : vec_capacity l.captures ≡ l.count;
  each : (k : ℕ) (d : OneCapture) → k < l.i → IsFreshCapture (declared_of l.job) (l.me + k * l.parsers) (capture_in l.captures.items k d);
}
