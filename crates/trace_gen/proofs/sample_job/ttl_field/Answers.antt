use Rattle.std.proofs.Common.{refl}
use Rattle.trace_gen.proofs.SampleFields.{ttl_is}
use Rattle.trace_gen.proofs.sample_job.ttl_field.Goals as goal

pub returns : goal.returns
returns c = ttl_is _ refl refl refl refl
