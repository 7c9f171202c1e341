use Rattle.std.proofs.Common.{refl}
use Rattle.trace_gen.proofs.SampleFields.{id_is}
use Rattle.trace_gen.proofs.sample_job.id_field.Goals as goal

pub returns : goal.returns
returns c = id_is _ refl refl refl refl
