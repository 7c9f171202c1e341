use Rattle.std.proofs.Common.{refl}
use Rattle.trace_gen.proofs.SampleLawful.{declares_sample, lawful_as_sample}
use Rattle.trace_gen.proofs.sample_job.sample_job.Goals as goal

pub invariant_of-result : goal.invariant_of-result
invariant_of-result c = record {
  lawful = lawful_as_sample _ (declares_sample _ refl refl c.in_ok-vars.ensures c.in_ok-captures.ensures c.in_ok-files.ensures
      c.in_ok-offsets.ensures c.in_ok-skews.ensures c.in_ok-interfaces.ensures c.in_ok-takes.ensures c.in_ok-filter_text.ensures
      refl c.in_ok-key.ensures refl refl refl refl);
}
