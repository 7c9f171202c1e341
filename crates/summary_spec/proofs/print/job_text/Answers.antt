use Rattle.std.proofs.Common.{string_bytes}
use Rattle.std.proofs.lemmas.Result.{IfOk-weaker}
use Rattle.summary_spec.specs.Job.{declared_of}
use Rattle.summary_spec.proofs.Depths.{read_again}
use Rattle.summary_spec.proofs.Floats.{written}
use Rattle.summary_spec.proofs.print.job_text.Goals as goal

pub returns : goal.returns
returns c = record {
  text = IfOk-weaker c.to_string.result _ _ (λ s w. written _ (declared_of c.args.job.now) (string_bytes s) c.in_ok-value.ensures w) c.to_string.ensures.text;
  read = IfOk-weaker c.to_string.result _ _ (λ s w. read_again _ (declared_of c.args.job.now) (string_bytes s) c.in_ok-value.ensures w) c.to_string.ensures.reads_back;
}
