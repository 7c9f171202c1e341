use Rattle.std.proofs.Common.{ap, ◌∙◌}
use Rattle.pcap_reader.specs.Lent.{captured}
use Rattle.summary_spec.specs.Job.{declared_of}
use Rattle.key_select.specs.Sum.{sum_at}
use Rattle.key_select.proofs.summary.select.Goals as goal

pub returns : goal.returns
returns c = c.select_at.ensures ∙ ap (λ time. sum_at (declared_of c.args.job.now) c.args.capture time (captured c.args.r.now)) c.adjusted.ensures.value
