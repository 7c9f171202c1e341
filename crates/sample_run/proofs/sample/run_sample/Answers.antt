use Rattle.std.proofs.Common.{map, ap, ◌∙◌}
use Rattle.ds_base.specs.Files.{named_bytes}
use Rattle.summary_spec.specs.Job.{declared_of}
use Rattle.new_pipeline.specs.Shapes.{counts_of}
use Rattle.sample_run.specs.SampleLine.{line_of}
use Rattle.sample_run.proofs.Making.{one_each, totals_are, rows_bound}
use Rattle.sample_run.proofs.sample.run_sample.Goals as goal

pub report_of-requires-clause-captures : goal.report_of-requires-clause-captures
report_of-requires-clause-captures g c =
    one_each named_bytes c.in_ok-sample.sample.files.items (declared_of c.in_ok-sample.sample.job) c.args.number c.in_ok-sample.ensures.files c.in_ok-sample.ensures.job

pub returns-clause-line : goal.returns-clause-line
returns-clause-line g c =
    let sample = c.in_ok-sample.sample in
    c.in_ok-line.ensures
    ∙ ap line_of (totals_are c.args.number sample.records (declared_of sample.job) (map named_bytes sample.files.items) c.bytes.result.now c.totals_of-totals.result
    c.in_ok-sample.ensures.job c.in_ok-sample.ensures.files c.in_ok-sample.ensures.records (c.bytes.ensures ∙ c.in_ok-reported.ensures.written) c.totals_of-totals.ensures)

pub returns-clause-bound : goal.returns-clause-bound
returns-clause-bound g c =
    let sample = c.in_ok-sample.sample in
    rows_bound c.args.number (map named_bytes sample.files.items) (declared_of sample.job) (counts_of c.args.shape) c.in_ok-reported.reported.rows
    c.in_ok-sample.ensures.job c.in_ok-sample.ensures.files c.in_ok-reported.ensures.bound
