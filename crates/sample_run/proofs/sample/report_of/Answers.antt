use Rattle.std.proofs.Common.{List, ℕ, map, subst}
use Rattle.ds_base.specs.Files.{named_bytes}
use Rattle.summary_spec.specs.Job.{declared_of}
use Rattle.new_pipeline.specs.Shapes.{counts_of}
use Rattle.job_run.specs.Rows.{AreBoundBelow}
use Rattle.sample_run.proofs.Making.{all_fresh, all_tell, told_files, written_is}
use Rattle.sample_run.proofs.sample.report_of.Goals as goal

pub run_job-ended-requires-clause-fresh : goal.run_job-ended-requires-clause-fresh
run_job-ended-requires-clause-fresh g c = all_fresh _ (map named_bytes c.args.sample.now.files.items) c.in_ok-sources.ensures

pub returns-in-Ok-clause-written : goal.returns-in-Ok-clause-written
returns-in-Ok-clause-written g c =
    let h = rw c.in-Ok.is at c.run_job-ended.ensures.ends in
    written_is _ (map named_bytes c.args.sample.now.files.items) (declared_of c.args.sample.now.job) _ _ c.in_ok-sources.ensures c.new-sink.ensures h.whole

pub returns-in-Ok-clause-bound : goal.returns-in-Ok-clause-bound
returns-in-Ok-clause-bound g c =
    let files = map named_bytes c.args.sample.now.files.items in
    subst (λ (fs : List (List ℕ)). AreBoundBelow (declared_of c.args.sample.now.job) fs (counts_of c.args.shape) c.run_job-ended.result.rows) (told_files _ files c.in_ok-sources.ensures)
    (c.run_job-ended.ensures.bound (all_tell _ files c.in_ok-sources.ensures))
