use Rattle.std.proofs.Common.{map, subst, sym}
use Rattle.ds_base.specs.Gain.{GainsPrefix}
use Rattle.ds_base.specs.Outside.{SinkSeen}
use Rattle.central_report.specs.Report.{report}
use Rattle.job_run.specs.Sources.{files_of}
use Rattle.summary_spec.specs.Job.{declared_of}
use Rattle.new_pipeline.specs.Shapes.{counts_of}
use Rattle.output_text.proofs.Gaining.{gains_nothing}
use Rattle.job_run.proofs.Running as running
use Rattle.job_run.proofs.Causes as causes
use Rattle.job_run.proofs.Numbered as numbered
use Rattle.job_run.proofs.run.run_into.Goals as goal

pub returns-in-Ok-clause-sources_stay : goal.returns-in-Ok-clause-sources_stay
returns-in-Ok-clause-sources_stay g c =
    running.stay (declared_of c.args.job.now) (counts_of c.args.shape) c.args.shape.credits (map g.S.Source.seen c.args.sources.items) (g.O.Sink.seen c.args.sink.now) c.in-Ok.pipeline
    c.in-Ok.ensures.new c.in-Ok.ensures.stands c.in-Ok.ensures.sources c.run_and_close-ended.result.0 _ _ _ c.run_and_close-ended.ensures.left

pub returns-in-Ok-clause-written : goal.returns-in-Ok-clause-written
returns-in-Ok-clause-written g c = record {
  front =
      running.written (declared_of c.args.job.now) (counts_of c.args.shape) c.args.shape.credits (map g.S.Source.seen c.args.sources.items) (g.O.Sink.seen c.args.sink.now) c.in-Ok.pipeline
      c.in-Ok.ensures.new c.in-Ok.ensures.stands c.in-Ok.ensures.sources c.run_and_close-ended.result.0 _ _ _ c.run_and_close-ended.ensures.left;
}

pub returns-in-Ok-clause-ends : goal.returns-in-Ok-clause-ends
returns-in-Ok-clause-ends g c =
    causes.ends (declared_of c.args.job.now) (counts_of c.args.shape) c.args.shape.credits (map g.S.Source.seen c.args.sources.items) (g.O.Sink.seen c.args.sink.now) c.in-Ok.pipeline
    c.in-Ok.ensures.new c.in-Ok.ensures.stands c.in-Ok.ensures.sources c.run_and_close-ended.result.0 _ _ _ c.run_and_close-ended.ensures.left
    c.fault_of.result c.fault_of.ensures c.run_and_close-ended.ensures.no_link

pub returns-in-Ok-clause-rows : goal.returns-in-Ok-clause-rows
returns-in-Ok-clause-rows g c =
    numbered.rows_are (declared_of c.args.job.now) (counts_of c.args.shape) c.args.shape.credits (map g.S.Source.seen c.args.sources.items) (g.O.Sink.seen c.args.sink.now) c.in-Ok.pipeline
    c.in-Ok.ensures.new c.in-Ok.ensures.stands c.in-Ok.ensures.sources c.run_and_close-ended.result.0 _ _ _ c.run_and_close-ended.ensures.left

pub returns-in-Ok-clause-bound : goal.returns-in-Ok-clause-bound
returns-in-Ok-clause-bound g c =
    numbered.bound (declared_of c.args.job.now) (counts_of c.args.shape) c.args.shape.credits (map g.S.Source.seen c.args.sources.items) (g.O.Sink.seen c.args.sink.now) c.in-Ok.pipeline
    c.in-Ok.ensures.new c.in-Ok.ensures.stands c.in-Ok.ensures.sources c.run_and_close-ended.result.0 _ _ _ c.run_and_close-ended.ensures.left

pub returns-in-Err-clause-written : goal.returns-in-Err-clause-written
returns-in-Err-clause-written g c = record {
  front = λ all told.
      subst (λ (s : SinkSeen). GainsPrefix (g.O.Sink.seen c.args.sink.now).written s.written (report (declared_of c.args.job.now) (files_of (map g.S.Source.seen c.args.sources.items)))) (sym c.in-Err.ensures.returned.1)
      (gains_nothing (g.O.Sink.seen c.args.sink.now).written (report (declared_of c.args.job.now) (files_of (map g.S.Source.seen c.args.sources.items))));
}
