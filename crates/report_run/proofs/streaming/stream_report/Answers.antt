use Rattle.std.proofs.Common.{map}
use Rattle.summary_spec.specs.Job.{declared_of}
use Rattle.new_pipeline.specs.Shapes.{counts_of}
use Rattle.output_text.proofs.Gaining.{gains_nothing}
use Rattle.report_run.proofs.Opened.{all_fresh, one_each}
use Rattle.report_run.proofs.Ending.{prefix, ends, bound}
use Rattle.report_run.proofs.streaming.stream_report.Goals as goal

pub run_job-ended-requires-clause-captures : goal.run_job-ended-requires-clause-captures
run_job-ended-requires-clause-captures g c =
    one_each c.args.job.now (g.F.Folder.seen c.args.folder.now) g.F.Src.Source.seen c.in-Ok.sources.items c.in-Ok.ensures.ends

pub run_job-ended-requires-clause-fresh : goal.run_job-ended-requires-clause-fresh
run_job-ended-requires-clause-fresh g c =
    all_fresh (g.F.Folder.seen c.args.folder.now) (declared_of c.args.job.now).files (map g.F.Src.Source.seen c.in-Ok.sources.items) c.in-Ok.ensures.ends

pub returns-in-Ok-clause-prefix : goal.returns-in-Ok-clause-prefix
returns-in-Ok-clause-prefix g c =
    prefix (declared_of c.args.job.now) (g.F.Folder.seen c.args.folder.now) (g.F.Folder.seen c.open_listed.new.folder) (g.F.Folder.seen c.give_back_read.new.folder)
    (map g.F.Src.Source.seen c.in-Ok.sources.items) (map g.F.Src.Source.seen c.run_job-ended.result.sources.items) (g.O.Sink.seen c.args.out.now) (g.O.Sink.seen c.run_job-ended.new.sink)
    c.in-Ok.ensures.ends c.in-Ok.ensures.quiet c.run_job-ended.ensures.sources_stay.as_many c.give_back_read.ensures c.run_job-ended.ensures.written

pub returns-in-Ok-clause-ends : goal.returns-in-Ok-clause-ends
returns-in-Ok-clause-ends g c =
    ends (declared_of c.args.job.now) (g.F.Folder.seen c.args.folder.now) (g.F.Folder.seen c.open_listed.new.folder) (g.F.Folder.seen c.give_back_read.new.folder)
    (map g.F.Src.Source.seen c.in-Ok.sources.items) (map g.F.Src.Source.seen c.run_job-ended.result.sources.items) (g.O.Sink.seen c.args.out.now) (g.O.Sink.seen c.run_job-ended.new.sink)
    c.in-Ok.ensures.ends c.in-Ok.ensures.quiet c.run_job-ended.ensures.sources_stay.as_many c.give_back_read.ensures
    c.run_job-ended.result.ended c.fault_of.result c.run_job-ended.result.rows c.run_job-ended.ensures.ends c.fault_of.ensures

pub returns-in-Ok-clause-bound : goal.returns-in-Ok-clause-bound
returns-in-Ok-clause-bound g c files told are =
    bound (declared_of c.args.job.now) (g.F.Folder.seen c.args.folder.now) (g.F.Folder.seen c.open_listed.new.folder) (g.F.Folder.seen c.give_back_read.new.folder)
    (map g.F.Src.Source.seen c.in-Ok.sources.items) (map g.F.Src.Source.seen c.run_job-ended.result.sources.items) (g.O.Sink.seen c.args.out.now) (g.O.Sink.seen c.run_job-ended.new.sink)
    c.in-Ok.ensures.ends c.in-Ok.ensures.quiet c.run_job-ended.ensures.sources_stay.as_many c.give_back_read.ensures (counts_of c.args.shape) c.run_job-ended.result.rows files told are c.run_job-ended.ensures.bound

pub returns-in-Err-clause-prefix : goal.returns-in-Err-clause-prefix
returns-in-Err-clause-prefix g c told out = gains_nothing _ _
