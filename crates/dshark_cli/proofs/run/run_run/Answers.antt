use Rattle.std.proofs.Common.{List, ℕ, ◌≡◌, true, None, Some, subst}
use Rattle.summary_spec.specs.Job.{declared_of}
use Rattle.new_pipeline.specs.Shapes.{counts_of}
use Rattle.new_pipeline.specs.declared.shape.Shape.{Shape}
use Rattle.job_run.specs.Rows.{AreRowsOf, AreBoundBelow}
use Rattle.output_text.proofs.Gaining.{gains_nothing}
use Rattle.dshark_cli.proofs.Centrals.{central_prefix}
use Rattle.dshark_cli.proofs.Streams.{run_ok, run_stops, run_rows}
use Rattle.dshark_cli.proofs.run.run_run.Goals as goal

pub returns-in-Err-clause-prefix : goal.returns-in-Err-clause-prefix
returns-in-Err-clause-prefix g c folder out = gains_nothing _ _

pub returns-in-Ok-ended-clause-prefix : goal.returns-in-Ok-ended-clause-prefix
returns-in-Ok-ended-clause-prefix g c folder out =
    central_prefix (g.F.Folder.seen c.args.folder.now) (g.F.Folder.seen c.read_job.new.folder) c.args.file.now (g.O.Sink.seen c.args.out.now).written (g.O.Sink.seen c.stream_report-ended.new.out).written c.in-Ok.job c.in-Ok.ensures.stays c.in-Ok.ensures.ends
    (λ told. c.stream_report-ended.ensures.prefix told out) folder

pub returns-in-Ok-ended-clause-ends : goal.returns-in-Ok-ended-clause-ends
returns-in-Ok-ended-clause-ends g c =
    run_ok (g.F.Folder.seen c.args.folder.now) (g.F.Folder.seen c.read_job.new.folder) (g.F.Folder.seen c.stream_report-ended.new.folder) (g.O.Sink.seen c.args.out.now) (g.O.Sink.seen c.stream_report-ended.new.out) c.args.file.now c.args.sizes c.in-Ok.job
    c.in-Ok.ensures.stays c.in-Ok.ensures.ends (rw c.in-Ok-ended.is at c.stream_report-ended.ensures.ends)

pub returns-in-Ok-ended-clause-links : goal.returns-in-Ok-ended-clause-links
returns-in-Ok-ended-clause-links g c =
    let rows = c.stream_report-ended.result.rows in
    let job = declared_of c.in-Ok.job in
    run_rows (g.F.Folder.seen c.args.folder.now) (g.F.Folder.seen c.read_job.new.folder) c.args.file.now c.args.sizes c.in-Ok.job None rows c.in-Ok.ensures.stays c.in-Ok.ensures.ends
    (subst (λ (s : Shape). AreRowsOf (counts_of s) s.credits rows) c.shape_of.ensures c.stream_report-ended.ensures.rows)
    (λ is. rw c.in-Ok-ended.is at c.stream_report-ended.ensures.done)
    (λ files told are. subst (λ (s : Shape). AreBoundBelow job files (counts_of s) rows) c.shape_of.ensures (c.stream_report-ended.ensures.bound files told are))

pub returns-clause-prefix : goal.returns-clause-prefix
returns-clause-prefix g c folder out =
    central_prefix (g.F.Folder.seen c.args.folder.now) (g.F.Folder.seen c.read_job.new.folder) c.args.file.now (g.O.Sink.seen c.args.out.now).written (g.O.Sink.seen c.stream_report-ended.new.out).written c.in-Ok.job c.in-Ok.ensures.stays c.in-Ok.ensures.ends
    (λ told. c.stream_report-ended.ensures.prefix told out) folder

pub returns-clause-ends : goal.returns-clause-ends
returns-clause-ends g c =
    rw c.stop_by.ensures.fault (run_stops (g.F.Folder.seen c.args.folder.now) (g.F.Folder.seen c.read_job.new.folder) (g.F.Folder.seen c.stream_report-ended.new.folder) (g.O.Sink.seen c.args.out.now) (g.O.Sink.seen c.stream_report-ended.new.out) c.args.file.now c.args.sizes c.in-Ok.job
    c.in-Ok.ensures.stays c.in-Ok.ensures.ends c.in-Err-ended.fault (rw c.in-Err-ended.is at c.stream_report-ended.ensures.ends))

pub returns-clause-links : goal.returns-clause-links
returns-clause-links g c =
    let rows = c.stream_report-ended.result.rows in
    let job = declared_of c.in-Ok.job in
    run_rows (g.F.Folder.seen c.args.folder.now) (g.F.Folder.seen c.read_job.new.folder) c.args.file.now c.args.sizes c.in-Ok.job (Some c.stop_by.result.fault) rows c.in-Ok.ensures.stays c.in-Ok.ensures.ends
    (subst (λ (s : Shape). AreRowsOf (counts_of s) s.credits rows) c.shape_of.ensures c.stream_report-ended.ensures.rows)
    (λ is. absurd (let no : Some c.stop_by.result.fault ≡ None = is in cc))
    (λ files told are. subst (λ (s : Shape). AreBoundBelow job files (counts_of s) rows) c.shape_of.ensures (c.stream_report-ended.ensures.bound files told are))
