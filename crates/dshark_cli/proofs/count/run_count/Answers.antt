use Rattle.summary_spec.specs.Job.{declared_of}
use Rattle.output_text.proofs.Gaining.{gains_nothing}
use Rattle.dshark_cli.proofs.Reported.{count_prefix, count_ok, count_stops}
use Rattle.dshark_cli.proofs.count.run_count.Goals as goal

pub returns-in_default-clause-prefix : goal.returns-in_default-clause-prefix
returns-in_default-clause-prefix g c folder out = gains_nothing _ _

pub returns-in-Ok-write_report-clause-prefix : goal.returns-in-Ok-write_report-clause-prefix
returns-in-Ok-write_report-clause-prefix g c folder out =
    count_prefix (declared_of c.in-Ok.job) (g.F.Folder.seen c.args.folder.now) c.args.field c.args.window c.args.file.now (g.O.Sink.seen c.args.out.now).written (g.O.Sink.seen c.write_report.new.out).written
    c.in-Ok.ensures (c.write_report.ensures.prefix folder out)

pub returns-in-Ok-write_report-clause-ends : goal.returns-in-Ok-write_report-clause-ends
returns-in-Ok-write_report-clause-ends g c =
    count_ok (declared_of c.in-Ok.job) c.args.field c.args.window c.args.file.now (g.F.Folder.seen c.args.folder.now) (g.F.Folder.seen c.write_report.new.folder) (g.O.Sink.seen c.args.out.now) (g.O.Sink.seen c.write_report.new.out)
    c.in-Ok.ensures c.in-Ok-write_report.ensures.ends

pub returns-clause-prefix : goal.returns-clause-prefix
returns-clause-prefix g c folder out =
    count_prefix (declared_of c.in-Ok.job) (g.F.Folder.seen c.args.folder.now) c.args.field c.args.window c.args.file.now (g.O.Sink.seen c.args.out.now).written (g.O.Sink.seen c.write_report.new.out).written
    c.in-Ok.ensures (c.write_report.ensures.prefix folder out)

pub returns-clause-ends : goal.returns-clause-ends
returns-clause-ends g c =
    rw c.of_count.ensures (count_stops (declared_of c.in-Ok.job) c.args.field c.args.window c.args.file.now (g.F.Folder.seen c.args.folder.now) (g.F.Folder.seen c.write_report.new.folder) (g.O.Sink.seen c.args.out.now) (g.O.Sink.seen c.write_report.new.out)
    c.in-Err.fault c.in-Ok.ensures c.in-Err.ensures.ends)
