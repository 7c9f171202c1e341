use Rattle.summary_spec.specs.Job.{declared_of}
use Rattle.output_text.proofs.Gaining.{gains_nothing}
use Rattle.dshark_cli.proofs.Centrals.{central_prefix, central_ok, central_stops, central_refused, central_named, refused_named}
use Rattle.dshark_cli.proofs.central.run_central.Goals as goal

pub returns-in-Err-clause-prefix : goal.returns-in-Err-clause-prefix
returns-in-Err-clause-prefix g c folder out = gains_nothing _ _

pub returns-in-Ok-write_report-clause-prefix : goal.returns-in-Ok-write_report-clause-prefix
returns-in-Ok-write_report-clause-prefix g c folder out =
    central_prefix (g.F.Folder.seen c.args.folder.now) (g.F.Folder.seen c.read_job.new.folder) c.args.file.now (g.O.Sink.seen c.args.out.now).written (g.O.Sink.seen c.write_report.new.out).written c.in-Ok.job c.in-Ok.ensures.stays c.in-Ok.ensures.ends
    (λ told. c.write_report.ensures.prefix told out) folder

pub returns-in-Ok-write_report-clause-ends : goal.returns-in-Ok-write_report-clause-ends
returns-in-Ok-write_report-clause-ends g c =
    central_ok (g.F.Folder.seen c.args.folder.now) (g.F.Folder.seen c.read_job.new.folder) (g.F.Folder.seen c.write_report.new.folder) (g.O.Sink.seen c.args.out.now) (g.O.Sink.seen c.write_report.new.out) c.args.file.now c.in-Ok.job c.in-Ok.ensures.stays c.in-Ok.ensures.ends c.in-Ok-write_report.ensures.ends

pub returns-clause-prefix : goal.returns-clause-prefix
returns-clause-prefix g c folder out =
    central_prefix (g.F.Folder.seen c.args.folder.now) (g.F.Folder.seen c.read_job.new.folder) c.args.file.now (g.O.Sink.seen c.args.out.now).written (g.O.Sink.seen c.write_report.new.out).written c.in-Ok.job c.in-Ok.ensures.stays c.in-Ok.ensures.ends
    (λ told. c.write_report.ensures.prefix told out) folder

pub returns-clause-named : goal.returns-clause-named
returns-clause-named g c =
    central_named (g.F.Folder.seen c.args.folder.now) c.args.file.now (declared_of c.in-Ok.job) c.stop_by.result.name c.in-Err-write_report.fault c.stop_by.result.fault
    c.in-Ok.ensures.ends.declares c.stop_by.ensures.fault c.stop_by.ensures.name

pub returns-clause-ends : goal.returns-clause-ends
returns-clause-ends g c =
    rw c.stop_by.ensures.fault (central_stops (g.F.Folder.seen c.args.folder.now) (g.F.Folder.seen c.read_job.new.folder) (g.F.Folder.seen c.write_report.new.folder) (g.O.Sink.seen c.args.out.now) (g.O.Sink.seen c.write_report.new.out) c.args.file.now c.in-Ok.job c.in-Ok.ensures.stays c.in-Ok.ensures.ends
    c.in-Err-write_report.fault c.in-Err-write_report.ensures.ends)

pub returns-in-Err-clause-named : goal.returns-in-Err-clause-named
returns-in-Err-clause-named g c =
    rw (c.unnamed.ensures.fault, c.of_job.ensures) (refused_named c.args.file.now c.unnamed.result.name (g.F.Folder.seen c.args.folder.now) c.in-Err.fault)

pub returns-in-Err-clause-ends : goal.returns-in-Err-clause-ends
returns-in-Err-clause-ends g c =
    rw (c.unnamed.ensures.fault, c.of_job.ensures) (central_refused c.args.file.now (g.F.Folder.seen c.args.folder.now) (g.F.Folder.seen c.read_job.new.folder) (g.O.Sink.seen c.args.out.now) c.in-Err.fault c.in-Err.ensures.ends)
