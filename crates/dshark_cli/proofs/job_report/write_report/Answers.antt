use Rattle.std.proofs.Common.{◌∙◌}
use Rattle.summary_spec.specs.Job.{declared_of}
use Rattle.output_text.proofs.Gaining.{gains_nothing}
use Rattle.dshark_cli.proofs.Reported.{report_prefix, report_whole, report_sound}
use Rattle.dshark_cli.proofs.job_report.write_report.Goals as goal

pub returns-in-Err-clause-prefix : goal.returns-in-Err-clause-prefix
returns-in-Err-clause-prefix g c folder out = gains_nothing _ _

pub returns-in-Ok-write_all-clause-prefix : goal.returns-in-Ok-write_all-clause-prefix
returns-in-Ok-write_all-clause-prefix g c folder out =
    report_prefix (declared_of c.args.job.now) (g.F.Folder.seen c.args.folder.now) (g.F.Folder.seen c.report_captures.new.folder) (g.O.Sink.seen c.args.out.now).written (g.O.Sink.seen c.write_all.new.out).written
    c.in-Ok.text.items c.as_bytes.result.now c.in-Ok.ensures.ends (c.as_bytes.ensures.value ∙ c.as_str.ensures) folder (c.write_all.ensures.prefix out)

pub returns-in-Ok-write_all-clause-ends : goal.returns-in-Ok-write_all-clause-ends
returns-in-Ok-write_all-clause-ends g c =
    report_whole (declared_of c.args.job.now) (g.F.Folder.seen c.args.folder.now) (g.F.Folder.seen c.report_captures.new.folder) (g.O.Sink.seen c.args.out.now) (g.O.Sink.seen c.write_all.new.out)
    c.in-Ok.text.items c.as_bytes.result.now c.in-Ok.ensures.ends (c.as_bytes.ensures.value ∙ c.as_str.ensures) c.in-Ok-write_all.ensures.faults c.in-Ok-write_all.ensures.whole

pub returns-clause-prefix : goal.returns-clause-prefix
returns-clause-prefix g c folder out =
    report_prefix (declared_of c.args.job.now) (g.F.Folder.seen c.args.folder.now) (g.F.Folder.seen c.report_captures.new.folder) (g.O.Sink.seen c.args.out.now).written (g.O.Sink.seen c.write_all.new.out).written
    c.in-Ok.text.items c.as_bytes.result.now c.in-Ok.ensures.ends (c.as_bytes.ensures.value ∙ c.as_str.ensures) folder (c.write_all.ensures.prefix out)

pub returns-clause-ends : goal.returns-clause-ends
returns-clause-ends g c =
    (c.in-Err-write_all.ensures.faults, c.in-Ok.ensures.ends.faults, λ told. report_sound (declared_of c.args.job.now) (g.F.Folder.seen c.args.folder.now) (g.F.Folder.seen c.report_captures.new.folder) c.in-Ok.text.items c.in-Ok.ensures.ends told)
