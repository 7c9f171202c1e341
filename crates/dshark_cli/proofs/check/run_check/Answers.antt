use Rattle.std.proofs.Common.{◌∙◌}
use Rattle.summary_spec.specs.Job.{declared_of}
use Rattle.dshark_cli.proofs.Checking.{check_prefix, check_ends, check_refused}
use Rattle.output_text.proofs.Gaining.{gains_nothing}
use Rattle.dshark_cli.proofs.check.run_check.Goals as goal

pub returns-in-Err-clause-prefix : goal.returns-in-Err-clause-prefix
returns-in-Err-clause-prefix g c folder out = gains_nothing _ _

pub returns-in_default-clause-prefix : goal.returns-in_default-clause-prefix
returns-in_default-clause-prefix g c folder out = gains_nothing _ _

pub returns-clause-prefix : goal.returns-clause-prefix
returns-clause-prefix g c folder out =
    check_prefix (g.F.Folder.seen c.args.folder.now) c.args.file.now (declared_of c.in-Ok.job) _ _ c.as_str.result.now (c.in-Ok.ensures.ends.declares folder) (c.as_str.ensures ∙ c.in-Ok-line_of.ensures) (c.write_text.ensures.prefix out)

pub returns-clause-ends : goal.returns-clause-ends
returns-clause-ends g c =
    check_ends _ _ c.args.file.now _ _ c.in-Ok.job c.as_str.result.now c.write_text.result c.in-Ok.ensures.ends (c.as_str.ensures ∙ c.in-Ok-line_of.ensures) c.write_text.ensures.faults c.write_text.ensures.whole

pub returns-in-Err-clause-ends : goal.returns-in-Err-clause-ends
returns-in-Err-clause-ends g c =
    rw c.of_job.ensures (check_refused c.args.file.now (g.F.Folder.seen c.args.folder.now) (g.F.Folder.seen c.read_job.new.folder) (g.O.Sink.seen c.args.out.now) c.in-Err.fault c.in-Err.ensures.ends)
