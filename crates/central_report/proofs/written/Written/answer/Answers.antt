use Rattle.std.proofs.Common.{refl}
use Rattle.ds_base.specs.Copies.{copies_of}
use Rattle.summary_spec.specs.Job.{declared_of}
use Rattle.central_report.proofs.Lines.{answered_more}
use Rattle.central_report.proofs.written.Written.answer.Goals as goal

pub returns : goal.returns
returns c = λ given h.
    answered_more c.args.job.now.names.captures.items (declared_of c.args.job.now) c.args.self.now _ given (copies_of c.args.group.now)
    c.in_ok-push_group.ensures c.in_ok-count_delays.ensures refl h
