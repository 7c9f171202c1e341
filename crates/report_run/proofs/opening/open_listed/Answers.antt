use Rattle.std.proofs.Common.{map}
use Rattle.summary_spec.specs.Job.{declared_of}
use Rattle.job_inputs.proofs.Opened.{are_fresh}
use Rattle.report_run.proofs.opening.open_listed.Goals as goal

pub give_back_all-requires-clause-fresh : goal.give_back_all-requires-clause-fresh
give_back_all-requires-clause-fresh g c κs within =
    are_fresh (g.F.Folder.seen c.args.folder.now) (declared_of c.args.job.now).files (map g.F.Src.Source.seen c.in_ok-opened.opened.items) c.in_ok-opened.ensures.ends
