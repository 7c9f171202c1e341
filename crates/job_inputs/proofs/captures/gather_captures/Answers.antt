use Rattle.std.proofs.Common.{map}
use Rattle.summary_spec.specs.Job.{declared_of}
use Rattle.job_inputs.proofs.Opened.{opened_of_now}
use Rattle.job_inputs.proofs.captures.gather_captures.Goals as goal

pub read_captures-requires-clause-opened : goal.read_captures-requires-clause-opened
read_captures-requires-clause-opened g c κs within =
    opened_of_now (g.F.Folder.seen c.args.folder.now) (g.F.Folder.seen c.open_captures.new.folder) (declared_of c.args.job.now).files
    (map g.F.Src.Source.seen c.in_ok-sources.sources.items) c.in_ok-sources.ensures.stays c.in_ok-sources.ensures.ends
