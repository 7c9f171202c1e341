-- One source more is fresh too.
use Rattle.ds_base.specs.contracts.fakes.mem_source.MemSourceSource.TheImpl.{ghosts}
use Rattle.pipeline_runs.proofs.Fresh.{fresh_push}
use Rattle.pipeline_runs.proofs.tests.runs.add_source.Goals as goal

pub returns : goal.returns
returns c =
    record { fresh = fresh_push ghosts.seen c.args.sources.now.items _ c.args.source c.in-Ok.ensures.pushed c.requires.all c.requires.one }
