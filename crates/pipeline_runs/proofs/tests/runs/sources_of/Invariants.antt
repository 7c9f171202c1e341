-- All sources so far are fresh.
use Rattle.std.proofs.Common.{map}
use Rattle.std.specs.List.{All}
use Rattle.ds_base.specs.Outside.{IsFresh}
use Rattle.ds_base.specs.contracts.fakes.mem_source.MemSourceSource.TheImpl.{ghosts}
use Rattle.pipeline_runs.proofs.tests.runs.sources_of.Given as goal

abbrev pub invariant-files : goal.invariant-files
invariant-files l = All IsFresh (map ghosts.seen l.sources.items)
