-- So many links so far.
use Rattle.std.proofs.Common.{◌≡◌, [], replicate}
use Rattle.run_model.proofs.tests.nodes.empty_lanes.Given as goal

abbrev pub invariant-loop : goal.invariant-loop
invariant-loop l = l.lanes.items ≡ replicate l.counter []
