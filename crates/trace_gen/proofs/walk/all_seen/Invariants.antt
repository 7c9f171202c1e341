use Rattle.std.proofs.Common.{◌≡◌}
use Rattle.trace_gen.specs.Sightings.{sightings, state_of}
use Rattle.trace_gen.proofs.walk.all_seen.Given as goal

abbrev pub invariant-loop-id : goal.invariant-loop-id
invariant-loop-id l = record {
  seen_so_far : l.seen.items ≡ sightings l.number l.id;
  drawn : l.draws.state ≡ state_of l.number l.id;
}
