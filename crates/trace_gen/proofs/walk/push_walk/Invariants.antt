use Rattle.std.proofs.Common.{◌≡◌, ◌+◌, ◌*◌, ◌<◌, ◌≤◌, ◌++◌, map}
use Rattle.std.specs.List.{range_with_len}
use Rattle.trace_gen.specs.Draws.{state_after}
use Rattle.trace_gen.specs.Sightings.{sighting_at, point_at, time_at}
use Rattle.trace_gen.proofs.walk.push_walk.Given as goal

abbrev pub invariant-loop-k : goal.invariant-loop-k
invariant-loop-k l = record {
  walked : l.seen.items ≡ l.fn.seen.items ++ map (sighting_at l.id l.fn.draws.state) (range_with_len 0 l.k);
  drawn : l.draws.state ≡ state_after (2 + 2 * l.k) l.fn.draws.state;
  here : l.capture ≡ point_at l.fn.draws.state l.k;
  near : l.capture < 8;
  moment : l.time ≡ time_at l.id l.fn.draws.state l.k;
  soon : l.time ≤ 1000000 * (l.id + 1) + 10000 * l.k;
}
