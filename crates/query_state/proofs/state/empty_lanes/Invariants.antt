-- So many links so far, on each of which no group came yet.
use Rattle.std.proofs.Common.{◌≡◌, replicate, vec_len, vec_capacity}
use Rattle.query_state.specs.Takings.{new_taking}
use Rattle.query_state.proofs.state.empty_lanes.Given as goal

abbrev pub invariant-loop : goal.invariant-loop
invariant-loop l = record {
  items : l.lanes.items ≡ replicate l.counter new_taking;
  len : vec_len l.lanes ≡ l.counter;
  cap : vec_capacity l.lanes ≡ l.links;
}
