-- So many captures so far, of each of which no counts came.
use Rattle.std.proofs.Common.{◌≡◌, None, replicate, vec_len, vec_capacity}
use Rattle.merge_state.proofs.state.no_counts.Given as goal

abbrev pub invariant-loop : goal.invariant-loop
invariant-loop l = record {
  items : l.counts.items ≡ replicate l.counter None;
  len : vec_len l.counts ≡ l.counter;
  cap : vec_capacity l.counts ≡ l.captures;
}
