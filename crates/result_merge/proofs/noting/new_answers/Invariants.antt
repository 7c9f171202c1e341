-- For so many links so far, nothing came.
use Rattle.std.proofs.Common.{◌≡◌, [], replicate, vec_len, vec_capacity}
use Rattle.result_merge.proofs.noting.new_answers.Given as goal

abbrev pub invariant-loop : goal.invariant-loop
invariant-loop l = record {
  items : l.orders.items ≡ replicate l.counter [];
  len : vec_len l.orders ≡ l.counter;
  cap : vec_capacity l.orders ≡ l.processors;
}
