-- So many queues so far, in each of which nothing waits.
use Rattle.std.proofs.Common.{◌≡◌, [], replicate, vec_len, vec_capacity}
use Rattle.shuffle_poll.proofs.shuffle.empty_queues.Given as goal

abbrev pub invariant-loop : goal.invariant-loop
invariant-loop l = record {
  items : l.queues.items ≡ replicate l.counter [];
  len : vec_len l.queues ≡ l.counter;
  cap : vec_capacity l.queues ≡ l.count;
}
