-- How many frames wait in the queues so far, at most two in each.
use Rattle.std.proofs.Common.{◌≡◌, ◌≤◌, ◌*◌, length, take}
use Rattle.std.specs.List.{sum_by}
use Rattle.shuffle_poll.proofs.shuffle.count_waiting.Given as goal

abbrev pub invariant-queues : goal.invariant-queues
invariant-queues l = record {
  total : l.total ≡ sum_by length (take l.queue-index l.queues.items);
  few : l.total ≤ 2 * l.queue-index;
}
