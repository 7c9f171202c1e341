-- The frame was put on the links so far, and the others are as they were.
use Rattle.std.proofs.Common.{◌≡◌, ◌<◌, ◌≤◌, ℕ, [], ◌∷◌, ◌++◌, length, get_or}
use Rattle.shuffle_poll.proofs.shuffle.put_to_all.Given as goal

abbrev pub invariant-queues : goal.invariant-queues
invariant-queues l = record {
  put : (k : ℕ) → k < l.i → get_or l.queues.items k [] ≡ get_or l.initial.queues.items k [] ++ l.frame ∷ [];
  others : (k : ℕ) → l.i ≤ k → get_or l.queues.items k [] ≡ get_or l.initial.queues.items k [];
  as_many : length l.queues.items ≡ length l.initial.queues.items;
}
