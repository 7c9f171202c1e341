-- The links so far have two frames that wait, the others one, and none its end.
use Rattle.std.proofs.Common.{◌≡◌, ◌<◌, ◌≤◌, ℕ, [], false, length, get_or}
use Rattle.credit_link.specs.Ends.{TxSeen}
use Rattle.credit_link.specs.Frames.{has_finish}
use Rattle.shuffle_poll.specs.Lanes.{put_on}
use Rattle.shuffle_poll.specs.Shuffles.{lane_of}
use Rattle.shuffle_poll.proofs.tests.turns.put_row.Given as goal

abbrev pub invariant-links : goal.invariant-links
invariant-links l = record {
  long : length l.shuffle.links ≡ 17;
  room : (k : ℕ) → l.link ≤ k → k < 17 → length (get_or l.shuffle.queues k []) < 2;
  unfinished : (k : ℕ) (d : TxSeen) → k < length l.shuffle.links → has_finish (put_on (lane_of l.shuffle k d)) ≡ false;
}
