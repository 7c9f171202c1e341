-- There are 17 links, and none has its end.
use Rattle.std.proofs.Common.{◌≡◌, ◌<◌, ℕ, false, length}
use Rattle.credit_link.specs.Ends.{TxSeen}
use Rattle.credit_link.specs.Frames.{has_finish}
use Rattle.shuffle_poll.specs.Lanes.{put_on}
use Rattle.shuffle_poll.specs.Shuffles.{lane_of}
use Rattle.shuffle_poll.proofs.tests.turns.links_of_one_credit_carry_all_frames_in_order.Given as goal

abbrev pub invariant-turns : goal.invariant-turns
invariant-turns g l = record {
  long : length l.shuffle.links ≡ 17;
  ends : length l.ends.items ≡ 17;
  unfinished : (k : ℕ) (d : TxSeen) → k < length l.shuffle.links → has_finish (put_on (lane_of l.shuffle k d)) ≡ false;
}
