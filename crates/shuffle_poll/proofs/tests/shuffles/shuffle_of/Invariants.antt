-- As many links as ends so far, on none of which anything was offered.
use Rattle.std.proofs.Common.{◌≡◌, ◌<◌, ℕ, [], length, get_or}
use Rattle.credit_link.specs.Ends.{TxSeen}
use Rattle.shuffle_poll.proofs.tests.shuffles.shuffle_of.Given as goal

abbrev pub invariant-links : goal.invariant-links
invariant-links l = record {
  links : length l.links.items ≡ l.counter;
  ends : length l.ends.items ≡ l.counter;
  none_offered : (k : ℕ) (d : TxSeen) → k < length l.links.items → (get_or l.links.items k d).offered ≡ [];
}
