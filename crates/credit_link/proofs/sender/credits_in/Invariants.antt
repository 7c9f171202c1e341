-- Each byte so far was a credit, and there were no more than may come.
use Rattle.std.proofs.Common.{◌≡◌, ◌≤◌, take, replicate}
use Rattle.credit_link.proofs.sender.credits_in.Given as goal

abbrev pub invariant-loop-coin : goal.invariant-loop-coin
invariant-loop-coin l = record {
  counted : l.count ≡ l.coin-index;
  few : l.count ≤ l.held;
  ones : take l.count l.coins ≡ replicate l.count 1;
}
