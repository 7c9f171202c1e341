-- Marks are no end.
use Rattle.std.proofs.Common.{◌≡◌, false}
use Rattle.shuffle_poll.proofs.tests.links.a_thousand_marks_go_over_three_credits.Given as goal

abbrev pub invariant-rounds : goal.invariant-rounds
invariant-rounds g l = l.tx.finished ≡ false
