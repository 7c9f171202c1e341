use Rattle.std.proofs.Common.{length}
use Rattle.answer_order.proofs.numbers.+is_sum_of.Given as goal

abbrev pub decreases-is_sum_of : goal.decreases-is_sum_of
decreases-is_sum_of l = length l.numbers.now
