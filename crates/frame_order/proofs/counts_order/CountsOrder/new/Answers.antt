use Rattle.frame_order.proofs.Rows.{keeps_no_rows}
use Rattle.frame_order.proofs.counts_order.CountsOrder.new.Goals as goal

pub invariant_of-result : goal.invariant_of-result
invariant_of-result c = keeps_no_rows c.new.result c.new-2.result.items c.new.ensures c.new-2.ensures
