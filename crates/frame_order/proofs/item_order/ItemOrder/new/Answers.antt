use Rattle.frame_order.proofs.Items.{keeps_none}
use Rattle.frame_order.proofs.item_order.ItemOrder.new.Goals as goal

pub invariant_of-result : goal.invariant_of-result
invariant_of-result c = keeps_none c.new.result c.new-2.result c.new-3.result c.new-4.result.items c.new.ensures c.new-2.ensures c.new-3.ensures c.new-4.ensures
