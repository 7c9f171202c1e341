use Rattle.window_grouper.proofs.Insertion.{one_order}
use Rattle.window_grouper.proofs.order.one_order.Goals as goal

pub returns : goal.returns
returns c = one_order
