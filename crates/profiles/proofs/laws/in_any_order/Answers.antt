use Rattle.profiles.proofs.Orders.{in_any_order}
use Rattle.profiles.proofs.laws.in_any_order.Goals as goal

pub returns : goal.returns
returns c = in_any_order
