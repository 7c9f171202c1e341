use Rattle.std.proofs.Common.{arith}
use Rattle.lean_order.proofs.Placed.{stamped, none_there}
use Rattle.lean_order.proofs.order.stamp_there.Goals as goal

pub returns-then-place-len : goal.returns-then-place-len
returns-then-place-len c = stamped c.args.list.now.items c.args.place c.stamp_at.result (omega arith) c.stamp_at.ensures

pub returns-else-place-len : goal.returns-else-place-len
returns-else-place-len c = none_there c.args.list.now.items c.args.place (omega arith)
