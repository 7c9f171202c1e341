use Rattle.std.proofs.Common.{length}
use Rattle.node_lists.proofs.Joining.{Joining}
use Rattle.node_lists.proofs.append.append_lists.Given as goal

abbrev pub invariant-loop-last : goal.invariant-loop-last
invariant-loop-last g l = Joining l.fn.into.items l.fn.from.items l.into.items l.from.items

abbrev pub decreases-loop-last : goal.decreases-loop-last
decreases-loop-last g l = length l.from.items
