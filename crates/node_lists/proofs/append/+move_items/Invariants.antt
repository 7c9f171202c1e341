use Rattle.std.proofs.Common.{length}
use Rattle.node_lists.proofs.append.+move_items.Given as goal

abbrev pub decreases-move_items : goal.decreases-move_items
decreases-move_items g l = length l.from.now.items
