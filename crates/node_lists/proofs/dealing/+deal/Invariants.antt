use Rattle.std.proofs.Common.{length}
use Rattle.node_lists.proofs.dealing.+deal.Given as goal

abbrev pub decreases-deal : goal.decreases-deal
decreases-deal g l = length l.items.now.items
