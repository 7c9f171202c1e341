use Rattle.std.proofs.Common.{ℕ, ◌≡◌, [], length}
use Rattle.node_lists.specs.Lists.{items_at}
use Rattle.node_lists.proofs.lists.destroy_lists.Given as goal

abbrev pub invariant-loop-last : goal.invariant-loop-last
invariant-loop-last g l = (i : ℕ) → items_at l.lists.items i ≡ []

abbrev pub decreases-loop-last : goal.decreases-loop-last
decreases-loop-last g l = length l.lists.items
