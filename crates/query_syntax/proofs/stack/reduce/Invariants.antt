use Rattle.std.proofs.Common.{◌≡◌, length}
use Rattle.query_syntax.specs.Tree.{tree_of}
use Rattle.query_syntax.specs.Frames.{frames}
use Rattle.query_syntax.specs.Machine.{reduce}
use Rattle.query_syntax.proofs.stack.reduce.Given as goal

abbrev pub invariant-loop-left : goal.invariant-loop-left
invariant-loop-left l = reduce l.level (frames l.fn.stack.items) (tree_of l.fn.tree) ≡ reduce l.level (frames l.stack.items) (tree_of l.tree)

abbrev pub decreases-loop-left : goal.decreases-loop-left
decreases-loop-left l = length l.stack.items
