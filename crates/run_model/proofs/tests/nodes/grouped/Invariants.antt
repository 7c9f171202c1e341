-- The grouper has the marks of three captures.
use Rattle.std.proofs.Common.{◌≡◌, length}
use Rattle.run_model.proofs.tests.nodes.grouped.Given as goal

abbrev pub invariant-loop-link : goal.invariant-loop-link
invariant-loop-link l = length l.node.marks ≡ 3

abbrev pub invariant-closed : goal.invariant-closed
invariant-closed l = length l.node.marks ≡ 3
