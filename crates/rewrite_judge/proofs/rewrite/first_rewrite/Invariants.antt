use Rattle.rewrite_judge.proofs.Neighbours.{Passed}
use Rattle.rewrite_judge.proofs.rewrite.first_rewrite.Given as goal

abbrev pub invariant-loop-next : goal.invariant-loop-next
invariant-loop-next l = Passed l.from l.to l.rules.items l.members.items l.next l.pair
