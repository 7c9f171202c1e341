use Rattle.path_judges.proofs.Rise.{Scanned}
use Rattle.path_judges.proofs.hop_loop.first_loop.Given as goal

abbrev pub invariant-loop-j : goal.invariant-loop-j
invariant-loop-j l = Scanned l.hop l.members.items l.j l.greatest
