use Rattle.path_judges.specs.Members.{walk_of}
use Rattle.path_judges.proofs.Followed.{Followed}
use Rattle.path_judges.proofs.matching.count_begun.Given as goal

abbrev pub invariant-loop-k : goal.invariant-loop-k
invariant-loop-k l = Followed l.pattern (walk_of l.members.items) l.k
