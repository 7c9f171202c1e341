use Rattle.path_judges.specs.Members.{walk_of}
use Rattle.path_judges.proofs.Allowed.{Tried}
use Rattle.path_judges.proofs.path.best_path.Given as goal

abbrev pub invariant-loop-i : goal.invariant-loop-i
invariant-loop-i l = Tried l.allow.items (walk_of l.members.items) l.i l.at
