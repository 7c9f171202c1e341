use Rattle.std.proofs.Common.{drop}
use Rattle.path_judges.specs.Members.{walk_of}
use Rattle.path_judges.specs.Open.{IsOpen}
use Rattle.path_judges.proofs.matching.is_match.Given as goal

abbrev pub invariant-loop-i : goal.invariant-loop-i
invariant-loop-i l = IsOpen l.pattern (drop l.i (walk_of l.members.items)) l.positions
