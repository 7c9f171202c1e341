use Rattle.std.proofs.Common.{◌<◌, length, All}
use Rattle.rewrite_judge.proofs.tests.copies.Given as goal

abbrev pub invariant-loop-copy : goal.invariant-loop-copy
invariant-loop-copy l = All (λ member. 1 < length member.vals) l.members.items
