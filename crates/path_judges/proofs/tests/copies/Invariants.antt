use Rattle.std.proofs.Common.{◌<◌, length, All}
use Rattle.path_judges.specs.Members.{capture_of}
use Rattle.path_judges.proofs.tests.copies.Given as goal

abbrev pub invariant-loop-copy : goal.invariant-loop-copy
invariant-loop-copy l =
    All (λ member. capture_of member < 64) l.members.items × All (λ member. 1 < length member.vals) l.members.items
