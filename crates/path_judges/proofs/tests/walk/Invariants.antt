use Rattle.std.proofs.Common.{◌<◌, All}
use Rattle.path_judges.specs.Members.{capture_of}
use Rattle.path_judges.proofs.tests.walk.Given as goal

abbrev pub invariant-loop-capture : goal.invariant-loop-capture
invariant-loop-capture l = All (λ member. capture_of member < 64) l.members.items
