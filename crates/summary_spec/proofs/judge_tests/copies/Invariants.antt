use Rattle.std.proofs.Common.{◌≡◌, ◌<◌, length, All}
use Rattle.summary_spec.proofs.judge_tests.copies.Given as goal

abbrev pub invariant-loop-copy : goal.invariant-loop-copy
invariant-loop-copy l =
    All (λ member. member.at.capture < 64) l.members.items × All (λ member. length member.vals ≡ 2) l.members.items
