use Rattle.std.proofs.Common.{◌≡◌, take, None}
use Rattle.std.specs.List.{find}
use Rattle.path_judges.specs.Loop.{is_above}
use Rattle.path_judges.proofs.hop_loop.first_above.Given as goal

abbrev pub invariant-loop-i : goal.invariant-loop-i
invariant-loop-i l = find (is_above l.hop l.low) (take l.i l.members.items) ≡ None
