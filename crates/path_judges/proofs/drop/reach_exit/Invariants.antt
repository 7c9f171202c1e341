use Rattle.std.proofs.Common.{◌≡◌, take, false}
use Rattle.std.specs.List.{list_any}
use Rattle.path_judges.specs.Drop.{is_of_exit}
use Rattle.path_judges.proofs.drop.reach_exit.Given as goal

abbrev pub invariant-loop-i : goal.invariant-loop-i
invariant-loop-i l = list_any (is_of_exit l.exits) (take l.i l.members.items) ≡ false
