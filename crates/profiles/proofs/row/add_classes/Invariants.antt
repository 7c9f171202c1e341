use Rattle.std.proofs.Common.{◌≡◌, ◌++◌, take, drop}
use Rattle.profiles.specs.Rows.{added}
use Rattle.profiles.proofs.row.add_classes.Given as goal

abbrev pub invariant-loop-k : goal.invariant-loop-k
invariant-loop-k l = l.classes ≡ added (take l.k l.initial.classes) (take l.k l.more) ++ drop l.k l.initial.classes
