use Rattle.std.proofs.Common.{◌≡◌, Some, drop, fold, min}
use Rattle.query_lang.specs.Groups.{values, least}
use Rattle.query_lang.proofs.members.least.Given as goal

abbrev pub invariant-loop-i : goal.invariant-loop-i
invariant-loop-i l = least (values l.variable l.members.items) ≡ Some (fold min l.best (drop l.i (values l.variable l.members.items)))
