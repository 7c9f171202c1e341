use Rattle.std.proofs.Common.{◌≡◌, Some, drop, fold, max}
use Rattle.query_lang.specs.Groups.{values, greatest}
use Rattle.query_lang.proofs.members.greatest.Given as goal

abbrev pub invariant-loop-i : goal.invariant-loop-i
invariant-loop-i l = greatest (values l.variable l.members.items) ≡ Some (fold max l.best (drop l.i (values l.variable l.members.items)))
