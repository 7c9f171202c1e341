use Rattle.std.proofs.Common.{◌≡◌, ◌==◌, drop}
use Rattle.std.specs.List.{list_any}
use Rattle.query_lang.specs.Groups.{values}
use Rattle.query_lang.proofs.members.stands_from.Given as goal

abbrev pub invariant-loop-i : goal.invariant-loop-i
invariant-loop-i l = list_any (λ y. y == l.value) (drop l.start (values l.variable l.members.items))
    ≡ list_any (λ y. y == l.value) (drop l.i (values l.variable l.members.items))
