use Rattle.std.proofs.Common.{◌≡◌, ◌+◌, ◌≤◌, drop}
use Rattle.query_lang.specs.Groups.{values, different}
use Rattle.query_lang.proofs.members.different.Given as goal

abbrev pub invariant-loop-i : goal.invariant-loop-i
invariant-loop-i l = (l.count ≤ l.i)
    × (different (values l.variable l.members.items) ≡ l.count + different (drop l.i (values l.variable l.members.items)))
