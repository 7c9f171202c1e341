use Rattle.std.proofs.Common.{◌≡◌, ◌+◌, ◌≤◌, drop, count_by}
use Rattle.query_lang.specs.Groups.{is_of}
use Rattle.query_lang.proofs.members.seen.Given as goal

abbrev pub invariant-loop-i : goal.invariant-loop-i
invariant-loop-i l = (l.count ≤ l.i)
    × (count_by (is_of l.capture) l.members.items ≡ l.count + count_by (is_of l.capture) (drop l.i l.members.items))
