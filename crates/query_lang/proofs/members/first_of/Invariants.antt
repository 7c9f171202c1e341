use Rattle.std.proofs.Common.{◌≡◌, drop, find}
use Rattle.query_lang.specs.Groups.{is_of}
use Rattle.query_lang.proofs.members.first_of.Given as goal

abbrev pub invariant-loop-i : goal.invariant-loop-i
invariant-loop-i l = find (is_of l.capture) l.members.items ≡ find (is_of l.capture) (drop l.i l.members.items)
