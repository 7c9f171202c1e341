use Rattle.std.proofs.Common.{◌≡◌, drop}
use Rattle.header_stack.specs.Places.{layers_at}
use Rattle.key_select.specs.Sum.{first_defined}
use Rattle.key_select.proofs.values.first_defined.Given as goal

abbrev pub invariant-loop-i : goal.invariant-loop-i
invariant-loop-i l = first_defined l.fields.items (layers_at l.bytes l.stack) ≡ first_defined (drop l.i l.fields.items) (layers_at l.bytes l.stack)
