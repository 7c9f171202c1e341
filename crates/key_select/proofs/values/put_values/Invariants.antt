use Rattle.std.proofs.Common.{◌≡◌, ◌++◌, drop, length}
use Rattle.std.specs.Prelude.{option_map}
use Rattle.header_stack.specs.Places.{layers_at}
use Rattle.summary_spec.specs.Declaration.{items_of}
use Rattle.key_select.specs.Sum.{values_of}
use Rattle.key_select.proofs.values.put_values.Given as goal

abbrev pub invariant-loop-i : goal.invariant-loop-i
invariant-loop-i l = record {
  filled : length l.vals ≡ l.i;
  rest : values_of (items_of l.takes.items) (layers_at l.bytes l.stack)
      ≡ option_map (λ ns. l.vals ++ ns) (values_of (items_of (drop l.i l.takes.items)) (layers_at l.bytes l.stack));
}
