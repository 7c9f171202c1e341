-- A header of a packet, taken out of it.
use Rattle.std.specs.Prelude.{ℕ, List}
use Rattle.field_table.specs.declared.kind.Kind.{Kind}

-- its kind and its bytes
pub record Layer : Type 0 where
  pub kind : Kind
  pub bytes : List ℕ
