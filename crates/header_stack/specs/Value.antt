-- The value of a field of a packet.
use Rattle.std.specs.Prelude.{ℕ, List, Option, option_and_then}
use Rattle.field_table.specs.declared.field_ref.FieldRef.{FieldRef}
use Rattle.field_table.specs.Fields.{value_of}
use Rattle.header_stack.specs.Layer.{Layer}
use Rattle.header_stack.specs.Nth.{nth_of}
use Rattle.header_stack.specs.Stack.{stack_of}

-- the number of the field in the layer that it names, where there is one and the field lies in it
abbrev pub value_in : FieldRef → List Layer → Option ℕ
value_in f layers = option_and_then (λ layer. value_of f.kind f.field layer.bytes) (nth_of (λ layer. layer.kind) f layers)

-- the number of the field in a packet of a capture of this link type; the port is the one that is
-- declared for VXLAN
abbrev pub packet_value : ℕ → ℕ → List ℕ → FieldRef → Option ℕ
packet_value link port bytes f = value_in f (stack_of link port bytes)
