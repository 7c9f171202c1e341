-- The number of a field in the bytes of its header.
use Rattle.std.specs.Prelude.{ℕ, ◌+◌, ◌*◌, ◌==◌, nat_le, if◌then◌else◌, List, length, Option, Some, None, slice_get, option_and_then, option_map}
use Rattle.field_table.specs.declared.forms.Form.{Form}
use Rattle.field_table.specs.declared.kind.Kind.{Kind}
use Rattle.field_table.specs.declared.layout.Layout.{Layout}
use Rattle.field_table.specs.declared.layout.Start.{Start}
use Rattle.field_table.specs.declared.layout.Start.TheVariants.{At, Checksum, Key, Sequence}
use Rattle.field_table.specs.Bits.{number_of_bits}
use Rattle.field_table.specs.Table.{layouts_of}

-- The first bit of a field in these bytes of a header. In GRE the checksum, the key and the sequence
-- number stand in this order after the first 32 bits, each in 32 bits of its own and only where its
-- bit is set: C is bit 0, K bit 2 and S bit 3 (RFC 2784 section 2.1, RFC 2890 section 2).
unfoldable pub first_bit : Start → List ℕ → Option ℕ
first_bit (At first) bytes = Some first
first_bit Checksum bytes = if number_of_bits bytes 0 1 == 1 then Some 32 else None
first_bit Key bytes = if number_of_bits bytes 2 1 == 1 then Some (32 + 32 * number_of_bits bytes 0 1) else None
first_bit Sequence bytes =
    if number_of_bits bytes 3 1 == 1 then Some (32 + 32 * number_of_bits bytes 0 1 + 32 * number_of_bits bytes 2 1) else None

-- the number of the bits that a layout states, where they all lie in the bytes
unfoldable pub number_at : Layout → List ℕ → Option ℕ
number_at layout bytes =
    option_and_then (λ first. if nat_le (first + layout.bits) (8 * length bytes) then Some (number_of_bits bytes first layout.bits) else None) (first_bit layout.start bytes)

-- the number of a field of a kind in the bytes of such a header
unfoldable pub value_of : Kind → ℕ → List ℕ → Option ℕ
value_of kind field bytes = option_and_then (λ layout. number_at layout bytes) (slice_get (layouts_of kind) field)

-- the form of a field of a kind
abbrev pub form_of : Kind → ℕ → Option Form
form_of kind field = option_map (λ layout. layout.form) (slice_get (layouts_of kind) field)
