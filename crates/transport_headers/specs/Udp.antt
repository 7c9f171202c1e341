-- The header of UDP (RFC 768).
use Rattle.std.specs.Prelude.{ℕ, ◌+◌, ◌*◌, ◌==◌, nat_le, if◌then◌else◌, List, length, slice_index, Option, Some, None}
use Rattle.field_table.specs.declared.head.Head.{Head}
use Rattle.field_table.specs.declared.head.Next.TheVariants.{End, Header}
use Rattle.field_table.specs.declared.kind.Kind.TheVariants.{Vxlan}

-- the second of its 16-bit words
abbrev pub destination_port : List ℕ → ℕ
destination_port bytes = 256 * slice_index bytes 2 + slice_index bytes 3

-- The header at the start of the bytes: eight bytes, all of them there. VXLAN stands after it where
-- it goes to the port that is declared for VXLAN. Its word for a length sets no limit.
abbrev pub udp_header : ℕ → List ℕ → Option Head
udp_header port bytes =
    if nat_le 8 (length bytes)
    then Some (record { len = 8; next = if destination_port bytes == port then Header Vxlan else End; limit = length bytes })
    else None
