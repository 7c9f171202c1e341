-- The header of VXLAN (RFC 7348 section 5).
use Rattle.std.specs.Prelude.{ℕ, ◌/◌, ◌%◌, ◌&&◌, ◌==◌, nat_le, if◌then◌else◌, List, length, slice_index, Option, Some, None}
use Rattle.field_table.specs.declared.head.Head.{Head}
use Rattle.field_table.specs.declared.head.Next.TheVariants.{Header}
use Rattle.field_table.specs.declared.kind.Kind.TheVariants.{Eth}

-- the flag I, bit 4 of the first byte: the network identifier is valid
abbrev pub flag_i : List ℕ → ℕ
flag_i bytes = slice_index bytes 0 / 8 % 2

-- the header at the start of the bytes: eight bytes, all of them there, with the flag I; an Ethernet
-- frame stands after it
abbrev pub vxlan_header : List ℕ → Option Head
vxlan_header bytes =
    if flag_i bytes == 1 && nat_le 8 (length bytes)
    then Some (record { len = 8; next = Header Eth; limit = length bytes })
    else None
