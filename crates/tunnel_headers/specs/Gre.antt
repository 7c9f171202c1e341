-- The header of GRE (RFC 2784 section 2.1), with the key and the sequence number of RFC 2890
-- section 2.
use Rattle.std.specs.Prelude.{ℕ, ◌+◌, ◌-◌, ◌*◌, ◌/◌, ◌%◌, ◌^◌, ◌&&◌, ◌==◌, nat_le, if◌then◌else◌, Bool, List, [], ◌∷◌, length, slice_index, Option, Some, None}
use Rattle.field_table.specs.declared.head.Head.{Head}
use Rattle.field_table.specs.declared.head.Next.{Next}
use Rattle.field_table.specs.declared.kind.Kind.TheVariants.{Eth, Ipv4, Ipv6}
use Rattle.field_table.specs.NextKinds.{kind_beside}

-- the bit of the first byte with this number, 0 being the most significant
abbrev pub bit : ℕ → List ℕ → ℕ
bit number bytes = slice_index bytes 0 / 2 ^ (7 - number) % 2

-- Whether a receiver of version 0 that knows the checksum, the key and the sequence number takes the
-- packet: bits 1, 4 and 5 are 0, and so are bits 13 to 15, the version. Bits 6 to 12 are ignored.
abbrev pub is_taken : List ℕ → Bool
is_taken bytes = bit 1 bytes == 0 && bit 4 bytes == 0 && bit 5 bytes == 0 && slice_index bytes 1 % 8 == 0

-- four bytes, and four more for each of checksum (bit 0), key (bit 2) and sequence number (bit 3)
-- that is present
abbrev pub gre_length : List ℕ → ℕ
gre_length bytes = 4 + 4 * bit 0 bytes + 4 * bit 2 bytes + 4 * bit 3 bytes

-- the second of its 16-bit words
abbrev pub protocol_type : List ℕ → ℕ
protocol_type bytes = 256 * slice_index bytes 2 + slice_index bytes 3

-- what stands after it, by the protocol type: these are Ethernet types, and 0x6558 announces a whole
-- Ethernet frame
abbrev pub kind_by_protocol_type : ℕ → Next
kind_by_protocol_type n = kind_beside n ((0x0800, Ipv4) ∷ (0x86dd, Ipv6) ∷ (0x6558, Eth) ∷ [])

-- the header at the start of the bytes: one that is taken, with all that is present of it in the bytes
abbrev pub gre_header : List ℕ → Option Head
gre_header bytes =
    if is_taken bytes && nat_le (gre_length bytes) (length bytes)
    then Some (record { len = gre_length bytes; next = kind_by_protocol_type (protocol_type bytes); limit = length bytes })
    else None
