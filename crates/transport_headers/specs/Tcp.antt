-- The header of TCP (RFC 9293 section 3.1).
use Rattle.std.specs.Prelude.{ℕ, ◌*◌, ◌/◌, ◌&&◌, nat_le, if◌then◌else◌, List, length, slice_index, Option, Some, None}
use Rattle.field_table.specs.declared.head.Head.{Head}
use Rattle.field_table.specs.declared.head.Next.TheVariants.{End}

-- how many 32-bit words the header has: the first four bits of byte 12
abbrev pub data_offset : List ℕ → ℕ
data_offset bytes = slice_index bytes 12 / 16

-- the header at the start of the bytes: at least five words, all of them there; no header is known
-- after it
abbrev pub tcp_header : List ℕ → Option Head
tcp_header bytes =
    if nat_le 5 (data_offset bytes) && nat_le (4 * data_offset bytes) (length bytes)
    then Some (record { len = 4 * data_offset bytes; next = End; limit = length bytes })
    else None
