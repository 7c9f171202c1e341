-- The extension headers of IPv6 that state their length (RFC 8200 sections 4.3, 4.4 and 4.6).
use Rattle.std.specs.Prelude.{ℕ, ◌+◌, ◌*◌, nat_le, if◌then◌else◌, List, length, slice_index, Option, Some, None}
use Rattle.field_table.specs.declared.head.Head.{Head}
use Rattle.field_table.specs.NextKinds.{kind_by_next_header}

abbrev pub next_header : List ℕ → ℕ
next_header bytes = slice_index bytes 0

-- how many bytes the header has: byte 1 counts units of eight bytes after the first
abbrev pub header_length : List ℕ → ℕ
header_length bytes = (slice_index bytes 1 + 1) * 8

-- the header at the start of the bytes, all of it there
abbrev pub ext_header : List ℕ → Option Head
ext_header bytes =
    if nat_le (header_length bytes) (length bytes)
    then Some (record { len = header_length bytes; next = kind_by_next_header (next_header bytes); limit = length bytes })
    else None
