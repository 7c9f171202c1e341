-- The fixed header of IPv6 (RFC 8200 section 3).
use Rattle.std.specs.Prelude.{ℕ, ◌+◌, ◌/◌, ◌==◌, nat_le, nat_lt, if◌then◌else◌, ◌&&◌, List, length, slice_index, Option, Some, None}
use Rattle.field_table.specs.declared.head.Head.{Head}
use Rattle.field_table.specs.NextKinds.{kind_by_next_header}
use Rattle.packet_headers.specs.Bytes.{word}

-- the version, the first four bits of byte 0
abbrev pub version : List ℕ → ℕ
version bytes = slice_index bytes 0 / 16

-- how many bytes of the packet stand after this header; 0 says nothing
abbrev pub payload_length : List ℕ → ℕ
payload_length bytes = word bytes 4

abbrev pub next_header : List ℕ → ℕ
next_header bytes = slice_index bytes 6

-- the end of the packet, where it states one within the limit
abbrev pub limit_of : List ℕ → ℕ
limit_of bytes =
    if nat_lt 0 (payload_length bytes) && nat_lt (40 + payload_length bytes) (length bytes) then 40 + payload_length bytes else length bytes

-- the header at the start of the bytes: of version 6, 40 bytes, all of them there
abbrev pub ipv6_header : List ℕ → Option Head
ipv6_header bytes =
    if version bytes == 6 && nat_le 40 (length bytes)
    then Some (record { len = 40; next = kind_by_next_header (next_header bytes); limit = limit_of bytes })
    else None
