-- The header of IPv4 (RFC 791 section 3.1).
use Rattle.std.specs.Prelude.{ℕ, ◌*◌, ◌/◌, ◌%◌, ◌==◌, nat_le, nat_lt, if◌then◌else◌, ◌&&◌, ◌||◌, List, length, slice_index, Option, Some, None}
use Rattle.field_table.specs.declared.head.Head.{Head}
use Rattle.field_table.specs.declared.head.Next.{Next}
use Rattle.field_table.specs.declared.head.Next.TheVariants.{End}
use Rattle.field_table.specs.NextKinds.{kind_by_protocol}
use Rattle.packet_headers.specs.Bytes.{word}

-- the version, the first four bits of byte 0
abbrev pub version : List ℕ → ℕ
version bytes = slice_index bytes 0 / 16

-- how many 32-bit words the header has, the last four bits of byte 0
abbrev pub ihl : List ℕ → ℕ
ihl bytes = slice_index bytes 0 % 16

-- how many bytes the datagram has, this header among them; 0 says nothing
abbrev pub total_length : List ℕ → ℕ
total_length bytes = word bytes 2

-- where in its datagram this fragment belongs, in units of eight bytes: the last 13 bits of the word
abbrev pub fragment_offset : List ℕ → ℕ
fragment_offset bytes = word bytes 6 % 8192

abbrev pub protocol : List ℕ → ℕ
protocol bytes = slice_index bytes 9

-- what stands after: nothing that is known in a later fragment
abbrev pub next_of : List ℕ → Next
next_of bytes = if fragment_offset bytes == 0 then kind_by_protocol (protocol bytes) else End

-- the end of the datagram, where it states one within the limit
abbrev pub limit_of : List ℕ → ℕ
limit_of bytes =
    if nat_lt 0 (total_length bytes) && nat_lt (total_length bytes) (length bytes) then total_length bytes else length bytes

-- the header at the start of the bytes: of version 4, at least five words, all of them there and in
-- the datagram
abbrev pub ipv4_header : List ℕ → Option Head
ipv4_header bytes =
    if version bytes == 4 && nat_le 5 (ihl bytes) && nat_le (4 * ihl bytes) (length bytes)
    && (total_length bytes == 0 || nat_le (4 * ihl bytes) (total_length bytes))
    then Some (record { len = 4 * ihl bytes; next = next_of bytes; limit = limit_of bytes })
    else None
