-- The fragment header of IPv6 (RFC 8200 section 4.5).
use Rattle.std.specs.Prelude.{ℕ, ◌/◌, ◌==◌, nat_le, if◌then◌else◌, List, length, slice_index, Option, Some, None}
use Rattle.field_table.specs.declared.head.Head.{Head}
use Rattle.field_table.specs.declared.head.Next.{Next}
use Rattle.field_table.specs.declared.head.Next.TheVariants.{End}
use Rattle.field_table.specs.NextKinds.{kind_by_next_header}
use Rattle.packet_headers.specs.Bytes.{word}

abbrev pub next_header : List ℕ → ℕ
next_header bytes = slice_index bytes 0

-- where in its packet this fragment belongs, in units of eight bytes: the first 13 bits of the word
abbrev pub fragment_offset : List ℕ → ℕ
fragment_offset bytes = word bytes 2 / 8

-- what stands after: nothing that is known in a later fragment
abbrev pub next_of : List ℕ → Next
next_of bytes = if fragment_offset bytes == 0 then kind_by_next_header (next_header bytes) else End

-- the header at the start of the bytes: eight bytes, all of them there
abbrev pub frag_header : List ℕ → Option Head
frag_header bytes =
    if nat_le 8 (length bytes)
    then Some (record { len = 8; next = next_of bytes; limit = length bytes })
    else None
