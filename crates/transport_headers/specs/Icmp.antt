-- The header of ICMP (RFC 792): what all its messages begin with.
use Rattle.std.specs.Prelude.{ℕ, nat_le, if◌then◌else◌, List, length, Option, Some, None}
use Rattle.field_table.specs.declared.head.Head.{Head}
use Rattle.field_table.specs.declared.head.Next.TheVariants.{End}

-- the header at the start of the bytes: type, code, checksum and four more bytes, all of them there;
-- no header is known after it
abbrev pub icmp_header : List ℕ → Option Head
icmp_header bytes =
    if nat_le 8 (length bytes)
    then Some (record { len = 8; next = End; limit = length bytes })
    else None
