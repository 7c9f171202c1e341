-- The header of ICMPv6 (RFC 4443 section 2.1, with the first four bytes of the message's body).
use Rattle.std.specs.Prelude.{ℕ, nat_le, if◌then◌else◌, List, length, Option, Some, None}
use Rattle.field_table.specs.declared.head.Head.{Head}
use Rattle.field_table.specs.declared.head.Next.TheVariants.{End}

-- the header at the start of the bytes: type, code, checksum and four more bytes, all of them there;
-- no header is known after it
abbrev pub icmp6_header : List ℕ → Option Head
icmp6_header bytes =
    if nat_le 8 (length bytes)
    then Some (record { len = 8; next = End; limit = length bytes })
    else None
