-- A VLAN tag (IEEE 802.1Q): two bytes of control and the type of what stands after them.
use Rattle.std.specs.Prelude.{ℕ, nat_le, if◌then◌else◌, List, length, Option, Some, None}
use Rattle.field_table.specs.declared.head.Head.{Head}
use Rattle.field_table.specs.NextKinds.{kind_by_ethernet_type}
use Rattle.packet_headers.specs.Bytes.{word}

abbrev pub ethernet_type : List ℕ → ℕ
ethernet_type bytes = word bytes 2

-- the header at the start of the bytes: four bytes, all of them there
abbrev pub tag_header : List ℕ → Option Head
tag_header bytes =
    if nat_le 4 (length bytes)
    then Some (record { len = 4; next = kind_by_ethernet_type (ethernet_type bytes); limit = length bytes })
    else None
