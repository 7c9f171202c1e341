-- The table of fields, written out once more.
use Rattle.std.specs.Prelude.{ℕ, List, [], ◌∷◌, codes, map}
use Rattle.field_table.specs.declared.forms.Form.{Form}
use Rattle.field_table.specs.declared.forms.Form.TheVariants.{Dec, Hex, Mac, Addr4, Addr6}
use Rattle.field_table.specs.declared.kind.Kind.{Kind}
use Rattle.field_table.specs.declared.kind.Kind.TheVariants.{Eth, Tag, Ipv4, Ipv6, Ext, Frag, Tcp, Udp, Icmp, Icmp6, Gre, Vxlan}
use Rattle.field_table.specs.declared.layout.Layout.{Layout}
use Rattle.field_table.specs.declared.layout.Start.{Start}
use Rattle.field_table.specs.declared.layout.Start.TheVariants.{At, Checksum, Key, Sequence}

-- a row: the name of a field, where its first bit is, how many bits it has, and how its number is printed
abbrev pub row : List ℕ → Start → ℕ → Form → List ℕ × Layout
row name start bits form = (name, record { start = start; bits = bits; form = form })

-- ICMP (RFC 792) and ICMPv6 (RFC 4443 section 2.1)
abbrev pub icmp_rows : List (List ℕ × Layout)
icmp_rows =
    row (codes "type") (At 0) 8 Dec
    ∷ row (codes "code") (At 8) 8 Dec
    ∷ row (codes "sum") (At 16) 16 Hex
    ∷ row (codes "rest") (At 32) 32 Hex
    ∷ []

-- The fields of a kind, in the order of their numbers, as the standards lay them out: IEEE 802.1Q, RFC 791,
-- RFC 8200, RFC 9293, RFC 768, RFC 2784 with RFC 2890, RFC 7348. The code has a table of its own, and is
-- held to this one.
abbrev pub rows_of : Kind → List (List ℕ × Layout)
rows_of Eth =
    row (codes "dst") (At 0) 48 Mac
    ∷ row (codes "src") (At 48) 48 Mac
    ∷ row (codes "type") (At 96) 16 Hex
    ∷ []
rows_of Tag =
    row (codes "pcp") (At 0) 3 Dec
    ∷ row (codes "dei") (At 3) 1 Dec
    ∷ row (codes "vid") (At 4) 12 Dec
    ∷ row (codes "type") (At 16) 16 Hex
    ∷ []
rows_of Ipv4 =
    row (codes "version") (At 0) 4 Dec
    ∷ row (codes "ihl") (At 4) 4 Dec
    ∷ row (codes "tos") (At 8) 8 Hex
    ∷ row (codes "len") (At 16) 16 Dec
    ∷ row (codes "id") (At 32) 16 Dec
    ∷ row (codes "flags") (At 48) 3 Dec
    ∷ row (codes "off") (At 51) 13 Dec
    ∷ row (codes "ttl") (At 64) 8 Dec
    ∷ row (codes "proto") (At 72) 8 Dec
    ∷ row (codes "sum") (At 80) 16 Hex
    ∷ row (codes "src") (At 96) 32 Addr4
    ∷ row (codes "dst") (At 128) 32 Addr4
    ∷ []
rows_of Ipv6 =
    row (codes "version") (At 0) 4 Dec
    ∷ row (codes "class") (At 4) 8 Hex
    ∷ row (codes "flow") (At 12) 20 Hex
    ∷ row (codes "len") (At 32) 16 Dec
    ∷ row (codes "next") (At 48) 8 Dec
    ∷ row (codes "hops") (At 56) 8 Dec
    ∷ row (codes "src") (At 64) 128 Addr6
    ∷ row (codes "dst") (At 192) 128 Addr6
    ∷ []
rows_of Ext =
    row (codes "next") (At 0) 8 Dec
    ∷ row (codes "hlen") (At 8) 8 Dec
    ∷ []
rows_of Frag =
    row (codes "next") (At 0) 8 Dec
    ∷ row (codes "off") (At 16) 13 Dec
    ∷ row (codes "more") (At 31) 1 Dec
    ∷ row (codes "id") (At 32) 32 Dec
    ∷ []
rows_of Tcp =
    row (codes "sport") (At 0) 16 Dec
    ∷ row (codes "dport") (At 16) 16 Dec
    ∷ row (codes "seq") (At 32) 32 Dec
    ∷ row (codes "ack") (At 64) 32 Dec
    ∷ row (codes "off") (At 96) 4 Dec
    ∷ row (codes "flags") (At 104) 8 Hex
    ∷ row (codes "window") (At 112) 16 Dec
    ∷ row (codes "sum") (At 128) 16 Hex
    ∷ row (codes "urg") (At 144) 16 Dec
    ∷ []
rows_of Udp =
    row (codes "sport") (At 0) 16 Dec
    ∷ row (codes "dport") (At 16) 16 Dec
    ∷ row (codes "len") (At 32) 16 Dec
    ∷ row (codes "sum") (At 48) 16 Hex
    ∷ []
rows_of Icmp = icmp_rows
rows_of Icmp6 = icmp_rows
rows_of Gre =
    row (codes "c") (At 0) 1 Dec
    ∷ row (codes "k") (At 2) 1 Dec
    ∷ row (codes "s") (At 3) 1 Dec
    ∷ row (codes "version") (At 13) 3 Dec
    ∷ row (codes "proto") (At 16) 16 Hex
    ∷ row (codes "sum") Checksum 16 Hex
    ∷ row (codes "key") Key 32 Dec
    ∷ row (codes "seq") Sequence 32 Dec
    ∷ []
rows_of Vxlan =
    row (codes "flags") (At 0) 8 Hex
    ∷ row (codes "vni") (At 32) 24 Dec
    ∷ []

-- the names of a kind's fields, in the order of their numbers
abbrev pub names_of : Kind → List (List ℕ)
names_of kind = map (λ row. row.0) (rows_of kind)

-- their layouts, in the same order
abbrev pub layouts_of : Kind → List Layout
layouts_of kind = map (λ row. row.1) (rows_of kind)
