-- Which kind of header a number announces. Every other number announces none.
use Rattle.std.specs.Prelude.{ℕ, ◌==◌, if◌then◌else◌, List, [], ◌∷◌}
use Rattle.field_table.specs.declared.head.Next.{Next}
use Rattle.field_table.specs.declared.head.Next.TheVariants.{End, Header}
use Rattle.field_table.specs.declared.kind.Kind.{Kind}
use Rattle.field_table.specs.declared.kind.Kind.TheVariants.{Tag, Ipv4, Ipv6, Ext, Frag, Tcp, Udp, Icmp, Icmp6, Gre}

-- the kind beside a number in a table
abbrev pub kind_beside : ℕ → List (ℕ × Kind) → Next
kind_beside n [] = End
kind_beside n (row ∷ rows) = if n == row.0 then Header row.1 else kind_beside n rows

-- by the type of an Ethernet header or a tag
abbrev pub kind_by_ethernet_type : ℕ → Next
kind_by_ethernet_type n = kind_beside n ((0x0800, Ipv4) ∷ (0x86dd, Ipv6) ∷ (0x8100, Tag) ∷ (0x88a8, Tag) ∷ [])

-- by the protocol of IPv4
abbrev pub kind_by_protocol : ℕ → Next
kind_by_protocol n = kind_beside n ((1, Icmp) ∷ (4, Ipv4) ∷ (6, Tcp) ∷ (17, Udp) ∷ (41, Ipv6) ∷ (47, Gre) ∷ [])

-- by the next header of IPv6 and of its extension headers
abbrev pub kind_by_next_header : ℕ → Next
kind_by_next_header n =
    kind_beside n
    ((0, Ext) ∷ (43, Ext) ∷ (60, Ext) ∷ (44, Frag) ∷ (4, Ipv4) ∷ (6, Tcp) ∷ (17, Udp) ∷ (41, Ipv6) ∷ (47, Gre) ∷ (58, Icmp6) ∷ [])
