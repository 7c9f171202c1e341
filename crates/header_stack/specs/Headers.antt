-- Which header stands at the start of some bytes, for every kind.
use Rattle.std.specs.Prelude.{ℕ, ◌/◌, ◌==◌, ◌&&◌, if◌then◌else◌, List, slice_index, Option}
use Rattle.field_table.specs.declared.head.Head.{Head}
use Rattle.field_table.specs.declared.head.Next.{Next}
use Rattle.field_table.specs.declared.head.Next.TheVariants.{End, Header}
use Rattle.field_table.specs.declared.kind.Kind.{Kind}
use Rattle.field_table.specs.declared.kind.Kind.TheVariants.{Eth, Tag, Ipv4, Ipv6, Ext, Frag, Tcp, Udp, Icmp, Icmp6, Gre, Vxlan}
use Rattle.packet_headers.specs.Eth.{eth_header}
use Rattle.packet_headers.specs.Tag.{tag_header}
use Rattle.packet_headers.specs.Ipv4.{ipv4_header}
use Rattle.packet_headers.specs.Ipv6.{ipv6_header}
use Rattle.packet_headers.specs.Ext.{ext_header}
use Rattle.packet_headers.specs.Frag.{frag_header}
use Rattle.transport_headers.specs.Tcp.{tcp_header}
use Rattle.transport_headers.specs.Udp.{udp_header}
use Rattle.transport_headers.specs.Icmp.{icmp_header}
use Rattle.transport_headers.specs.Icmp6.{icmp6_header}
use Rattle.tunnel_headers.specs.Gre.{gre_header}
use Rattle.tunnel_headers.specs.Vxlan.{vxlan_header}

-- the header of this kind at the start of the bytes, or none where it is refused there; the port is
-- the one that is declared for VXLAN
unfoldable pub header_of : ℕ → Kind → List ℕ → Option Head
header_of port Eth bytes = eth_header bytes
header_of port Tag bytes = tag_header bytes
header_of port Ipv4 bytes = ipv4_header bytes
header_of port Ipv6 bytes = ipv6_header bytes
header_of port Ext bytes = ext_header bytes
header_of port Frag bytes = frag_header bytes
header_of port Tcp bytes = tcp_header bytes
header_of port Udp bytes = udp_header port bytes
header_of port Icmp bytes = icmp_header bytes
header_of port Icmp6 bytes = icmp6_header bytes
header_of port Gre bytes = gre_header bytes
header_of port Vxlan bytes = vxlan_header bytes

-- What a packet begins with, by the link type of its capture: on Ethernet (1) that, and on raw IP
-- (101) the version that the first four bits name.
abbrev pub first_of : ℕ → List ℕ → Next
first_of link bytes =
    if link == 1 then Header Eth
    else if link == 101 && slice_index bytes 0 / 16 == 4 then Header Ipv4
    else if link == 101 && slice_index bytes 0 / 16 == 6 then Header Ipv6
    else End
