-- The packets of a sample. Each is a UDP datagram without content from 10.0.0.1 to 10.0.0.2, which is seen as it is,
-- under GRE or under VXLAN; the tunnels go from 10.1.0.1 to 10.1.0.2.
use Rattle.std.specs.Prelude.{ℕ, ◌%◌, ◌==◌, List, ◌++◌, if◌then◌else◌}
use Rattle.trace_gen.specs.declared.sighting.Sighting.{Sighting}
use Rattle.trace_gen.specs.Headers.{ethernet, ipv4, udp, gre, vxlan}

-- a datagram of this identification and TTL, from its IPv4 header on
abbrev pub datagram : (id ttl : ℕ) → List ℕ
datagram id ttl =
    ipv4 (record { len = 28; id = id; ttl = ttl; protocol = 17; from = 0x0A000001; to = 0x0A000002 }) ++ udp 1234 53 8

-- the outer IPv4 header of a tunnel: so many bytes with it, of this protocol
abbrev pub tunnel : (len protocol : ℕ) → List ℕ
tunnel len protocol =
    ipv4 (record { len = len; id = 1; ttl = 64; protocol = protocol; from = 0x0A010001; to = 0x0A010002 })

-- the datagram as it is, 42 bytes
abbrev pub plain : (id ttl : ℕ) → List ℕ
plain id ttl = ethernet 2 1 ++ datagram id ttl

-- under GRE with this key, 70 bytes
abbrev pub under_gre : (id ttl key : ℕ) → List ℕ
under_gre id ttl key = ethernet 4 3 ++ tunnel 56 47 ++ gre key ++ datagram id ttl

-- under VXLAN with this VNI, 92 bytes
abbrev pub under_vxlan : (id ttl vni : ℕ) → List ℕ
under_vxlan id ttl vni = ethernet 4 3 ++ tunnel 78 17 ++ udp 0xC000 4789 58 ++ vxlan vni ++ plain id ttl

-- the packet as it is seen: the number of the capture point says under what, and is the key or the VNI
unfoldable pub packet_of : Sighting → List ℕ
packet_of s =
    if s.capture % 3 == 0 then plain s.id s.ttl
    else if s.capture % 3 == 1 then under_gre s.id s.ttl s.capture
    else under_vxlan s.id s.ttl s.capture
