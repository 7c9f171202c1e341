-- The headers that the packets of a sample have. Checksums are 0.
use Rattle.std.specs.Prelude.{ℕ, List, [], ◌∷◌, ◌++◌}
use Rattle.trace_gen.specs.declared.headers.Ipv4Header.{Ipv4Header}
use Rattle.trace_gen.specs.Numbers.{big}

-- the address of a station, 02:00:00:00:00:n, which is locally administered
abbrev pub station : (n : ℕ) → List ℕ
station n = 2 ∷ 0 ∷ 0 ∷ 0 ∷ 0 ∷ n ∷ []

-- Ethernet: the stations that a frame goes to and comes from, and that it holds IPv4 (RFC 894)
abbrev pub ethernet : (to from : ℕ) → List ℕ
ethernet to from = station to ++ station from ++ big 2 0x0800

-- IPv4 without options, fragments and flags (RFC 791 section 3.1)
abbrev pub ipv4 : Ipv4Header → List ℕ
ipv4 h =
    0x45 ∷ 0 ∷ big 2 h.len ++ big 2 h.id ++ big 2 0
    ++ h.ttl ∷ h.protocol ∷ big 2 0
    ++ big 4 h.from ++ big 4 h.to

-- UDP (RFC 768)
abbrev pub udp : (from to len : ℕ) → List ℕ
udp from to len = big 2 from ++ big 2 to ++ big 2 len ++ big 2 0

-- GRE with a key, over IPv4 (RFC 2784 section 2.1, RFC 2890 section 2)
abbrev pub gre : (key : ℕ) → List ℕ
gre key = big 2 0x2000 ++ big 2 0x0800 ++ big 4 key

-- VXLAN (RFC 7348 section 5): its flags, of which the one says that the VNI is there, the VNI, and a reserved byte
abbrev pub vxlan : (vni : ℕ) → List ℕ
vxlan vni = 8 ∷ 0 ∷ 0 ∷ 0 ∷ big 3 vni ++ 0 ∷ []
