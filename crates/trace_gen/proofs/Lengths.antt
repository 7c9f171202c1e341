-- How long the packets are.
use Rattle.std.proofs.Common.{◌≡◌, ℕ, ◌%◌, ◌≤◌, ◌⊎◌, inl, inr, length, refl, arith}
use Rattle.std.proofs.lemmas.Nat.{mod_below}
use Rattle.trace_gen.specs.Numbers.{big}
use Rattle.trace_gen.specs.Packets.{packet_of, plain, under_gre, under_vxlan}
use Rattle.trace_gen.specs.declared.sighting.Sighting.{Sighting}

plain_long : (id ttl : ℕ) → length (plain id ttl) ≡ 42
unfolding big
plain_long id ttl = refl

under_gre_long : (id ttl key : ℕ) → length (under_gre id ttl key) ≡ 70
unfolding big
under_gre_long id ttl key = refl

under_vxlan_long : (id ttl vni : ℕ) → length (under_vxlan id ttl vni) ≡ 92
unfolding big
under_vxlan_long id ttl vni = refl

pub as_it_is : (s : Sighting) → s.capture % 3 ≡ 0 → length (packet_of s) ≡ 42
unfolding packet_of
as_it_is s e = rw e (plain_long s.id s.ttl)

pub gre_around : (s : Sighting) → s.capture % 3 ≡ 1 → length (packet_of s) ≡ 70
unfolding packet_of
gre_around s e = rw e (under_gre_long s.id s.ttl s.capture)

pub vxlan_around : (s : Sighting) → s.capture % 3 ≡ 2 → length (packet_of s) ≡ 92
unfolding packet_of
vxlan_around s e = rw e (under_vxlan_long s.id s.ttl s.capture)

-- what a number leaves when it is divided by three
three_ways : (n : ℕ) → (n % 3 ≡ 0) ⊎ (n % 3 ≡ 1) ⊎ (n % 3 ≡ 2)
three_ways n = grind (arith, mod_below n 3 (omega arith))

pub packet_short : (s : Sighting) → length (packet_of s) ≤ 262144
packet_short s = elim (three_ways s.capture) [
  | inl e ↦ omega (arith, as_it_is s e)
  | inr o ↦ elim o [
    | inl e ↦ omega (arith, gre_around s e)
    | inr e ↦ omega (arith, vxlan_around s e)
  ]
]
