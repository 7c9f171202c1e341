-- A header that is read lies within the limit, and so does the limit that it leaves.
use Rattle.std.proofs.Common.{◌≡◌, ℕ, ◌≤◌, List, length, Some, rules, subst}
use Rattle.std.specs.Option.{IfSome}
use Rattle.field_table.specs.declared.head.Head.{Head}
use Rattle.field_table.specs.declared.kind.Kind.{Kind}
use Rattle.field_table.specs.declared.kind.Kind.TheVariants.{Eth, Tag, Ipv4, Ipv6, Ext, Frag, Tcp, Udp, Icmp, Icmp6, Gre, Vxlan}
use Rattle.header_stack.specs.Headers.{header_of}

-- the header lies in the limit that it leaves, and this in the bytes
pub record FitsIn (bytes : List ℕ) (head : Head) : Type 0 where
  pub whole : head.len ≤ head.limit
  pub within : head.limit ≤ length bytes

abbrev Fits : ℕ → Kind → List ℕ → Type 0
Fits port kind bytes = IfSome (header_of port kind bytes) (λ head. (head.len ≤ head.limit) × (head.limit ≤ length bytes))

header_fits : (port : ℕ) (kind : Kind) (bytes : List ℕ) → Fits port kind bytes
unfolding header_of
header_fits port Eth bytes = search rules
header_fits port Tag bytes = search rules
header_fits port Ipv4 bytes = search rules
header_fits port Ipv6 bytes = search rules
header_fits port Ext bytes = search rules
header_fits port Frag bytes = search rules
header_fits port Tcp bytes = search rules
header_fits port Udp bytes = search rules
header_fits port Icmp bytes = search rules
header_fits port Icmp6 bytes = search rules
header_fits port Gre bytes = search rules
header_fits port Vxlan bytes = search rules

-- the same of the header that was read
pub fits : (port : ℕ) (kind : Kind) (bytes : List ℕ) (head : Head) → header_of port kind bytes ≡ Some head → FitsIn bytes head
fits port kind bytes head e =
    let h : (head.len ≤ head.limit) × (head.limit ≤ length bytes) = subst (λ o. IfSome o (λ (head : Head). (head.len ≤ head.limit) × (head.limit ≤ length bytes))) e (header_fits port kind bytes) in
    record { whole = h.0; within = h.1 }
