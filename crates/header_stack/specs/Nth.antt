-- The n-th header of a kind, counted from the outside or from the inside.
use Rattle.std.specs.Prelude.{Bool, true, false, if◌then◌else◌, List, reverse, filter, slice_get, Option}
use Rattle.field_table.specs.declared.kind.Kind.{Kind}
use Rattle.field_table.specs.declared.kind.Kind.TheVariants.{Eth, Tag, Ipv4, Ipv6, Ext, Frag, Tcp, Udp, Icmp, Icmp6, Gre, Vxlan}
use Rattle.field_table.specs.declared.field_ref.FieldRef.{FieldRef}

-- whether two kinds are the same
unfoldable pub is_kind : Kind → Kind → Bool
is_kind Eth Eth = true
is_kind Tag Tag = true
is_kind Ipv4 Ipv4 = true
is_kind Ipv6 Ipv6 = true
is_kind Ext Ext = true
is_kind Frag Frag = true
is_kind Tcp Tcp = true
is_kind Udp Udp = true
is_kind Icmp Icmp = true
is_kind Icmp6 Icmp6 = true
is_kind Gre Gre = true
is_kind Vxlan Vxlan = true
is_kind _ _ = false

-- those of this kind, in their order
abbrev pub of_kind : {X : Type 0} → (X → Kind) → Kind → List X → List X
of_kind kind_of kind xs = filter (λ x. is_kind (kind_of x) kind) xs

-- the one that a field is looked for in: so many steps after the first of its kind, counted from the
-- outside or from the inside
abbrev pub nth_of : {X : Type 0} → (X → Kind) → FieldRef → List X → Option X
nth_of kind_of f xs = slice_get (of_kind kind_of f.kind (if f.inside then reverse xs else xs)) f.steps
