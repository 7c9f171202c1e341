-- The text of a field.
use Rattle.std.specs.Prelude.{ℕ, ◌+◌, Bool, true, false, List, [], ◌++◌, codes, slice_get, unwrap_or}
use Rattle.std.specs.Fmt.{decimal}
use Rattle.field_table.specs.declared.kind.Kind.{Kind}
use Rattle.field_table.specs.declared.kind.Kind.TheVariants.{Eth, Tag, Ipv4, Ipv6, Ext, Frag, Tcp, Udp, Icmp, Icmp6, Gre, Vxlan}
use Rattle.field_table.specs.declared.field_ref.FieldRef.{FieldRef}
use Rattle.field_table.specs.Table.{names_of}

-- the word of a kind
abbrev pub kind_text : Kind → List ℕ
kind_text Eth = codes "eth"
kind_text Tag = codes "tag"
kind_text Ipv4 = codes "ipv4"
kind_text Ipv6 = codes "ipv6"
kind_text Ext = codes "ext"
kind_text Frag = codes "frag"
kind_text Tcp = codes "tcp"
kind_text Udp = codes "udp"
kind_text Icmp = codes "icmp"
kind_text Icmp6 = codes "icmp6"
kind_text Gre = codes "gre"
kind_text Vxlan = codes "vxlan"

-- the index of a header that so many steps are passed to reach: 0 is the outermost, -1 the innermost
abbrev pub index_text : Bool → ℕ → List ℕ
index_text false steps = decimal steps
index_text true steps = codes "-" ++ decimal (steps + 1)

-- the name of a field by its number
abbrev pub name_of : Kind → ℕ → List ℕ
name_of kind field = unwrap_or (slice_get (names_of kind) field) []

-- the text of a field: kind[index].name
abbrev pub text_of : Kind → Bool → ℕ → ℕ → List ℕ
text_of kind inside steps field =
    kind_text kind ++ (codes "[" ++ (index_text inside steps ++ (codes "]." ++ name_of kind field)))

unfoldable pub field_text : FieldRef → List ℕ
field_text f = text_of f.kind f.inside f.steps f.field
