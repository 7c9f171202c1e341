-- What the parts of a field's text read as.
use Rattle.std.specs.Prelude.{ℕ, ◌+◌, ◌-◌, ◌==◌, ◌&&◌, nat_le, if◌then◌else◌, Bool, true, false, List, [], ◌∷◌, Option, Some, None, option_and_then, position, take, drop}
use Rattle.std.specs.List.{find}
use Rattle.std.specs.Str.{bytes_eq}
use Rattle.field_table.specs.declared.kind.Kind.{Kind}
use Rattle.field_table.specs.declared.kind.Kind.TheVariants.{Eth, Tag, Ipv4, Ipv6, Ext, Frag, Tcp, Udp, Icmp, Icmp6, Gre, Vxlan}
use Rattle.field_table.specs.FieldText.{kind_text}
use Rattle.field_table.specs.Table.{names_of}

infixl 10 ◌>>=◌
abbrev pub ◌>>=◌ : {A B : Type 0} → Option A → (A → Option B) → Option B
o >>= f = option_and_then f o

-- what stands before and after the first such byte
abbrev pub split_at : ℕ → List ℕ → Option (List ℕ × List ℕ)
split_at mark bytes = position (λ b. b == mark) bytes >>= λ at. Some (take at bytes, drop (at + 1) bytes)

abbrev pub kinds : List Kind
kinds = Eth ∷ Tag ∷ Ipv4 ∷ Ipv6 ∷ Ext ∷ Frag ∷ Tcp ∷ Udp ∷ Icmp ∷ Icmp6 ∷ Gre ∷ Vxlan ∷ []

-- the kind with that word
abbrev pub kind_of : List ℕ → Option Kind
kind_of word = find (λ kind. bytes_eq (kind_text kind) word) kinds

-- the field of a kind with that name
abbrev pub number_of_name : Kind → List ℕ → Option ℕ
number_of_name kind name = position (λ n. bytes_eq n name) (names_of kind)

abbrev pub is_digit : ℕ → Bool
is_digit b = nat_le 48 b && nat_le b 57

-- a number below 20 in decimal, without leading zeros
abbrev pub small_number : List ℕ → Option ℕ
small_number [] = None
small_number (d ∷ []) = if is_digit d then Some (d - 48) else None
small_number (t ∷ d ∷ []) = if t == 49 && is_digit d then Some (10 + (d - 48)) else None
small_number (t ∷ d ∷ e ∷ more) = None

abbrev pub from_outside : ℕ → Option (Bool × ℕ)
from_outside n = if nat_le n 15 then Some (false, n) else None

abbrev pub from_inside : ℕ → Option (Bool × ℕ)
from_inside n = if nat_le 1 n && nat_le n 16 then Some (true, n - 1) else None

-- the direction of an index and its steps
unfoldable pub index_of : List ℕ → Option (Bool × ℕ)
index_of [] = None
index_of (b ∷ bytes) = if b == 45 then small_number bytes >>= from_inside else small_number (b ∷ bytes) >>= from_outside

-- what stands after a point
abbrev pub behind_point : List ℕ → Option (List ℕ)
behind_point [] = None
behind_point (b ∷ bytes) = if b == 46 then Some bytes else None

-- the parts of a field's text: the kind, the direction and its steps, the number of the field
unfoldable pub parts_of : List ℕ → Option (Kind × (Bool × ℕ) × ℕ)
parts_of text = do
  front ← split_at 91 text
  index ← split_at 93 front.1
  kind ← kind_of front.0
  way ← index_of index.0
  name ← behind_point index.1
  field ← number_of_name kind name
  Some (kind, way, field)
