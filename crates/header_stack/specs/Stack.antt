-- The header stack of a packet.
use Rattle.std.specs.Prelude.{◌≡◌, ℕ, zero, suc, ◌-◌, ◌≤◌, ◌⊎◌, List, [], ◌∷◌, ◌++◌, map, length, take, drop, IsSomeAnd}
use Rattle.std.specs.Option.{option_map_or}
use Rattle.std.specs.List.{concat}
use Rattle.field_table.specs.declared.head.Head.{Head}
use Rattle.field_table.specs.declared.head.Next.{Next}
use Rattle.field_table.specs.declared.head.Next.TheVariants.{End, Header}
use Rattle.header_stack.specs.Headers.{first_of, header_of}
use Rattle.header_stack.specs.Layer.{Layer}

-- the bytes after a header, up to the limit that it leaves
abbrev pub behind : Head → List ℕ → List ℕ
behind head bytes = take (head.limit - head.len) (drop head.len bytes)

-- The layers stand one after the other at the start of the bytes, which end at the limit. Each is a
-- header of the kind that is named for it, by `next` or by the one before, whole within the limit that
-- those before it leave.
abbrev pub Chain : ℕ → Next → List ℕ → List Layer → Type 0
Chain port next bytes [] = Unit {0}
Chain port End bytes (layer ∷ layers) = ⊥
Chain port (Header kind) bytes (layer ∷ layers) =
    (layer.kind ≡ kind)
    × IsSomeAnd (header_of port kind bytes) (λ head. (layer.bytes ≡ take head.len bytes) × Chain port head.next (behind head bytes) layers)

-- the bytes of the layers, one after the other
abbrev pub joined : List Layer → List ℕ
joined layers = concat (map (λ layer. layer.bytes) layers)

-- The layers are the stack of the packet: at most 16 of them, at its start, each named by the one
-- before it and the first by the link, and as many as there can be.
pub record IsStack (link port : ℕ) (bytes : List ℕ) (layers : List Layer) : Type 0 where
  pub few : length layers ≤ 16
  pub neighbours : (rest : List ℕ) × (bytes ≡ joined layers ++ rest)
  pub chained : Chain port (first_of link bytes) bytes layers
  pub maximal : (length layers ≡ 16) ⊎ ((layer : Layer) → ¬ Chain port (first_of link bytes) bytes (layers ++ layer ∷ []))

-- the layers that can be read from the start of the bytes, at most so many
unfoldable pub stack_from : ℕ → ℕ → Next → List ℕ → List Layer
stack_from zero port next bytes = []
stack_from (suc most) port End bytes = []
stack_from (suc most) port (Header kind) bytes =
    option_map_or (λ head. record { kind = kind; bytes = take head.len bytes } ∷ stack_from most port head.next (behind head bytes)) (header_of port kind bytes) []

-- the stack of the packet: the one list that is it
unfoldable pub stack_of : ℕ → ℕ → List ℕ → List Layer
stack_of link port bytes = stack_from 16 port (first_of link bytes) bytes
