-- The stack that is read from the outside inwards is a stack, and the only one.
use Rattle.std.proofs.Common.{◌≡◌, ℕ, zero, suc, ◌-◌, ◌≤◌, ◌⊎◌, inl, inr, List, [], ◌∷◌, ◌++◌, length, take, drop, Option, Some, None, arith, refl, sym, ap, ◌∙◌, subst}
use Rattle.std.specs.Option.{option_map_or, IsSomeAnd}
use Rattle.std.proofs.lemmas.List.{take-append-drop, append_assoc}
use Rattle.field_table.specs.declared.head.Head.{Head}
use Rattle.field_table.specs.declared.head.Next.{Next}
use Rattle.field_table.specs.declared.head.Next.TheVariants.{End, Header}
use Rattle.field_table.specs.declared.kind.Kind.{Kind}
use Rattle.header_stack.specs.Headers.{first_of, header_of}
use Rattle.header_stack.specs.Layer.{Layer}
use Rattle.header_stack.specs.Stack.{behind, Chain, joined, IsStack, stack_from, stack_of}

-- a layer is its kind and its bytes
pub same_layer : (a b : Layer) → a.kind ≡ b.kind → a.bytes ≡ b.bytes → a ≡ b
same_layer a b p q = λ i. record { kind = p i; bytes = q i }

-- the layer that a header makes of the bytes that it begins
abbrev layer_of : Kind → List ℕ → Head → Layer
layer_of kind bytes head = record { kind = kind; bytes = take head.len bytes }

-- the layers from a header on, where one was read
abbrev after : ℕ → ℕ → Kind → List ℕ → Option Head → List Layer
after most port kind bytes o =
    option_map_or (λ head. layer_of kind bytes head ∷ stack_from most port head.next (behind head bytes)) o []

-- what a layer and those after it are, by the header that was read
abbrev Read : ℕ → List ℕ → Layer → List Layer → Head → Type 0
Read port bytes layer layers head = (layer.bytes ≡ take head.len bytes) × Chain port head.next (behind head bytes) layers

-- where the list is not full, no layer goes on with it
abbrev Ends : ℕ → ℕ → Next → List ℕ → List Layer → Type 0
Ends most port next bytes layers = (length layers ≡ most) ⊎ ((layer : Layer) → ¬ Chain port next bytes (layers ++ layer ∷ []))

-- ---- the list is chained, short enough and ends where it must

module _ (most port : ℕ) (kind : Kind) (bytes : List ℕ) where
  after-chained : (o : Option Head) → header_of port kind bytes ≡ o → ((head : Head) → Chain port head.next (behind head bytes) (stack_from most port head.next (behind head bytes))) → Chain port (Header kind) bytes (after most port kind bytes o)
  after-chained None e behind_it = tt
  after-chained (Some head) e behind_it =
      let layers = stack_from most port head.next (behind head bytes) in
      (refl, subst (λ (o : Option Head). IsSomeAnd o (Read port bytes (layer_of kind bytes head) layers)) (sym e) (refl, behind_it head))

  after-few : (o : Option Head) → ((head : Head) → length (stack_from most port head.next (behind head bytes)) ≤ most) → length (after most port kind bytes o) ≤ suc most
  after-few None few = omega arith
  after-few (Some head) few = omega (arith, few head)

  after-ends : (o : Option Head) → header_of port kind bytes ≡ o → ((head : Head) → Ends most port head.next (behind head bytes) (stack_from most port head.next (behind head bytes))) → Ends (suc most) port (Header kind) bytes (after most port kind bytes o)
  after-ends None e ends = inr (λ layer h. subst (λ (o : Option Head). IsSomeAnd o (Read port bytes layer [])) e h.1)
  after-ends (Some head) e ends =
      let layers = stack_from most port head.next (behind head bytes) in
      elim (ends head) [
        | inl full ↦ inl (ap suc full)
        | inr last ↦ inr (λ layer h. last layer (subst (λ (o : Option Head). IsSomeAnd o (Read port bytes (layer_of kind bytes head) (layers ++ layer ∷ []))) e h.1).1)
      ]

pub stack_from-chained : (most port : ℕ) (next : Next) (bytes : List ℕ) → Chain port next bytes (stack_from most port next bytes)
unfolding stack_from
stack_from-chained zero port next bytes = tt
stack_from-chained (suc most) port End bytes = tt
stack_from-chained (suc most) port (Header kind) bytes =
    after-chained most port kind bytes (header_of port kind bytes) refl (λ head. stack_from-chained most port head.next (behind head bytes))

pub stack_from-few : (most port : ℕ) (next : Next) (bytes : List ℕ) → length (stack_from most port next bytes) ≤ most
unfolding stack_from
stack_from-few zero port next bytes = omega arith
stack_from-few (suc most) port End bytes = omega arith
stack_from-few (suc most) port (Header kind) bytes =
    after-few most port kind bytes (header_of port kind bytes) (λ head. stack_from-few most port head.next (behind head bytes))

pub stack_from-ends : (most port : ℕ) (next : Next) (bytes : List ℕ) → Ends most port next bytes (stack_from most port next bytes)
unfolding stack_from
stack_from-ends zero port next bytes = inl refl
stack_from-ends (suc most) port End bytes = inr (λ layer h. h)
stack_from-ends (suc most) port (Header kind) bytes =
    after-ends most port kind bytes (header_of port kind bytes) refl (λ head. stack_from-ends most port head.next (behind head bytes))

-- ---- layers that are chained stand at the start of the bytes

joined-read : (port : ℕ) (bytes : List ℕ) (layer : Layer) (layers : List Layer) (o : Option Head) → IsSomeAnd o (Read port bytes layer layers)
    → ((head : Head) → Chain port head.next (behind head bytes) layers → (rest : List ℕ) × (behind head bytes ≡ joined layers ++ rest))
    → (rest : List ℕ) × (bytes ≡ joined (layer ∷ layers) ++ rest)
joined-read port bytes layer layers None h inner = absurd h
joined-read port bytes layer layers (Some head) h inner =
    let behind_it = drop head.len bytes in
    let room = head.limit - head.len in
    let found = inner head h.1 in
    let split : bytes ≡ take head.len bytes ++ behind_it = sym (take-append-drop head.len bytes) in
    let limited : behind_it ≡ take room behind_it ++ drop room behind_it = sym (take-append-drop room behind_it) in
    let named : behind_it ≡ (joined layers ++ found.0) ++ drop room behind_it = limited ∙ ap (λ (front : List ℕ). front ++ drop room behind_it) found.1 in (
      found.0 ++ drop room behind_it,
      split ∙ ap (λ (front : List ℕ). front ++ behind_it) (sym h.0) ∙ ap (λ (rest : List ℕ). layer.bytes ++ rest) named
          ∙ simp append_assoc,
    )

pub joined-chained : (port : ℕ) (next : Next) (bytes : List ℕ) (layers : List Layer) → Chain port next bytes layers → (rest : List ℕ) × (bytes ≡ joined layers ++ rest)
joined-chained port next bytes [] h = (bytes, refl)
joined-chained port End bytes (layer ∷ layers) h = absurd h
joined-chained port (Header kind) bytes (layer ∷ layers) h =
    joined-read port bytes layer layers (header_of port kind bytes) h.1 (λ head chained. joined-chained port head.next (behind head bytes) layers chained)

-- ---- no other list is the stack

module _ (most port : ℕ) (kind : Kind) (bytes : List ℕ) where
  none-only : (o : Option Head) → header_of port kind bytes ≡ o → Ends (suc most) port (Header kind) bytes [] → [] ≡ after most port kind bytes o
  none-only None e ends = refl
  none-only (Some head) e ends =
      elim ends [
        | inl full ↦ absurd (omega arith)
        | inr last ↦ absurd (last (layer_of kind bytes head) (refl, subst (λ (o : Option Head). IsSomeAnd o (Read port bytes (layer_of kind bytes head) [])) (sym e) (refl, tt)))
      ]

  some-only : (layer : Layer) (layers : List Layer) (o : Option Head) → header_of port kind bytes ≡ o → layer.kind ≡ kind → IsSomeAnd o (Read port bytes layer layers)
      → Ends (suc most) port (Header kind) bytes (layer ∷ layers)
      → ((head : Head) → Chain port head.next (behind head bytes) layers → Ends most port head.next (behind head bytes) layers → layers ≡ stack_from most port head.next (behind head bytes))
      → layer ∷ layers ≡ after most port kind bytes o
  some-only layer layers None e named h ends inner = absurd h
  some-only layer layers (Some head) e named h ends inner =
      let same : layer ≡ layer_of kind bytes head = same_layer layer (layer_of kind bytes head) named h.0 in
      let ended : Ends most port head.next (behind head bytes) layers = elim ends [
        | inl full ↦ inl (omega (arith, full))
        | inr last ↦ inr (λ more chained. last more (named, subst (λ (o : Option Head). IsSomeAnd o (Read port bytes layer (layers ++ more ∷ []))) (sym e) (h.0, chained)))
      ] in
      let rest = inner head h.1 ended in
      cc

pub stack_from-only : (most port : ℕ) (next : Next) (bytes : List ℕ) (layers : List Layer) → length layers ≤ most → Chain port next bytes layers → Ends most port next bytes layers → layers ≡ stack_from most port next bytes
unfolding stack_from
stack_from-only zero port next bytes [] few h ends = refl
stack_from-only zero port next bytes (layer ∷ layers) few h ends = absurd (omega (arith, few))
stack_from-only (suc most) port End bytes [] few h ends = refl
stack_from-only (suc most) port End bytes (layer ∷ layers) few h ends = absurd h
stack_from-only (suc most) port (Header kind) bytes [] few h ends =
    none-only most port kind bytes (header_of port kind bytes) refl ends
stack_from-only (suc most) port (Header kind) bytes (layer ∷ layers) few h ends =
    some-only most port kind bytes layer layers (header_of port kind bytes) refl h.0 h.1 ends (λ head chained ended. stack_from-only most port head.next (behind head bytes) layers (omega (arith, few)) chained ended)

-- ---- the stack of a packet

pub stack_is : (link port : ℕ) (bytes : List ℕ) → IsStack link port bytes (stack_of link port bytes)
unfolding stack_of
stack_is link port bytes = record {
  few = stack_from-few 16 port (first_of link bytes) bytes;
  neighbours = joined-chained port (first_of link bytes) bytes (stack_from 16 port (first_of link bytes) bytes) (stack_from-chained 16 port (first_of link bytes) bytes);
  chained = stack_from-chained 16 port (first_of link bytes) bytes;
  maximal = stack_from-ends 16 port (first_of link bytes) bytes;
}

pub stack_is_only : (link port : ℕ) (bytes : List ℕ) (layers : List Layer) → IsStack link port bytes layers → layers ≡ stack_of link port bytes
unfolding stack_of
stack_is_only link port bytes layers h = stack_from-only 16 port (first_of link bytes) bytes layers h.few h.chained h.maximal
