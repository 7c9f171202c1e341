-- The places of neighbouring layers, and the bytes that stand there.
use Rattle.std.proofs.Common.{◌≡◌, ℕ, zero, suc, ◌+◌, ◌-◌, ◌≤◌, ◌<◌, List, [], ◌∷◌, ◌++◌, length, take, drop, Some, None, arith, refl, sym, ap, ◌∙◌, subst}
use Rattle.std.specs.List.{All, AllByRecursion}
use Rattle.std.proofs.lemmas.List.{append_assoc, take_at, drop_at, drop-drop, length-drop, length-append, length-take, length-take-le, append-nil}
use Rattle.std.proofs.lemmas.List.Elements.{All-from_recursion}
use Rattle.field_table.specs.declared.head.Head.{Head}
use Rattle.field_table.specs.declared.head.Next.{Next}
use Rattle.field_table.specs.declared.head.Next.TheVariants.{End, Header}
use Rattle.field_table.specs.declared.kind.Kind.{Kind}
use Rattle.header_stack.specs.declared.place.Place.{Place}
use Rattle.header_stack.specs.Headers.{first_of, header_of}
use Rattle.header_stack.specs.Layer.{Layer}
use Rattle.header_stack.specs.Places.{LiesIn, layer_at, layers_at, places_from}
use Rattle.header_stack.specs.Stack.{behind, joined, IsStack, stack_from, stack_of}
use Rattle.header_stack.proofs.Chains.{same_layer, stack_is}
use Rattle.header_stack.proofs.Fits.{fits}

-- what the bytes are after the first layer
rest-behind : (bytes : List ℕ) (from : ℕ) (layer : Layer) (layers : List Layer) (rest : List ℕ) → drop from bytes ≡ joined (layer ∷ layers) ++ rest
    → drop from bytes ≡ layer.bytes ++ (joined layers ++ rest)
rest-behind bytes from layer layers rest e = e ∙ append_assoc layer.bytes (joined layers) rest

next-behind : (bytes : List ℕ) (from : ℕ) (layer : Layer) (layers : List Layer) (rest : List ℕ) → drop from bytes ≡ joined (layer ∷ layers) ++ rest
    → drop (from + length layer.bytes) bytes ≡ joined layers ++ rest
next-behind bytes from layer layers rest e =
    sym (drop-drop (length layer.bytes) from bytes)
    ∙ ap (λ (bs : List ℕ). drop (length layer.bytes) bs) (rest-behind bytes from layer layers rest e)
    ∙ drop_at layer.bytes (joined layers ++ rest) (length layer.bytes) refl

-- the layers at the places of neighbouring layers are those
pub layers_at-places_from : (bytes : List ℕ) (from : ℕ) (layers : List Layer) (rest : List ℕ) → drop from bytes ≡ joined layers ++ rest
    → layers_at bytes (places_from from layers) ≡ layers
layers_at-places_from bytes from [] rest e = refl
layers_at-places_from bytes from (layer ∷ layers) rest e =
    let n = length layer.bytes in
    let width : from + n - from ≡ n = omega arith in
    let cut : take (from + n - from) (drop from bytes) ≡ layer.bytes =
    ap (λ (k : ℕ). take k (drop from bytes)) width
    ∙ ap (λ (bs : List ℕ). take n bs) (rest-behind bytes from layer layers rest e)
    ∙ take_at layer.bytes (joined layers ++ rest) n refl in
    let first : layer_at bytes (record { kind = layer.kind; from = from; to = from + n }) ≡ layer = same_layer _ _ refl cut in
    let others = layers_at-places_from bytes (from + n) layers rest (next-behind bytes from layer layers rest e) in
    cc

-- these places lie in the bytes
places_from-inside : (bytes : List ℕ) (from : ℕ) (layers : List Layer) (rest : List ℕ) → from ≤ length bytes → drop from bytes ≡ joined layers ++ rest
    → AllByRecursion (LiesIn bytes) (places_from from layers)
places_from-inside bytes from [] rest within e = tt
places_from-inside bytes from (layer ∷ layers) rest within e =
    let n = length layer.bytes in
    let long : length bytes - from ≡ n + length (joined layers ++ rest) =
    sym (length-drop from bytes) ∙ ap (λ (bs : List ℕ). length bs) (rest-behind bytes from layer layers rest e) ∙ length-append layer.bytes (joined layers ++ rest) in
    let end : from + n ≤ length bytes = omega (arith, long) in
    ((omega arith, end), places_from-inside bytes (from + n) layers rest end (next-behind bytes from layer layers rest e))

pub stack_of-layers : (link port : ℕ) (bytes : List ℕ) → layers_at bytes (places_from 0 (stack_of link port bytes)) ≡ stack_of link port bytes
stack_of-layers link port bytes =
    let found = (stack_is link port bytes).neighbours in
    layers_at-places_from bytes 0 (stack_of link port bytes) found.0 found.1

pub stack_of-inside : (link port : ℕ) (bytes : List ℕ) → All (LiesIn bytes) (places_from 0 (stack_of link port bytes))
stack_of-inside link port bytes =
    let found = (stack_is link port bytes).neighbours in
    All-from_recursion (LiesIn bytes) (places_from 0 (stack_of link port bytes)) (places_from-inside bytes 0 (stack_of link port bytes) found.0 (omega arith) found.1)

-- ---- the walk

-- What the walk knows before each header: the places so far, and those of the layers that can still be
-- read from the rest of the bytes, are the places of the whole stack.
pub record Walked (link port : ℕ) (bytes : List ℕ) (stack : List Place) (next : Next) (from : ℕ) (rest : List ℕ) : Type 0 where
  pub few : length stack ≤ 16
  pub within : from + length rest ≤ length bytes
  pub known : stack ++ places_from from (stack_from (16 - length stack) port next rest) ≡ places_from 0 (stack_of link port bytes)

pub walked_start : (link port : ℕ) (bytes : List ℕ) → Walked link port bytes [] (first_of link bytes) 0 bytes
unfolding stack_of
walked_start link port bytes = record { few = omega arith; within = omega arith; known = refl }

-- no header is named
none_named : (most port : ℕ) (rest : List ℕ) → stack_from most port End rest ≡ []
unfolding stack_from
none_named zero port rest = refl
none_named (suc most) port rest = refl

-- the header that is named is refused
none_read : (most port : ℕ) (kind : Kind) (rest : List ℕ) → header_of port kind rest ≡ None → stack_from most port (Header kind) rest ≡ []
unfolding stack_from
none_read zero port kind rest e = refl
none_read (suc most) port kind rest e = rw e refl

-- the header that is named is read
one_read : (most port : ℕ) (kind : Kind) (rest : List ℕ) (head : Head) → header_of port kind rest ≡ Some head
    → stack_from (suc most) port (Header kind) rest ≡ record { kind = kind; bytes = take head.len rest } ∷ stack_from most port head.next (behind head rest)
unfolding stack_from
one_read most port kind rest head e = rw e refl

module _ (link port : ℕ) (bytes : List ℕ) (stack : List Place) (from : ℕ) (rest : List ℕ) where
  pub walked_full : (next : Next) → Walked link port bytes stack next from rest → 16 ≤ length stack → stack ≡ places_from 0 (stack_of link port bytes)
  unfolding stack_from
  walked_full next w full =
      let none : 16 - length stack ≡ 0 = omega (arith, full) in
      let read : stack ++ places_from from (stack_from 0 port next rest) ≡ places_from 0 (stack_of link port bytes) = subst (λ (n : ℕ). stack ++ places_from from (stack_from n port next rest) ≡ places_from 0 (stack_of link port bytes)) none w.known in
      sym (append-nil stack) ∙ read

  pub walked_end : Walked link port bytes stack End from rest → stack ≡ places_from 0 (stack_of link port bytes)
  walked_end w =
      sym (append-nil stack)
      ∙ ap (λ (layers : List Layer). stack ++ places_from from layers) (sym (none_named (16 - length stack) port rest))
      ∙ w.known

  pub walked_refused : (kind : Kind) → Walked link port bytes stack (Header kind) from rest → header_of port kind rest ≡ None → stack ≡ places_from 0 (stack_of link port bytes)
  walked_refused kind w e =
      sym (append-nil stack)
      ∙ ap (λ (layers : List Layer). stack ++ places_from from layers) (sym (none_read (16 - length stack) port kind rest e))
      ∙ w.known

  pub walked_more : (kind : Kind) (head : Head) → Walked link port bytes stack (Header kind) from rest → length stack < 16 → header_of port kind rest ≡ Some head
      → Walked link port bytes (stack ++ record { kind = kind; from = from; to = from + head.len } ∷ []) head.next (from + head.len) (behind head rest)
  walked_more kind head w room e =
      let fit = fits port kind rest head e in
      let most = 16 - length stack - 1 in
      let left : 16 - length stack ≡ suc most = omega (arith, room) in
      let more : length (stack ++ record { kind = kind; from = from; to = from + head.len } ∷ []) ≡ length stack + 1 = length-append stack _ in
      let left_then : 16 - length (stack ++ record { kind = kind; from = from; to = from + head.len } ∷ []) ≡ most = omega (arith, more) in
      let read = ap (λ (n : ℕ). stack_from n port (Header kind) rest) left ∙ one_read most port kind rest head e in
      let whole : length (take head.len rest) ≡ head.len = length-take-le head.len rest (omega (arith, fit.whole, fit.within)) in
      let inner = stack_from most port head.next (behind head rest) in
      let placed : places_from from (stack_from (16 - length stack) port (Header kind) rest) ≡ record { kind = kind; from = from; to = from + head.len } ∷ places_from (from + head.len) inner =
      ap (λ (layers : List Layer). places_from from layers) read ∙ ap (λ (n : ℕ). record { kind = kind; from = from; to = from + n } ∷ places_from (from + n) inner) whole in
      record {
        few = omega (arith, more);
        within = omega (arith, fit.whole, fit.within, length-take (head.limit - head.len) (drop head.len rest), w.within);
        known =
            append_assoc stack (record { kind = kind; from = from; to = from + head.len } ∷ []) _
            ∙ ap (λ (n : ℕ). stack ++ (record { kind = kind; from = from; to = from + head.len } ∷ places_from (from + head.len) (stack_from n port head.next (behind head rest)))) left_then
            ∙ ap (λ (places : List Place). stack ++ places) (sym placed)
            ∙ w.known;
      }

-- what is known of the places of the whole stack
pub record IsPlaced (link port : ℕ) (bytes : List ℕ) (stack : List Place) : Type 0 where
  pub places : stack ≡ places_from 0 (stack_of link port bytes)
  pub layers : layers_at bytes stack ≡ stack_of link port bytes
  pub is : IsStack link port bytes (layers_at bytes stack)
  pub inside : All (LiesIn bytes) stack

pub placed : (link port : ℕ) (bytes : List ℕ) (stack : List Place) → stack ≡ places_from 0 (stack_of link port bytes) → IsPlaced link port bytes stack
placed link port bytes stack e =
    let same : layers_at bytes stack ≡ stack_of link port bytes = ap (layers_at bytes) e ∙ stack_of-layers link port bytes in
    record {
      places = e;
      layers = same;
      is = subst (λ (layers : List Layer). IsStack link port bytes layers) (sym same) (stack_is link port bytes);
      inside = subst (λ (places : List Place). All (LiesIn bytes) places) (sym e) (stack_of-inside link port bytes);
    }
