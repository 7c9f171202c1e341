-- Looking for the n-th header of a kind, at places and in the layers that stand there.
use Rattle.std.proofs.Common.{◌≡◌, ℕ, zero, suc, ◌-◌, ◌<◌, Bool, true, false, cond, if◌then◌else◌, List, [], ◌∷◌, ◌++◌, length, map, reverse, Option, Some, None, arith, refl, sym, ap, ◌∙◌, subst}
use Rattle.std.specs.List.{All, Contains, filter, slice_get, slice_range}
use Rattle.std.specs.Option.{IfSome, option_map}
use Rattle.std.proofs.lemmas.List.{reverse-append, map_push, get_or-reverse, length-reverse}
use Rattle.std.proofs.lemmas.Option.{slice_get-map}
use Rattle.field_table.specs.Fields.{value_of}
use Rattle.field_table.specs.declared.kind.Kind.{Kind}
use Rattle.field_table.specs.declared.field_ref.FieldRef.{FieldRef}
use Rattle.header_stack.specs.declared.place.Place.{Place}
use Rattle.header_stack.specs.Layer.{Layer}
use Rattle.header_stack.specs.Nth.{is_kind, of_kind, nth_of}
use Rattle.header_stack.specs.Places.{LiesIn, layer_at, layers_at}
use Rattle.header_stack.specs.Stack.{stack_of}
use Rattle.header_stack.specs.Value.{packet_value, value_in}

module _ {X Y : Type 0} (g : X → Y) where
  reverse-map' : (xs : List X) → reverse (map g xs) ≡ map g (reverse xs)
  reverse-map' [] = refl
  reverse-map' (x ∷ xs) =
      reverse-append (g x ∷ []) (map g xs)
      ∙ ap (λ (ys : List Y). ys ++ g x ∷ []) (reverse-map' xs)
      ∙ sym (map_push g (reverse xs) x)
      ∙ ap (λ (ys : List X). map g ys) (sym (reverse-append (x ∷ []) xs))

  cond-map : (b : Bool) (x : X) (xs : List X) (ys : List Y) → ys ≡ map g xs → cond b (g x ∷ ys) ys ≡ map g (cond b (x ∷ xs) xs)
  cond-map true x xs ys e = ap (λ (zs : List Y). g x ∷ zs) e
  cond-map false x xs ys e = e

  filter-map' : (test : Y → Bool) (xs : List X) → filter test (map g xs) ≡ map g (filter (λ x. test (g x)) xs)
  filter-map' test [] = refl
  filter-map' test (x ∷ xs) = cond-map (test (g x)) x (filter (λ x. test (g x)) xs) (filter test (map g xs)) (filter-map' test xs)

  either-map : (inside : Bool) (xs : List X) → (if inside then reverse (map g xs) else map g xs) ≡ map g (if inside then reverse xs else xs)
  either-map true xs = reverse-map' xs
  either-map false xs = refl

  nth_of-map : (kind_of : Y → Kind) (f : FieldRef) (xs : List X) → nth_of kind_of f (map g xs) ≡ option_map g (nth_of (λ x. kind_of (g x)) f xs)
  nth_of-map kind_of f xs =
      ap (λ (ys : List Y). slice_get (of_kind kind_of f.kind ys) f.steps) (either-map f.inside xs)
      ∙ ap (λ (ys : List Y). slice_get ys f.steps) (filter-map' (λ y. is_kind (kind_of y) f.kind) (if f.inside then reverse xs else xs))
      ∙ slice_get-map g (of_kind (λ x. kind_of (g x)) f.kind (if f.inside then reverse xs else xs)) f.steps

-- ---- what was found is one of those that were looked through

module _ {X : Type 0} (test : X → Bool) where
  Contains-behind : (y : X) (ys : List X) (x : X) → Contains ys x → Contains (y ∷ ys) x
  Contains-behind y ys x h = (suc h.0, omega (arith, h.1), h.2)

  Contains-cond : (b : Bool) (y : X) (ys : List X) (k : ℕ) (x : X) → slice_get (cond b (y ∷ filter test ys) (filter test ys)) k ≡ Some x → ((j : ℕ) → slice_get (filter test ys) j ≡ Some x → Contains ys x) → Contains (y ∷ ys) x
  Contains-cond false y ys k x e inner = Contains-behind y ys x (inner k e)
  Contains-cond true y ys zero x e inner = (0, omega arith, cc)
  Contains-cond true y ys (suc k) x e inner = Contains-behind y ys x (inner k e)

  Contains-filter : (ys : List X) (k : ℕ) (x : X) → slice_get (filter test ys) k ≡ Some x → Contains ys x
  Contains-filter [] k x e = absurd cc
  Contains-filter (y ∷ ys) k x e = Contains-cond (test y) y ys k x e (λ j e. Contains-filter ys j x e)

Contains-reverse : {X : Type 0} (xs : List X) (x : X) → Contains (reverse xs) x → Contains xs x
Contains-reverse xs x h =
    let k = h.0 in
    let within : k < length xs = omega (arith, length-reverse xs, h.1) in
    (length xs - 1 - k, omega arith, sym (get_or-reverse xs k x within) ∙ h.2)

Contains-either : {X : Type 0} (inside : Bool) (xs : List X) (x : X) → Contains (if inside then reverse xs else xs) x → Contains xs x
Contains-either true xs x h = Contains-reverse xs x h
Contains-either false xs x h = h

pub Contains-nth_of : {X : Type 0} (kind_of : X → Kind) (f : FieldRef) (xs : List X) (o : Option X) → o ≡ nth_of kind_of f xs → IfSome o (λ x. Contains xs x)
Contains-nth_of kind_of f xs None e = tt
Contains-nth_of kind_of f xs (Some x) e =
    Contains-either f.inside xs x (Contains-filter (λ x. is_kind (kind_of x) f.kind) (if f.inside then reverse xs else xs) f.steps x (sym e))

-- a place among places that lie in the bytes does so too
pub LiesIn-among : (bytes : List ℕ) (stack : List Place) (place : Place) → All (LiesIn bytes) stack → Contains stack place → LiesIn bytes place
LiesIn-among bytes stack place all among = subst (λ (p : Place). LiesIn bytes p) among.2 (all among.0 place among.1)

-- ---- the value of a field, by the place where its header was found

pub value_in-none : (f : FieldRef) (bytes : List ℕ) (stack : List Place) → None ≡ nth_of (λ place. place.kind) f stack → value_in f (layers_at bytes stack) ≡ None
value_in-none f bytes stack e = rw (nth_of-map (layer_at bytes) (λ layer. layer.kind) f stack, ← e) refl

pub value_in-some : (f : FieldRef) (bytes : List ℕ) (stack : List Place) (place : Place) → Some place ≡ nth_of (λ place. place.kind) f stack
    → value_in f (layers_at bytes stack) ≡ value_of f.kind f.field (slice_range bytes place.from place.to)
value_in-some f bytes stack place e = rw (nth_of-map (layer_at bytes) (λ layer. layer.kind) f stack, ← e) refl

-- what is known of the value of a field
pub record IsFieldValue (f : FieldRef) (bytes : List ℕ) (stack : List Place) (o : Option ℕ) : Type 0 where
  pub value : o ≡ value_in f (layers_at bytes stack)
  pub of_packet : (link port : ℕ) → layers_at bytes stack ≡ stack_of link port bytes → o ≡ packet_value link port bytes f

pub field_value_is : (f : FieldRef) (bytes : List ℕ) (stack : List Place) (o : Option ℕ) → o ≡ value_in f (layers_at bytes stack) → IsFieldValue f bytes stack o
field_value_is f bytes stack o e = record {
  value = e;
  of_packet = λ link port same. e ∙ ap (λ (layers : List Layer). value_in f layers) same;
}
