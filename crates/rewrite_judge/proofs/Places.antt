use Rattle.std.proofs.Common.{◌≡◌, ℕ, zero, suc, ◌+◌, ◌<◌, Bool, true, false, List, [], ◌∷◌, Option, Some, None, drop, refl, sym, ap, ◌∙◌, arith, slice_get, cond}
use Rattle.std.specs.List.{find, position_from}
use Rattle.std.proofs.lemmas.Option.{none-some, same_Some}
use Rattle.ds_base.proofs.Places.{drop_at}

-- a search from a place on: an item that fails the test is passed over, one that passes it is found
pub find-pass : {X : Type 0} (p : X → Bool) (xs : List X) (i : ℕ) (x : X) (found : Option X) → slice_get xs i ≡ Some x → p x ≡ false → find p (drop i xs) ≡ found → find p (drop (i + 1) xs) ≡ found
find-pass p xs i x found at fails h =
    ap (λ b. cond b (Some x) (find p (drop (i + 1) xs))) (sym fails) ∙ ap (find p) (sym (drop_at xs i x at)) ∙ h

pub find-take : {X : Type 0} (p : X → Bool) (xs : List X) (i : ℕ) (x : X) (found : Option X) → slice_get xs i ≡ Some x → p x ≡ true → find p (drop i xs) ≡ found → Some x ≡ found
find-take p xs i x found at passes h =
    ap (λ b. cond b (Some x) (find p (drop (i + 1) xs))) (sym passes) ∙ ap (find p) (sym (drop_at xs i x at)) ∙ h

pub position-pass : {X : Type 0} (p : X → Bool) (xs : List X) (i : ℕ) (x : X) (found : Option ℕ) → slice_get xs i ≡ Some x → p x ≡ false → position_from p i (drop i xs) ≡ found → position_from p (i + 1) (drop (i + 1) xs) ≡ found
position-pass p xs i x found at fails h =
    ap (λ b. cond b (Some i) (position_from p (i + 1) (drop (i + 1) xs))) (sym fails) ∙ ap (position_from p i) (sym (drop_at xs i x at)) ∙ h

pub position-take : {X : Type 0} (p : X → Bool) (xs : List X) (i : ℕ) (x : X) (found : Option ℕ) → slice_get xs i ≡ Some x → p x ≡ true → position_from p i (drop i xs) ≡ found → Some i ≡ found
position-take p xs i x found at passes h =
    ap (λ b. cond b (Some i) (position_from p (i + 1) (drop (i + 1) xs))) (sym passes) ∙ ap (position_from p i) (sym (drop_at xs i x at)) ∙ h

-- the first item that passes the test, and its place
pub record PlacedAt {X : Type 0} (p : X → Bool) (xs : List X) (place : ℕ) : Type 0 where
  pub item : X
  pub at_place : slice_get xs place ≡ Some item
  pub passes : p item ≡ true
  pub none_before : (k : ℕ) (y : X) → k < place → slice_get xs k ≡ Some y → p y ≡ false

fails_below : {X : Type 0} (p : X → Bool) (x : X) (xs : List X) (place : ℕ) → p x ≡ false → (r : PlacedAt p xs place) → (k : ℕ) (y : X) → k < suc place → slice_get (x ∷ xs) k ≡ Some y → p y ≡ false
fails_below p x xs place e r zero y lt at = ap p (sym (same_Some x y at)) ∙ e
fails_below p x xs place e r (suc k) y lt at = r.none_before k y (omega arith) at

position-cons : {X : Type 0} (p : X → Bool) (i : ℕ) (x : X) (xs : List X) (r : ℕ) (b : Bool) → p x ≡ b → cond b (Some i) (position_from p (i + 1) xs) ≡ Some r
    → (position_from p (i + 1) xs ≡ Some r → (place : ℕ) × (r ≡ i + 1 + place) × PlacedAt p xs place)
    → (place : ℕ) × (r ≡ i + place) × PlacedAt p (x ∷ xs) place
position-cons p i x xs r true e h later =
    (0, (let same : i ≡ r = same_Some i r h in omega arith), record { item = x; at_place = refl; passes = e; none_before = λ k y lt at. absurd (omega arith) })
position-cons p i x xs r false e h later =
    let l = later h in
    (suc l.0, omega (arith, l.1), record { item = l.2.item; at_place = l.2.at_place; passes = l.2.passes; none_before = fails_below p x xs l.0 e l.2 })

pub position-found : {X : Type 0} (p : X → Bool) (i : ℕ) (xs : List X) (r : ℕ) → position_from p i xs ≡ Some r → (place : ℕ) × (r ≡ i + place) × PlacedAt p xs place
position-found p i [] r h = absurd (none-some r h)
position-found p i (x ∷ xs) r h = position-cons p i x xs r (p x) refl h (position-found p (i + 1) xs r)

position-cons_none : (b : Bool) (i : ℕ) (rest : Option ℕ) → cond b (Some i) rest ≡ None → (b ≡ false) × (rest ≡ None)
position-cons_none true i rest h = absurd (none-some i (sym h))
position-cons_none false i rest h = (refl, h)

pub position-none : {X : Type 0} (p : X → Bool) (i : ℕ) (xs : List X) (k : ℕ) (y : X) → position_from p i xs ≡ None → slice_get xs k ≡ Some y → p y ≡ false
position-none p i [] k y none e = absurd (none-some y e)
position-none p i (x ∷ xs) zero y none e = ap p (sym (same_Some x y e)) ∙ (position-cons_none (p x) i (position_from p (i + 1) xs) none).0
position-none p i (x ∷ xs) (suc k) y none e = position-none p (i + 1) xs k y (position-cons_none (p x) i (position_from p (i + 1) xs) none).1 e
