use Rattle.std.proofs.Common.{◌≡◌, ℕ, zero, suc, ◌+◌, ◌<◌, Bool, true, false, List, [], ◌∷◌, ◌++◌, Option, Some, None, take, refl, sym, ap, ◌∙◌, arith, slice_get, cond}
use Rattle.std.specs.List.{find}
use Rattle.std.proofs.lemmas.Option.{none-some, same_Some}
use Rattle.ds_base.proofs.Places.{take_at}

-- nothing found, and so not at the front
find-cons_none : {X : Type 0} (b : Bool) (y : X) (rest : Option X) → cond b (Some y) rest ≡ None → (b ≡ false) × (rest ≡ None)
find-cons_none true y rest h = absurd (none-some y (sym h))
find-cons_none false y rest h = (refl, h)

pub find-push : {X : Type 0} (p : X → Bool) (xs : List X) (x : X) → find p xs ≡ None → p x ≡ false → find p (xs ++ x ∷ []) ≡ None
find-push p [] x none fails = rw fails
find-push p (y ∷ ys) x none fails =
    let h = find-cons_none (p y) y (find p ys) none in
    let front : p y ≡ false = h.0 in
    rw front (find-push p ys x h.1 fails)

-- an item that fails the test is passed over
pub find-next : {X : Type 0} (p : X → Bool) (xs : List X) (i : ℕ) (x : X) → slice_get xs i ≡ Some x → find p (take i xs) ≡ None → p x ≡ false → find p (take (i + 1) xs) ≡ None
find-next p xs i x e before fails = ap (find p) (take_at xs i x e) ∙ find-push p (take i xs) x before fails

-- the first item that passes the test is the one found
pub find-here : {X : Type 0} (p : X → Bool) (xs : List X) (i end : ℕ) (x : X) → slice_get xs i ≡ Some x → find p (take i xs) ≡ None → p x ≡ true → i < end → find p (take end xs) ≡ Some x
find-here p [] i end x e before passes lt = absurd (none-some x e)
find-here p (y ∷ ys) zero zero x e before passes lt = absurd (omega arith)
find-here p (y ∷ ys) zero (suc end) x e before passes lt =
    let front : p y ≡ true = ap p (same_Some y x e) ∙ passes in
    rw front e
find-here p (y ∷ ys) (suc i) zero x e before passes lt = absurd (omega arith)
find-here p (y ∷ ys) (suc i) (suc end) x e before passes lt =
    let h = find-cons_none (p y) y (find p (take i ys)) before in
    let front : p y ≡ false = h.0 in
    rw front (find-here p ys i end x e h.1 passes (omega arith))

-- nothing found: each item fails the test
pub find-none : {X : Type 0} (p : X → Bool) (xs : List X) (k : ℕ) (y : X) → find p xs ≡ None → slice_get xs k ≡ Some y → p y ≡ false
find-none p [] k y none e = absurd (none-some y e)
find-none p (x ∷ xs) zero y none e = ap p (sym (same_Some x y e)) ∙ (find-cons_none (p x) x (find p xs) none).0
find-none p (x ∷ xs) (suc k) y none e = find-none p xs k y (find-cons_none (p x) x (find p xs) none).1 e

-- the first item that passes the test, and its place
pub record FoundAt {X : Type 0} (p : X → Bool) (xs : List X) (x : X) : Type 0 where
  pub place : ℕ
  pub at_place : slice_get xs place ≡ Some x
  pub passes : p x ≡ true
  pub none_before : (k : ℕ) (y : X) → k < place → slice_get xs k ≡ Some y → p y ≡ false

FoundAt-front : {X : Type 0} (p : X → Bool) (y : X) (ys : List X) (x : X) → p y ≡ true → y ≡ x → FoundAt p (y ∷ ys) x
FoundAt-front p y ys x e same = record {
  place = 0;
  at_place = ap (λ z. Some z) same;
  passes = ap p (sym same) ∙ e;
  none_before = λ k z lt at. absurd (omega arith);
}

fails_below : {X : Type 0} (p : X → Bool) (y : X) (ys : List X) (x : X) → p y ≡ false → (r : FoundAt p ys x) → (k : ℕ) (z : X) → k < suc r.place → slice_get (y ∷ ys) k ≡ Some z → p z ≡ false
fails_below p y ys x e r zero z lt at = ap p (sym (same_Some y z at)) ∙ e
fails_below p y ys x e r (suc k) z lt at = r.none_before k z (omega arith) at

FoundAt-later : {X : Type 0} (p : X → Bool) (y : X) (ys : List X) (x : X) → p y ≡ false → FoundAt p ys x → FoundAt p (y ∷ ys) x
FoundAt-later p y ys x e r = record {
  place = suc r.place;
  at_place = r.at_place;
  passes = r.passes;
  none_before = fails_below p y ys x e r;
}

FoundAt-cons : {X : Type 0} (p : X → Bool) (y : X) (ys : List X) (x : X) (b : Bool) → p y ≡ b → cond b (Some y) (find p ys) ≡ Some x → (find p ys ≡ Some x → FoundAt p ys x) → FoundAt p (y ∷ ys) x
FoundAt-cons p y ys x true e h later = FoundAt-front p y ys x e (same_Some y x h)
FoundAt-cons p y ys x false e h later = FoundAt-later p y ys x e (later h)

pub find-found : {X : Type 0} (p : X → Bool) (xs : List X) (x : X) → find p xs ≡ Some x → FoundAt p xs x
find-found p [] x h = absurd (none-some x h)
find-found p (y ∷ ys) x h = FoundAt-cons p y ys x (p y) refl h (find-found p ys x)
