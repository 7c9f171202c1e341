-- An item of a list, by its place.
use Rattle.std.proofs.Common.{◌≡◌, ◌<◌, ◌+◌, ℕ, zero, suc, List, [], ◌∷◌, ◌++◌, All, length, take, drop, map, Some, refl, sym, ap, subst, arith, add-one, append_assoc, slice_get, ◌∙◌}
use Rattle.std.specs.List.{flat_map}
use Rattle.std.proofs.lemmas.Option.{slice_get_within, get_or_from_slice_get}
use Rattle.std.proofs.Math.Seq.{take-suc, drop-cons}

-- the item at i begins what stands from i on
pub drop_at : {X : Type 0} (xs : List X) (i : ℕ) (x : X) → slice_get xs i ≡ Some x → drop i xs ≡ x ∷ drop (i + 1) xs
drop_at xs i x e =
    drop-cons xs i x (slice_get_within xs i x e) ∙ ap (λ y. y ∷ drop (suc i) xs) (get_or_from_slice_get xs i x x e)
    ∙ ap (λ n. x ∷ drop n xs) (sym (add-one i))

-- the item at i ends what stands before i + 1
pub take_at : {X : Type 0} (xs : List X) (i : ℕ) (x : X) → slice_get xs i ≡ Some x → take (i + 1) xs ≡ take i xs ++ x ∷ []
take_at xs i x e =
    ap (λ n. take n xs) (add-one i) ∙ take-suc xs i x (slice_get_within xs i x e)
    ∙ ap (λ y. take i xs ++ y ∷ []) (get_or_from_slice_get xs i x x e)

-- what holds of each item holds of the one at i
pub all_at : {X : Type 0} (P : X → Type 0) (xs : List X) (i : ℕ) (x : X) → All P xs → slice_get xs i ≡ Some x → P x
all_at P xs i x all e = subst P (get_or_from_slice_get xs i x x e) (all i x (slice_get_within xs i x e))

-- an item of the first of two joined lists
pub at_left : {X : Type 0} (xs ys : List X) (i : ℕ) → i < length xs → slice_get (xs ++ ys) i ≡ slice_get xs i
at_left [] ys i less = absurd (omega arith)
at_left (x ∷ xs) ys zero less = refl
at_left (x ∷ xs) ys (suc i) less = at_left xs ys i (omega arith)

-- the first item of the second of two joined lists
pub at_seam : {X : Type 0} (xs ys : List X) (y : X) → slice_get (xs ++ y ∷ ys) (length xs) ≡ Some y
at_seam [] ys y = refl
at_seam (x ∷ xs) ys y = at_seam xs ys y

-- a text was put, with one piece more, and the pieces left after it make the whole
pub one_more_piece : {A : Type 0} (f : A → List ℕ) (xs : List A) (i : ℕ) (x : A) (before after whole : List ℕ)
    → slice_get xs i ≡ Some x → after ≡ before ++ f x → before ++ flat_map f (drop i xs) ≡ whole
    → after ++ flat_map f (drop (i + 1) xs) ≡ whole
one_more_piece f xs i x before after whole at put all =
    ap (λ ys. ys ++ flat_map f (drop (i + 1) xs)) put ∙ append_assoc before (f x) (flat_map f (drop (i + 1) xs))
    ∙ ap (λ ys. before ++ flat_map f ys) (sym (drop_at xs i x at)) ∙ all

-- the pieces of a list that is seen through a function
pub flat_map-map : {A B : Type 0} (f : B → List ℕ) (g : A → B) (xs : List A) → flat_map f (map g xs) ≡ flat_map (λ x. f (g x)) xs
flat_map-map f g [] = refl
flat_map-map f g (x ∷ xs) = ap (λ ys. f (g x) ++ ys) (flat_map-map f g xs)
