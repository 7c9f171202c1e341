-- Words by their kinds, in order; an option's values.
use Rattle.std.proofs.Common.{ℕ, suc, List, [], ◌∷◌, ◌++◌, ◌≡◌, ◌<◌, ◌+◌, false, Option, Some, None, length, take, get_or, eqb, eq-eqb, refl, ap, arith}
use Rattle.std.specs.Prelude.{◌==◌, if◌then◌else◌}
use Rattle.std.proofs.lemmas.List.{take_more}
use Rattle.command_words.specs.declared.kind.WordKind.{WordKind}
use Rattle.command_words.specs.declared.kind.WordKind.TheVariants.{File}
use Rattle.command_words.specs.Kinds.{HasKind}
use Rattle.command_words.specs.CommandLine.{Have, AtMostOne}
use Rattle.command_words.specs.Reading.{one_or_none}

pub have-append : (ks ls : List WordKind) (ws vs : List (List ℕ)) → Have ks ws → Have ls vs → Have (ks ++ ls) (ws ++ vs)
have-append [] ls [] vs h g = g
have-append [] ls (w ∷ ws) vs h g = absurd h
have-append (k ∷ ks) ls [] vs h g = absurd h
have-append (k ∷ ks) ls (w ∷ ws) vs h g = (h.0, have-append ks ls ws vs h.1 g)

-- one word more, of the next kind
pub have_more : (ks : List WordKind) (count : ℕ) (ws : List (List ℕ)) (w : List ℕ) → Have (take count ks) ws → count < length ks
    → HasKind (get_or ks count File) w → Have (take (count + 1) ks) (ws ++ (w ∷ []))
have_more ks count ws w h less kind =
    rw (take_more ks count File less) (have-append (take count ks) (get_or ks count File ∷ []) ws (w ∷ []) h (kind, tt))

pub have-length : (ks : List WordKind) (ws : List (List ℕ)) → Have ks ws → length ws ≡ length ks
have-length [] [] h = refl
have-length [] (w ∷ ws) h = absurd h
have-length (k ∷ ks) [] h = absurd h
have-length (k ∷ ks) (w ∷ ws) h = ap suc (have-length ks ws h.1)

-- a word has the kind at its place
pub have_at : (ks : List WordKind) (ws : List (List ℕ)) (w : List ℕ) (vs : List (List ℕ)) → Have ks (ws ++ (w ∷ vs))
    → (length ws < length ks) × HasKind (get_or ks (length ws) File) w
have_at [] [] w vs h = absurd h
have_at [] (x ∷ ws) w vs h = absurd h
have_at (k ∷ ks) [] w vs h = (omega arith, h.0)
have_at (k ∷ ks) (x ∷ ws) w vs h = let r = have_at ks ws w vs h.1 in (omega (arith, r.0), r.1)

-- a value that is given is the only one
pub at_most : (kind : WordKind) (xs : List (List ℕ)) (v : List ℕ) (ys : List (List ℕ)) → AtMostOne kind (xs ++ (v ∷ ys)) → (xs ≡ []) × HasKind kind v
at_most kind [] v [] h = (refl, h)
at_most kind [] v (y ∷ ys) h = absurd h
at_most kind (x ∷ []) v ys h = absurd h
at_most kind (x ∷ z ∷ xs) v ys h = absurd h

pub none_given : (o : Option (List ℕ)) → one_or_none o ≡ [] → o ≡ None
none_given None e = refl
none_given (Some v) e = cc

-- what a part adds to the values of an option
pub own_same : (k : ℕ) (v : List ℕ) → (if k == k then v ∷ [] else []) ≡ v ∷ []
own_same k v = rw (eq-eqb k k refl)

pub own_other : (k j : ℕ) (v : List ℕ) → eqb k j ≡ false → (if k == j then v ∷ [] else []) ≡ []
own_other k j v e = rw e
