-- Fields that are written one after another.
use Rattle.std.proofs.Common.{◌≡◌, ℕ, ◌+◌, ◌<◌, List, [], ◌∷◌, ◌++◌, length, take, get_or, sym, ap, ◌∙◌, append_assoc, append-nil}
use Rattle.std.specs.List.{flat_map}
use Rattle.std.proofs.lemmas.List.{take_more}
use Rattle.std.proofs.lemmas.Grind.{flat_map-append}

-- one value more of a list is spelled
pub next_spelled : (f : ℕ → List ℕ) (xs : List ℕ) (i : ℕ) (old now next : List ℕ) → i < length xs → now ≡ old ++ flat_map f (take i xs) → next ≡ now ++ f (get_or xs i 0)
    → next ≡ old ++ flat_map f (take (i + 1) xs)
next_spelled f xs i old now next lt before after =
    after ∙ ap (λ bytes. bytes ++ f (get_or xs i 0)) before
    ∙ append_assoc old (flat_map f (take i xs)) (f (get_or xs i 0))
    ∙ ap (λ bytes. old ++ bytes)
    (sym (ap (flat_map f) (take_more xs i 0 lt) ∙ flat_map-append f (take i xs) (get_or xs i 0 ∷ []) ∙ ap (λ bytes. flat_map f (take i xs) ++ bytes) (append-nil (f (get_or xs i 0)))))
