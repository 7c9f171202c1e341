-- What was gained of a text that is due, and what is still to be written of it.
use Rattle.std.proofs.Common.{ℕ, List, [], ◌++◌, ◌≡◌, ◌+◌, ◌-◌, length, take, drop, refl, sym, ap, ◌∙◌, append_assoc, arith, length-drop}
use Rattle.std.proofs.lemmas.List.{append-nil, take-append-drop, take_all}
use Rattle.std.proofs.Math.Seq.{take-add}
use Rattle.ds_base.specs.Gain.{GainsPrefix}

-- the first w bytes of what is due are a prefix of it
pub gains_front : (old new due : List ℕ) (w : ℕ) → new ≡ old ++ take w due → GainsPrefix old new due
gains_front old new due w is = (drop w due, record { gained = take w due; written = is; owed = sym (take-append-drop w due) })

-- a piece of n bytes was taken from what is left behind the first w
pub one_piece_more : (old before after text : List ℕ) (w n : ℕ)
    → before ≡ old ++ take w text → after ≡ before ++ take n (take (length text - w) (drop w text))
    → after ≡ old ++ take (w + n) text
one_piece_more old before after text w n so_far put =
    let whole : take (length text - w) (drop w text) ≡ drop w text = take_all (length text - w) (drop w text) (omega (arith, length-drop w text)) in
    put ∙ ap (λ xs. before ++ take n xs) whole ∙ ap (λ xs. xs ++ take n (drop w text)) so_far
    ∙ append_assoc old (take w text) (take n (drop w text)) ∙ ap (λ xs. old ++ xs) (sym (take-add w n text))

-- nothing was gained
pub gains_nothing : (old due : List ℕ) → GainsPrefix old old due
gains_nothing old due = (due, record { gained = []; written = sym (append-nil old); owed = refl })
