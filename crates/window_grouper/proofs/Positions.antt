-- The places of a list's summaries.
use Rattle.std.proofs.Common.{ℕ, List, [], ◌∷◌, ◌++◌, ◌≡◌, ◌<◌, ◌+◌, ◌∙◌, ap, sym, subst, arith, length, take, get_or}
use Rattle.std.specs.Prelude.{Some, slice_get}
use Rattle.std.proofs.lemmas.List.{take_more}
use Rattle.std.proofs.lemmas.Option.{slice_get_within, get_or_from_slice_get, slice_get-get_or}
use Rattle.ds_base.specs.declared.summary.Summary.{Summary}
use Rattle.window_grouper.specs.Positions.{ArePlaces}

-- a further place holds a further summary
pub places-push : (l : List Summary) (ps : List ℕ) (ss : List Summary) (p : ℕ) (s : Summary) → ArePlaces l ps ss → slice_get l p ≡ Some s
    → ArePlaces l (ps ++ p ∷ []) (ss ++ s ∷ [])
places-push l [] [] p s h at = (at, tt)
places-push l [] (x ∷ xs) p s h at = absurd h
places-push l (q ∷ qs) [] p s h at = absurd h
places-push l (q ∷ qs) (x ∷ xs) p s h at = (h.0, places-push l qs xs p s h.1 at)

-- one more than the first i of a list
pub take-at : (l : List Summary) (i : ℕ) (s : Summary) → slice_get l i ≡ Some s → take (i + 1) l ≡ take i l ++ s ∷ []
take-at l i s h = take_more l i s (slice_get_within l i s h) ∙ ap (λ (x : Summary). take i l ++ x ∷ []) (get_or_from_slice_get l i s s h)

-- the first places of a list hold the first of its summaries
pub places_more : (l : List Summary) (ps : List ℕ) (i : ℕ) → ArePlaces l ps (take i l) → i < length l → ArePlaces l (ps ++ i ∷ []) (take (i + 1) l)
places_more [] ps i h within = absurd (omega arith)
places_more (d ∷ ds) ps i h within =
    let l : List Summary = d ∷ ds in
    let at : slice_get l i ≡ Some (get_or l i d) = slice_get-get_or l i d within in
    subst (ArePlaces l (ps ++ i ∷ [])) (sym (take-at l i (get_or l i d) at)) (places-push l ps (take i l) i (get_or l i d) h at)

-- the place at i holds the summary at i
