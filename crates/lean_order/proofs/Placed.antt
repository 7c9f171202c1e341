-- Places in the order of their stamps are those of the summaries in that order.
use Rattle.std.proofs.Common.{ℕ, Bool, true, false, List, [], ◌∷◌, ◌≡◌, ◌<◌, ◌≤◌, ◌+◌, ◌⊎◌, ◌∙◌, suc, refl, ap, sym, subst, arith, ⊎_elim, length, map, get_or, add-one}
use Rattle.std.specs.Prelude.{Option, Some, None, slice_get}
use Rattle.std.specs.List.{AllByRecursion, IsDistinct}
use Rattle.std.specs.List.Sorted.{IsPermutation, IsSortedByKey}
use Rattle.std.specs.Ordering.{is_lt, is_eq, nat_cmp}
use Rattle.std.specs.Cmp.{IsTotalOrder}
use Rattle.std.specs.declared.cmp.Ordering.{Ordering}
use Rattle.std.proofs.lemmas.Cmp.{by_ranked, eq_by_cmp_equiv, then_total, on_total, nat_cmp_total}
use Rattle.std.proofs.lemmas.List.{get_or-map, length-map}
use Rattle.std.proofs.lemmas.List.Elements.{All-from_recursion, recursion_from_All}
use Rattle.std.proofs.lemmas.List.Sorted.{IsPermutation-map, All-permutation, length_permutation}
use Rattle.std.proofs.lemmas.Map.Keys.{IsDistinct-IsPermutation, apart_from_distinct}
use Rattle.std.proofs.lemmas.Option.{slice_get_within, slice_get_cases, slice_get_past, get_or_from_slice_get}
use Rattle.ds_base.specs.Order.{Precedes, InStampOrder}
use Rattle.ds_base.specs.declared.stamp.Stamp.{Stamp}
use Rattle.ds_base.specs.declared.summary.Summary.{Summary}
use Rattle.window_grouper.specs.Positions.{ArePlaces}
use Rattle.window_grouper.specs.Sorted.{DiffersFromAll, StampsDiffer, by_stamp, IsInStampOrderOf}
use Rattle.window_grouper.proofs.Insertion.{one_order}
use Rattle.window_grouper.proofs.Sorted.{ordered_from_neighbours}
use Rattle.window_grouper.proofs.Stamps.{stamp_cmp, IsSame, stamps_ranked, cmp_less, cmp_greater}
use Rattle.lean_order.specs.Stamped.{stamp_of, stamp_there}

-- a stamp is that of the summary at a place, where it is that of whichever summary stands there
pub stamped : (l : List Summary) (place : ℕ) (at : Stamp) → place < length l → ((s : Summary) → slice_get l place ≡ Some s → at ≡ s.at)
    → at ≡ stamp_there l place
stamped l place at within own =
    ⊎_elim (λ there. own there.0 there.2 ∙ sym (ap stamp_of there.2)) (λ past. absurd (let far = past.0 in omega (arith, far, within)))
    (slice_get_cases l place).1

-- where there is no summary, the least stamp is answered
pub none_there : (l : List Summary) (place : ℕ) → length l ≤ place → record { time = 0; capture = 0; number = 0 } ≡ stamp_there l place
none_there l place past = sym (ap stamp_of (slice_get_past l place past))

-- ---- the summaries at places, whatever their order

-- the summary at a place, and d where there is none
abbrev held : List Summary → Summary → ℕ → Summary
held l d p = get_or l p d

-- there is a summary at the place
abbrev Tells : List Summary → Summary → ℕ → Type 0
Tells l d p = slice_get l p ≡ Some (held l d p)

places-held : (l : List Summary) (d : Summary) (ps : List ℕ) (ss : List Summary) → ArePlaces l ps ss → map (held l d) ps ≡ ss
places-held l d [] [] h = refl
places-held l d [] (x ∷ xs) h = absurd h
places-held l d (p ∷ ps) [] h = absurd h
places-held l d (p ∷ ps) (x ∷ xs) h =
    let here : held l d p ≡ x = get_or_from_slice_get l p x d h.0 in
    let rest = places-held l d ps xs h.1 in cc

places-tell : (l : List Summary) (d : Summary) (ps : List ℕ) (ss : List Summary) → ArePlaces l ps ss → AllByRecursion (Tells l d) ps
places-tell l d [] ss h = tt
places-tell l d (p ∷ ps) [] h = absurd h
places-tell l d (p ∷ ps) (x ∷ xs) h =
    let here : held l d p ≡ x = get_or_from_slice_get l p x d h.0 in
    (h.0 ∙ ap (λ (s : Summary). Some s) (sym here), places-tell l d ps xs h.1)

places_from_told : (l : List Summary) (d : Summary) (ps : List ℕ) → AllByRecursion (Tells l d) ps → ArePlaces l ps (map (held l d) ps)
places_from_told l d [] h = tt
places_from_told l d (p ∷ ps) h = (h.0, places_from_told l d ps h.1)

-- ---- places of stamps that differ

-- whether the summaries at two places have one stamp
abbrev one_stamp : List Summary → ℕ → ℕ → Bool
one_stamp l p q = is_eq (stamp_cmp (stamp_there l p) (stamp_there l q))

apart : (a b : Stamp) → Precedes a b ⊎ Precedes b a → is_eq (stamp_cmp a b) ≡ false
apart a b h =
    ⊎_elim (λ (f : Precedes a b). ap is_eq (cmp_less a b f)) (λ (g : Precedes b a). ap is_eq (cmp_greater a b g)) h

apart_from_all : (l : List Summary) (at : Stamp) (ps : List ℕ) (ss : List Summary) → ArePlaces l ps ss → DiffersFromAll at ss
    → AllByRecursion (λ (q : ℕ). is_eq (stamp_cmp at (stamp_there l q)) ≡ false) ps
apart_from_all l at [] ss h d = tt
apart_from_all l at (q ∷ qs) [] h d = absurd h
apart_from_all l at (q ∷ qs) (x ∷ xs) h d =
    (ap (λ (o : Option Summary). is_eq (stamp_cmp at (stamp_of o))) h.0 ∙ apart at x.at d.0, apart_from_all l at qs xs h.1 d.1)

places-differ : (l : List Summary) (ps : List ℕ) (ss : List Summary) → ArePlaces l ps ss → StampsDiffer ss → IsDistinct (one_stamp l) ps
unfolding IsDistinct
places-differ l [] ss h d = tt
places-differ l (p ∷ ps) [] h d = absurd h
places-differ l (p ∷ ps) (x ∷ xs) h d =
    let own : stamp_there l p ≡ x.at = ap stamp_of h.0 in
    (apart_from_all l (stamp_there l p) ps xs h.1 (subst (λ (at : Stamp). DiffersFromAll at xs) (sym own) d.0), places-differ l ps xs h.1 d.1)

stamps_total : IsTotalOrder stamp_cmp
stamps_total =
    then_total (on_total (λ (s : Stamp). s.time) nat_cmp_total)
    (then_total (on_total (λ (s : Stamp). s.capture) nat_cmp_total) (on_total (λ (s : Stamp). s.number) nat_cmp_total))

one_stamp-flips : (l : List Summary) (p q : ℕ) → one_stamp l p q ≡ one_stamp l q p
one_stamp-flips l p q = (eq_by_cmp_equiv stamps_total).symm (stamp_there l p) (stamp_there l q)

-- ---- places that are sorted

-- of two stamps that differ and are in order, the first is before the second
rises : (a b : Stamp) → is_lt (stamp_cmp b a) ≡ false → is_eq (stamp_cmp a b) ≡ false → Precedes a b
rises a b up differ =
    by_ranked (Precedes a b) (IsSame a b) (Precedes b a) (stamp_cmp a b) (stamps_ranked a b)
    (λ o h. h)
    (λ o h. absurd (let tied = ap is_eq o in cc))
    (λ o h. absurd (let falls : is_lt (stamp_cmp b a) ≡ true = ap is_lt (cmp_less b a h) in cc))

-- the stamp at the place at k is that of the summary at k
stamp-of : (l : List Summary) (d : Summary) (ps : List ℕ) → AllByRecursion (Tells l d) ps → (k : ℕ) (s : Summary)
    → k < length ps → slice_get (map (held l d) ps) k ≡ Some s → stamp_there l (get_or ps k 0) ≡ s.at
stamp-of l d ps told k s here at =
    let own : Tells l d (get_or ps k 0) = All-from_recursion (Tells l d) ps told k 0 here in
    let whose : held l d (get_or ps k 0) ≡ s =
    sym (get_or-map (held l d) ps k 0 d here) ∙ get_or_from_slice_get (map (held l d) ps) k s d at in
    ap stamp_of own ∙ ap (λ (x : Summary). x.at) whose

sorted-ordered : (l : List Summary) (d : Summary) (ps : List ℕ) → AllByRecursion (Tells l d) ps → IsDistinct (one_stamp l) ps
    → IsSortedByKey (stamp_there l) stamp_cmp ps → InStampOrder (map (held l d) ps)
sorted-ordered l d ps told differ up =
    ordered_from_neighbours (map (held l d) ps) (λ k a b at_k at_next.
    let next : suc k < length ps = omega (arith, slice_get_within (map (held l d) ps) (suc k) b at_next, length-map ps (held l d)) in
    let here : k < length ps = omega arith in
    let above : is_lt (stamp_cmp (stamp_there l (get_or ps (suc k) 0)) (stamp_there l (get_or ps k 0))) ≡ false =
    subst (λ (n : ℕ). is_lt (stamp_cmp (stamp_there l (get_or ps n 0)) (stamp_there l (get_or ps k 0))) ≡ false) (add-one k)
    (up k 0 (omega arith) (omega arith)) in
    let two : one_stamp l (get_or ps k 0) (get_or ps (suc k) 0) ≡ false =
    apart_from_distinct (one_stamp l) ps k (suc k) 0 differ (omega arith) next in
    subst (λ (s : Stamp). Precedes s b.at) (stamp-of l d ps told k a here at_k)
    (subst (Precedes (stamp_there l (get_or ps k 0))) (stamp-of l d ps told (suc k) b next at_next)
    (rises (stamp_there l (get_or ps k 0)) (stamp_there l (get_or ps (suc k) 0)) above two)))

-- all places of a list, once they are sorted by their stamps, are those of the summaries in the order of their stamps
pub sorted_places : (l : List Summary) (ps qs : List ℕ) → StampsDiffer l → ArePlaces l ps l → IsPermutation ps qs
    → IsSortedByKey (stamp_there l) stamp_cmp qs → ArePlaces l qs (by_stamp l)
sorted_places [] [] [] differ h same up = tt
sorted_places [] [] (q ∷ qs) differ h same up = absurd (let none = length_permutation [] (q ∷ qs) same in omega (arith, none))
sorted_places [] (p ∷ ps) qs differ h same up = absurd h
sorted_places (d ∷ ds) ps qs differ h same up =
    let l : List Summary = d ∷ ds in
    let told : AllByRecursion (Tells l d) qs =
    recursion_from_All (Tells l d) qs (All-permutation (Tells l d) ps qs same (All-from_recursion (Tells l d) ps (places-tell l d ps l h))) in
    let apart : IsDistinct (one_stamp l) qs = IsDistinct-IsPermutation (one_stamp l) (one_stamp-flips l) ps qs same (places-differ l ps l h differ) in
    let own : IsInStampOrderOf l (map (held l d) qs) = record {
      ordered = sorted-ordered l d qs told apart up;
      same = subst (λ (ss : List Summary). IsPermutation ss (map (held l d) qs)) (places-held l d ps l h) (IsPermutation-map (held l d) ps qs same);
    } in
    subst (ArePlaces l qs) ((one_order l differ).1 (map (held l d) qs) own) (places_from_told l d qs told)
