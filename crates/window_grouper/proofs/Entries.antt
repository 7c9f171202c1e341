-- Entries in the order of their stamps are those of the summaries in that order.
use Rattle.std.proofs.Common.{ℕ, Bool, true, false, List, [], ◌∷◌, ◌++◌, ◌≡◌, ◌<◌, ◌+◌, ◌⊎◌, ◌∙◌, suc, refl, ap, sym, subst, arith, ⊎_elim, length, map, take, get_or, add-one}
use Rattle.std.specs.Prelude.{Some, slice_get}
use Rattle.std.specs.List.{AllByRecursion, IsDistinct}
use Rattle.std.specs.List.Sorted.{IsPermutation, IsSorted}
use Rattle.std.specs.Ordering.{is_lt, is_eq, nat_cmp, ordering_then}
use Rattle.std.specs.Cmp.{IsTotalOrder}
use Rattle.std.specs.declared.cmp.Ordering.{Ordering}
use Rattle.std.proofs.lemmas.Cmp.{by_ranked, eq_by_cmp_equiv, then_total, on_total, nat_cmp_total}
use Rattle.std.proofs.lemmas.List.{get_or-map, length-map}
use Rattle.std.proofs.lemmas.List.Elements.{All-from_recursion, recursion_from_All}
use Rattle.std.proofs.lemmas.List.Sorted.{IsPermutation-map, All-permutation, length_permutation}
use Rattle.std.proofs.lemmas.Map.Keys.{IsDistinct-IsPermutation, apart_from_distinct}
use Rattle.std.proofs.lemmas.Option.{slice_get_within, get_or_from_slice_get}
use Rattle.ds_base.specs.Order.{Precedes, InStampOrder}
use Rattle.ds_base.specs.declared.stamp.Stamp.{Stamp}
use Rattle.ds_base.specs.declared.summary.Summary.{Summary}
use Rattle.window_grouper.specs.Positions.{ArePlaces, AreEntries}
use Rattle.window_grouper.specs.Sorted.{DiffersFromAll, StampsDiffer, by_stamp, IsInStampOrderOf}
use Rattle.window_grouper.specs.contracts.order.EntryOrd.TheImpl as entry_order
use Rattle.window_grouper.specs.declared.order.Entry.{Entry}
use Rattle.window_grouper.proofs.Insertion.{one_order}
use Rattle.window_grouper.proofs.Positions.{take-at}
use Rattle.window_grouper.proofs.Sorted.{ordered_from_neighbours}
use Rattle.window_grouper.proofs.Stamps.{stamp_cmp, IsSame, stamps_ranked, cmp_less, cmp_greater}

-- the order that the program compares entries by
abbrev pub entry_cmp : Entry → Entry → Ordering
entry_cmp = (entry_order.ghosts).cmp

-- ---- one entry after another

-- a further entry is that of a further summary
pub entries-push : (l : List Summary) (es : List Entry) (ss : List Summary) (e : Entry) (s : Summary) → AreEntries l es ss → e.at ≡ s.at
    → slice_get l e.position ≡ Some s → AreEntries l (es ++ e ∷ []) (ss ++ s ∷ [])
entries-push l [] [] e s h at place = (at, place, tt)
entries-push l [] (x ∷ xs) e s h at place = absurd h
entries-push l (f ∷ fs) [] e s h at place = absurd h
entries-push l (f ∷ fs) (x ∷ xs) e s h at place = (h.0, h.1, entries-push l fs xs e s h.2 at place)

-- the entries of the first of a list's summaries
pub entries_more : (l : List Summary) (es : List Entry) (e : Entry) (s : Summary) → AreEntries l es (take e.position l) → e.at ≡ s.at
    → slice_get l e.position ≡ Some s → AreEntries l (es ++ e ∷ []) (take (e.position + 1) l)
entries_more l es e s h at place =
    subst (AreEntries l (es ++ e ∷ [])) (sym (take-at l e.position s place)) (entries-push l es (take e.position l) e s h at place)

-- the places of the entries are those of the summaries
pub places-entries : (l : List Summary) (es : List Entry) (ss : List Summary) → AreEntries l es ss
    → ArePlaces l (map (λ (e : Entry). e.position) es) ss
places-entries l [] [] h = tt
places-entries l [] (x ∷ xs) h = absurd h
places-entries l (e ∷ es) [] h = absurd h
places-entries l (e ∷ es) (x ∷ xs) h = (h.1, places-entries l es xs h.2)

-- ---- the summaries of entries, whatever their order

-- the summary at the place of an entry, and d where there is none
abbrev held : List Summary → Summary → Entry → Summary
held l d e = get_or l e.position d

-- the entry tells of the summary at its place
abbrev Tells : List Summary → Summary → Entry → Type 0
Tells l d e = (e.at ≡ (held l d e).at) × (slice_get l e.position ≡ Some (held l d e))

entries-held : (l : List Summary) (d : Summary) (es : List Entry) (ss : List Summary) → AreEntries l es ss → map (held l d) es ≡ ss
entries-held l d [] [] h = refl
entries-held l d [] (x ∷ xs) h = absurd h
entries-held l d (e ∷ es) [] h = absurd h
entries-held l d (e ∷ es) (x ∷ xs) h =
    let here : held l d e ≡ x = get_or_from_slice_get l e.position x d h.1 in
    let rest = entries-held l d es xs h.2 in cc

entries-tell : (l : List Summary) (d : Summary) (es : List Entry) (ss : List Summary) → AreEntries l es ss → AllByRecursion (Tells l d) es
entries-tell l d [] ss h = tt
entries-tell l d (e ∷ es) [] h = absurd h
entries-tell l d (e ∷ es) (x ∷ xs) h =
    let here : held l d e ≡ x = get_or_from_slice_get l e.position x d h.1 in
    ((h.0 ∙ ap (λ (s : Summary). s.at) (sym here), h.1 ∙ ap (λ (s : Summary). Some s) (sym here)), entries-tell l d es xs h.2)

entries_from_told : (l : List Summary) (d : Summary) (es : List Entry) → AllByRecursion (Tells l d) es → AreEntries l es (map (held l d) es)
entries_from_told l d [] h = tt
entries_from_told l d (e ∷ es) h = (h.0.0, h.0.1, entries_from_told l d es h.1)

-- ---- entries of stamps that differ

-- whether two entries have one stamp
abbrev one_stamp : Entry → Entry → Bool
one_stamp e f = is_eq (stamp_cmp e.at f.at)

apart : (a b : Stamp) → Precedes a b ⊎ Precedes b a → is_eq (stamp_cmp a b) ≡ false
apart a b h =
    ⊎_elim (λ (f : Precedes a b). ap is_eq (cmp_less a b f)) (λ (g : Precedes b a). ap is_eq (cmp_greater a b g)) h

apart_from_all : (e : Entry) (l : List Summary) (es : List Entry) (ss : List Summary) → AreEntries l es ss → DiffersFromAll e.at ss
    → AllByRecursion (λ (f : Entry). one_stamp e f ≡ false) es
apart_from_all e l [] ss h d = tt
apart_from_all e l (f ∷ fs) [] h d = absurd h
apart_from_all e l (f ∷ fs) (x ∷ xs) h d =
    (ap (λ (at : Stamp). is_eq (stamp_cmp e.at at)) h.0 ∙ apart e.at x.at d.0, apart_from_all e l fs xs h.2 d.1)

entries-differ : (l : List Summary) (es : List Entry) (ss : List Summary) → AreEntries l es ss → StampsDiffer ss → IsDistinct one_stamp es
unfolding IsDistinct
entries-differ l [] ss h d = tt
entries-differ l (e ∷ es) [] h d = absurd h
entries-differ l (e ∷ es) (x ∷ xs) h d =
    (apart_from_all e l es xs h.2 (subst (λ (at : Stamp). DiffersFromAll at xs) (sym h.0) d.0), entries-differ l es xs h.2 d.1)

stamps_total : IsTotalOrder stamp_cmp
stamps_total =
    then_total (on_total (λ (s : Stamp). s.time) nat_cmp_total)
    (then_total (on_total (λ (s : Stamp). s.capture) nat_cmp_total) (on_total (λ (s : Stamp). s.number) nat_cmp_total))

one_stamp-flips : (e f : Entry) → one_stamp e f ≡ one_stamp f e
one_stamp-flips e f = (eq_by_cmp_equiv stamps_total).symm e.at f.at

-- ---- entries that are sorted

-- of two entries of different stamps, which are in order, the first stamp is before the second
rises : (e f : Entry) → is_lt (entry_cmp f e) ≡ false → one_stamp e f ≡ false → Precedes e.at f.at
rises e f up differ =
    by_ranked (Precedes e.at f.at) (IsSame e.at f.at) (Precedes f.at e.at) (stamp_cmp e.at f.at) (stamps_ranked e.at f.at)
    (λ o h. h)
    (λ o h. absurd (let tied = ap is_eq o in cc))
    (λ o h. absurd (let falls : is_lt (entry_cmp f e) ≡ true =
    ap (λ (o : Ordering). is_lt (ordering_then o (nat_cmp f.position e.position))) (cmp_less f.at e.at h) in cc))

-- the stamp of the entry at k is that of the summary at k
stamp-of : (l : List Summary) (d : Summary) (es : List Entry) → AllByRecursion (Tells l d) es → (k : ℕ) (none : Entry) (s : Summary)
    → k < length es → slice_get (map (held l d) es) k ≡ Some s → (get_or es k none).at ≡ s.at
stamp-of l d es told k none s here at =
    let own : Tells l d (get_or es k none) = All-from_recursion (Tells l d) es told k none here in
    let whose : held l d (get_or es k none) ≡ s =
    sym (get_or-map (held l d) es k none d here) ∙ get_or_from_slice_get (map (held l d) es) k s d at in
    own.0 ∙ ap (λ (x : Summary). x.at) whose

sorted-ordered : (l : List Summary) (d : Summary) (es : List Entry) → AllByRecursion (Tells l d) es → IsDistinct one_stamp es → IsSorted entry_cmp es
    → InStampOrder (map (held l d) es)
sorted-ordered l d es told differ up =
    ordered_from_neighbours (map (held l d) es) (λ k a b at_k at_next.
    let next : suc k < length es = omega (arith, slice_get_within (map (held l d) es) (suc k) b at_next, length-map es (held l d)) in
    let here : k < length es = omega arith in
    let none : Entry = record { at = d.at; position = 0 } in
    let above : is_lt (entry_cmp (get_or es (suc k) none) (get_or es k none)) ≡ false =
    subst (λ (n : ℕ). is_lt (entry_cmp (get_or es n none) (get_or es k none)) ≡ false) (add-one k) (up k none (omega arith) (omega arith)) in
    let two : one_stamp (get_or es k none) (get_or es (suc k) none) ≡ false =
    apart_from_distinct one_stamp es k (suc k) none differ (omega arith) next in
    subst (λ (s : Stamp). Precedes s b.at) (stamp-of l d es told k none a here at_k)
    (subst (Precedes (get_or es k none).at) (stamp-of l d es told (suc k) none b next at_next)
    (rises (get_or es k none) (get_or es (suc k) none) above two)))

-- entries of all summaries, once they are sorted, are those of the summaries in the order of their stamps
pub sorted_entries : (l : List Summary) (es fs : List Entry) → StampsDiffer l → AreEntries l es l → IsPermutation es fs → IsSorted entry_cmp fs
    → AreEntries l fs (by_stamp l)
sorted_entries [] [] [] differ h same up = tt
sorted_entries [] [] (f ∷ fs) differ h same up = absurd (let none = length_permutation [] (f ∷ fs) same in omega (arith, none))
sorted_entries [] (e ∷ es) fs differ h same up = absurd h
sorted_entries (d ∷ ds) es fs differ h same up =
    let l : List Summary = d ∷ ds in
    let told : AllByRecursion (Tells l d) fs =
    recursion_from_All (Tells l d) fs (All-permutation (Tells l d) es fs same (All-from_recursion (Tells l d) es (entries-tell l d es l h))) in
    let apart : IsDistinct one_stamp fs = IsDistinct-IsPermutation one_stamp one_stamp-flips es fs same (entries-differ l es l h differ) in
    let own : IsInStampOrderOf l (map (held l d) fs) = record {
      ordered = sorted-ordered l d fs told apart up;
      same = subst (λ (ss : List Summary). IsPermutation ss (map (held l d) fs)) (entries-held l d es l h) (IsPermutation-map (held l d) es fs same);
    } in
    subst (AreEntries l fs) ((one_order l differ).1 (map (held l d) fs) own) (entries_from_told l d fs told)
