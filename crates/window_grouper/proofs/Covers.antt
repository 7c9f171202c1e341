-- The groups that the recursion gives are the groups of the list, and no other list of groups is.
use Rattle.std.proofs.Common.{ℕ, Bool, true, false, not, List, [], ◌∷◌, ◌++◌, ◌≡◌, ◌≤◌, ◌<◌, ◌+◌, ◌⊎◌, ◌&&◌, refl, sym, ap, subst, ◌∙◌, arith, ⊎_elim, leb}
use Rattle.std.specs.List.{AllByRecursion, filter}
use Rattle.std.proofs.lemmas.Bool.{cases_Bool, leb-true, leb-false, le-leb, and_parts, and_from, or_parts, not-true, both_ways}
use Rattle.std.proofs.lemmas.List.Elements.{filter_agree}
use Rattle.std.proofs.lemmas.Slice.Eq.{bytes_eq-Decides}
use Rattle.ds_base.specs.Order.{Precedes, PrecedesAll, InStampOrder}
use Rattle.ds_base.specs.declared.stamp.Stamp.{Stamp}
use Rattle.ds_base.specs.declared.summary.Summary.{Summary}
use Rattle.window_grouper.specs.Cut.{firsts, RiseFrom, IsCut}
use Rattle.window_grouper.specs.Groups.{same_key, with_key, members_of, groups_with, IsGroups, covers, is_covered, groups_behind, groups_of}
use Rattle.window_grouper.proofs.Cuts.{joint, AllUpTo}

-- ---- keys and times

pub same_key-true : (a b : List ℕ) → same_key a b ≡ true → a ≡ b
same_key-true a b h = (bytes_eq-Decides a b).0 h

pub same_key-from : (a b : List ℕ) → a ≡ b → same_key a b ≡ true
same_key-from a b h = (bytes_eq-Decides a b).1 h

pub precedes_time : (s t : Summary) → Precedes s.at t.at → s.at.time ≤ t.at.time
precedes_time s t h = ⊎_elim (λ (below : s.at.time < t.at.time). omega arith) (λ (tied : (s.at.time ≡ t.at.time) × ((s.at.capture < t.at.capture) ⊎ ((s.at.capture ≡ t.at.capture) × (s.at.number < t.at.number)))). omega (arith, tied.0)) h

-- ---- what a group takes

-- s is of the first's key and in its window
pub record Covers (window : ℕ) (f s : Summary) : Type 0 where
  pub key : f.key ≡ s.key
  pub near : s.at.time ≤ f.at.time + window

pub covers-true : (window : ℕ) (f s : Summary) → covers window f s ≡ true → Covers window f s
covers-true window f s h =
    let parts = and_parts (same_key f.key s.key) (leb s.at.time (f.at.time + window)) h in
    record { key = same_key-true f.key s.key parts.0; near = leb-true s.at.time (f.at.time + window) parts.1 }

pub covers-from : (window : ℕ) (f s : Summary) → Covers window f s → covers window f s ≡ true
covers-from window f s h = and_from (same_key f.key s.key) (leb s.at.time (f.at.time + window)) (same_key-from f.key s.key h.key) (le-leb s.at.time (f.at.time + window) h.near)

-- what takes a summary takes each of its key that is no later
pub covers-earlier : (window : ℕ) (f s t : Summary) → s.key ≡ t.key → s.at.time ≤ t.at.time → covers window f t ≡ true
    → covers window f s ≡ true
covers-earlier window f s t key earlier h =
    let there = covers-true window f t h in
    covers-from window f s (record { key = there.key ∙ sym key; near = omega (arith, there.near) })

pub is_covered-earlier : (window : ℕ) (fs : List Summary) (s t : Summary) → s.key ≡ t.key → s.at.time ≤ t.at.time
    → is_covered window fs s ≡ false → is_covered window fs t ≡ false
is_covered-earlier window [] s t key earlier h = refl
is_covered-earlier window (f ∷ fs) s t key earlier h =
    let parts = or_parts (covers window f s) (is_covered window fs s) h in
    let rest : is_covered window fs t ≡ false = is_covered-earlier window fs s t key earlier parts.1 in
    ⊎_elim
    (λ (yes : covers window f t ≡ true). absurd (both_ways (covers window f s) parts.0 (covers-earlier window f s t key earlier yes)))
    (λ (no : covers window f t ≡ false). rw no rest)
    (cases_Bool (covers window f t))

-- s is of the first's key and not in its window
past_window : (window : ℕ) (f s : Summary) → f.key ≡ s.key → covers window f s ≡ false → f.at.time + window < s.at.time
past_window window f s key h =
    ⊎_elim
    (λ (yes : leb s.at.time (f.at.time + window) ≡ true).
    absurd (both_ways (covers window f s) h (and_from (same_key f.key s.key) (leb s.at.time (f.at.time + window)) (same_key-from f.key s.key key) yes)))
    (λ (no : leb s.at.time (f.at.time + window) ≡ false). leb-false s.at.time (f.at.time + window) no)
    (cases_Bool (leb s.at.time (f.at.time + window)))

-- ---- filters

pub all_filter : (p : Summary → Bool) (P : Summary → Type 0) → ((s : Summary) → p s ≡ true → P s) → (l : List Summary)
    → AllByRecursion P (filter p l)
all_filter p P each [] = tt
all_filter p P each (s ∷ l) =
    ⊎_elim
    (λ (yes : p s ≡ true). rw yes (each s yes, all_filter p P each l))
    (λ (no : p s ≡ false). rw no (all_filter p P each l))
    (cases_Bool (p s))

pub filter-none : (p : Summary → Bool) (P : Summary → Type 0) → ((s : Summary) → P s → p s ≡ false) → (l : List Summary)
    → AllByRecursion P l → filter p l ≡ []
filter-none p P each [] h = refl
filter-none p P each (s ∷ l) h = rw (each s h.0) (filter-none p P each l h.1)

pub not_before : (s : Summary) (l : List Summary) → PrecedesAll s.at l → AllByRecursion (λ t. s.at.time ≤ t.at.time) l
not_before s [] h = tt
not_before s (t ∷ l) h = (precedes_time s t h.0, not_before s l h.1)

-- the summaries with the key that no first takes
abbrev pub left_over : ℕ → List ℕ → List Summary → List Summary → List Summary
left_over window key fs l = filter (λ s. same_key s.key key && not (is_covered window fs s)) l

-- the summaries left over are those that one more first takes and the rest
left_over-split : (window : ℕ) (key : List ℕ) (fs : List Summary) (f : Summary) (l : List Summary)
    → f.key ≡ key → is_covered window fs f ≡ false → PrecedesAll f.at l → InStampOrder l
    → filter (covers window f) l ++ left_over window key (f ∷ fs) l ≡ left_over window key fs l
left_over-split window key fs f [] own free later ordered = refl
left_over-split window key fs f (s ∷ l) own free later ordered =
    let rest : filter (covers window f) l ++ left_over window key (f ∷ fs) l ≡ left_over window key fs l =
    left_over-split window key fs f l own free later.1 ordered.1 in
    let earlier : f.at.time ≤ s.at.time = precedes_time f s later.0 in
    ⊎_elim
    (λ (yes : same_key s.key key ≡ true).
    let same : f.key ≡ s.key = own ∙ sym (same_key-true s.key key yes) in
    let uncovered : is_covered window fs s ≡ false = is_covered-earlier window fs f s same earlier free in
    ⊎_elim
    (λ (taken : covers window f s ≡ true). rw (taken, yes, uncovered) (ap (λ (k : List Summary). s ∷ k) rest))
    (λ (past : covers window f s ≡ false).
    let none : filter (covers window f) l ≡ [] =
    filter-none (covers window f) (λ t. s.at.time ≤ t.at.time)
    (λ t after. ⊎_elim
    (λ (takes : covers window f t ≡ true).
    let above : f.at.time + window < s.at.time = past_window window f s same past in
    let there = covers-true window f t takes in
    absurd (omega (arith, there.near, above, after)))
    (λ (no : covers window f t ≡ false). no)
    (cases_Bool (covers window f t)))
    l (not_before s l ordered.0) in
    let bare : left_over window key (f ∷ fs) l ≡ left_over window key fs l = rw none at rest in
    rw (past, yes, uncovered, none) (ap (λ (k : List Summary). s ∷ k) bare))
    (cases_Bool (covers window f s)))
    (λ (no : same_key s.key key ≡ false).
    let past : covers window f s ≡ false = ⊎_elim
    (λ (takes : covers window f s ≡ true).
    absurd (both_ways (same_key s.key key) no (same_key-from s.key key (sym (covers-true window f s takes).key ∙ own))))
    (λ (free_of : covers window f s ≡ false). free_of)
    (cases_Bool (covers window f s)) in
    rw (past, no) rest)
    (cases_Bool (same_key s.key key))

-- ---- the groups of the recursion are cuts

rise_from : (window t : ℕ) (l : List Summary) (gs : List (List Summary)) → IsCut window l gs
    → AllByRecursion (λ s. t + window < s.at.time) l → RiseFrom window t (firsts gs)
rise_from window t l [] h above = tt
rise_from window t l ([] ∷ gs) h above = absurd h.filled.0
rise_from window t l ((s ∷ ss) ∷ gs) h above =
    let all : AllByRecursion (λ u. t + window < u.at.time) (s ∷ (ss ++ joint gs)) =
    subst (λ (k : List Summary). AllByRecursion (λ u. t + window < u.at.time) k) (sym h.joined) above in
    (all.0, h.apart)

-- a group with all that its first takes, before the cut of the rest
cut_more : (window : ℕ) (l k : List Summary) (f : Summary) (ss : List Summary) (gs : List (List Summary)) → IsCut window k gs
    → ss ++ k ≡ l → AllUpTo (f.at.time + window) ss → AllByRecursion (λ s. f.at.time + window < s.at.time) k
    → IsCut window (f ∷ l) ((f ∷ ss) ∷ gs)
cut_more window l k f ss gs h joined near above =
    let own : f.at.time ≤ f.at.time + window = omega arith in
    record {
      filled = (tt, h.filled);
      joined = ap (λ (j : List Summary). f ∷ j) (ap (λ (j : List Summary). ss ++ j) h.joined ∙ joined);
      within = ((own, near), h.within);
      apart = rise_from window f.at.time k gs h above;
    }

left_over-above : (window : ℕ) (key : List ℕ) (fs : List Summary) (f : Summary) (l : List Summary) → f.key ≡ key
    → AllByRecursion (λ s. f.at.time + window < s.at.time) (left_over window key (f ∷ fs) l)
left_over-above window key fs f l own =
    all_filter (λ s. same_key s.key key && not (is_covered window (f ∷ fs) s)) (λ s. f.at.time + window < s.at.time)
    (λ s passes.
    let parts = and_parts (same_key s.key key) (not (is_covered window (f ∷ fs) s)) passes in
    let uncovered = or_parts (covers window f s) (is_covered window fs s) (not-true (is_covered window (f ∷ fs) s) parts.1) in
    past_window window f s (own ∙ sym (same_key-true s.key key parts.0)) uncovered.0)
    l

-- a first of another key takes none with this key
left_over-other : (window : ℕ) (key : List ℕ) (fs : List Summary) (f : Summary) (l : List Summary) → same_key f.key key ≡ false
    → left_over window key (f ∷ fs) l ≡ left_over window key fs l
left_over-other window key fs f l other =
    filter_agree (λ s. same_key s.key key && not (is_covered window (f ∷ fs) s)) (λ s. same_key s.key key && not (is_covered window fs s))
    (λ s. ⊎_elim
    (λ (yes : same_key s.key key ≡ true).
    let free : covers window f s ≡ false = ⊎_elim
    (λ (takes : covers window f s ≡ true).
    absurd (both_ways (same_key f.key key) other (same_key-from f.key key ((covers-true window f s takes).key ∙ same_key-true s.key key yes))))
    (λ (no : covers window f s ≡ false). no)
    (cases_Bool (covers window f s)) in
    rw (yes, free) refl)
    (λ (no : same_key s.key key ≡ false). rw no refl)
    (cases_Bool (same_key s.key key)))
    l

cut_behind : (window : ℕ) (key : List ℕ) (fs : List Summary) (l : List Summary) → InStampOrder l
    → IsCut window (left_over window key fs l) (members_of (groups_with key (groups_behind window fs l)))
cut_behind window key fs [] ordered = record { filled = tt; joined = refl; within = tt; apart = tt }
cut_behind window key fs (s ∷ l) ordered =
    ⊎_elim
    (λ (covered : is_covered window fs s ≡ true).
    let rest = cut_behind window key fs l ordered.1 in
    ⊎_elim
    (λ (yes : same_key s.key key ≡ true). rw (covered, yes) rest)
    (λ (no : same_key s.key key ≡ false). rw (covered, no) rest)
    (cases_Bool (same_key s.key key)))
    (λ (free : is_covered window fs s ≡ false).
    let rest = cut_behind window key (s ∷ fs) l ordered.1 in
    ⊎_elim
    (λ (yes : same_key s.key key ≡ true).
    let own : s.key ≡ key = same_key-true s.key key yes in
    rw (free, yes)
    (cut_more window (left_over window key fs l) (left_over window key (s ∷ fs) l) s (filter (covers window s) l)
    (members_of (groups_with key (groups_behind window (s ∷ fs) l))) rest
    (left_over-split window key fs s l own free ordered.0 ordered.1)
    (all_filter (covers window s) (λ t. t.at.time ≤ s.at.time + window) (λ t takes. (covers-true window s t takes).near) l)
    (left_over-above window key fs s l own)))
    (λ (no : same_key s.key key ≡ false).
    rw (free, no)
    (subst (λ (k : List Summary). IsCut window k (members_of (groups_with key (groups_behind window (s ∷ fs) l)))) (left_over-other window key fs s l no) rest))
    (cases_Bool (same_key s.key key)))
    (cases_Bool (is_covered window fs s))

-- ---- the groups of the recursion stand in order

firsts_after : (at : Stamp) (window : ℕ) (fs l : List Summary) → PrecedesAll at l
    → PrecedesAll at (firsts (members_of (groups_behind window fs l)))
firsts_after at window fs [] h = tt
firsts_after at window fs (s ∷ l) h =
    ⊎_elim
    (λ (covered : is_covered window fs s ≡ true). rw covered (firsts_after at window fs l h.1))
    (λ (free : is_covered window fs s ≡ false). rw free (h.0, firsts_after at window (s ∷ fs) l h.1))
    (cases_Bool (is_covered window fs s))

firsts_ordered : (window : ℕ) (fs l : List Summary) → InStampOrder l
    → InStampOrder (firsts (members_of (groups_behind window fs l)))
firsts_ordered window fs [] h = tt
firsts_ordered window fs (s ∷ l) h =
    ⊎_elim
    (λ (covered : is_covered window fs s ≡ true). rw covered (firsts_ordered window fs l h.1))
    (λ (free : is_covered window fs s ≡ false). rw free (firsts_after s.at window (s ∷ fs) l h.0, firsts_ordered window (s ∷ fs) l h.1))
    (cases_Bool (is_covered window fs s))

left_over-nothing : (window : ℕ) (key : List ℕ) (l : List Summary) → left_over window key [] l ≡ with_key key l
left_over-nothing window key l =
    filter_agree (λ s. same_key s.key key && not (is_covered window [] s)) (λ s. same_key s.key key)
    (λ s. elim (same_key s.key key) as (λ b. (b && true) ≡ b) [ true ↦ refl | false ↦ refl ]) l

-- the recursion gives groups of the list
pub groups_of-IsGroups : (window : ℕ) (l : List Summary) → InStampOrder l → IsGroups window l (groups_of window l)
groups_of-IsGroups window l ordered = record {
  cuts = λ key. subst (λ (k : List Summary). IsCut window k (members_of (groups_with key (groups_of window l)))) (left_over-nothing window key l) (cut_behind window key [] l ordered);
  ordered = firsts_ordered window [] l ordered;
}
