-- What is true of each group of a list.
use Rattle.std.proofs.Common.{ℕ, Bool, true, false, not, List, [], ◌∷◌, ◌++◌, ◌≡◌, ◌≤◌, ◌+◌, refl, sym, ap, ◌∙◌, arith, ⊎_elim, length}
use Rattle.std.specs.Prelude.{filter}
use Rattle.std.specs.List.{AllByRecursion}
use Rattle.std.proofs.lemmas.Bool.{cases_Bool}
use Rattle.std.proofs.lemmas.List.Sums.{sum_by-cons, sum_by-append}
use Rattle.ds_base.specs.Copies.{Copies}
use Rattle.ds_base.specs.Order.{PrecedesAll, InStampOrder}
use Rattle.ds_base.specs.declared.stamp.Stamp.{Stamp}
use Rattle.ds_base.specs.declared.summary.Summary.{Summary}
use Rattle.window_grouper.specs.Groups.{covers, is_covered, groups_behind, groups_of, IsGroup, members_in, AllGrouped}
use Rattle.window_grouper.proofs.Covers.{covers-true, is_covered-earlier, precedes_time, all_filter}

-- ---- filters

filter_all : (p : Summary → Bool) (P : Summary → Type 0) → (l : List Summary) → AllByRecursion P l → AllByRecursion P (filter p l)
filter_all p P [] h = tt
filter_all p P (s ∷ l) h =
    ⊎_elim
    (λ (yes : p s ≡ true). rw yes (h.0, filter_all p P l h.1))
    (λ (no : p s ≡ false). rw no (filter_all p P l h.1))
    (cases_Bool (p s))

filter_after : (at : Stamp) (p : Summary → Bool) (l : List Summary) → PrecedesAll at l → PrecedesAll at (filter p l)
filter_after at p [] h = tt
filter_after at p (s ∷ l) h =
    ⊎_elim
    (λ (yes : p s ≡ true). rw yes (h.0, filter_after at p l h.1))
    (λ (no : p s ≡ false). rw no (filter_after at p l h.1))
    (cases_Bool (p s))

filter_ordered : (p : Summary → Bool) (l : List Summary) → InStampOrder l → InStampOrder (filter p l)
filter_ordered p [] h = tt
filter_ordered p (s ∷ l) h =
    ⊎_elim
    (λ (yes : p s ≡ true). rw yes (filter_after s.at p l h.0, filter_ordered p l h.1))
    (λ (no : p s ≡ false). rw no (filter_ordered p l h.1))
    (cases_Bool (p s))

-- ---- each group

group_of-IsGroup : (window : ℕ) (s : Summary) (l : List Summary) → InStampOrder (s ∷ l)
    → IsGroup window (record { key = s.key; members = s ∷ filter (covers window s) l })
group_of-IsGroup window s l h = record {
  filled = omega arith;
  one_key = (refl, all_filter (covers window s) (λ t. t.key ≡ s.key) (λ t takes. sym (covers-true window s t takes).key) l);
  ordered = (filter_after s.at (covers window s) l h.0, filter_ordered (covers window s) l h.1);
  within = (omega arith, all_filter (covers window s) (λ t. t.at.time ≤ s.at.time + window) (λ t takes. (covers-true window s t takes).near) l);
}

behind-IsGroup : (window : ℕ) (fs l : List Summary) → InStampOrder l → AllByRecursion (IsGroup window) (groups_behind window fs l)
behind-IsGroup window fs [] h = tt
behind-IsGroup window fs (s ∷ l) h =
    ⊎_elim
    (λ (covered : is_covered window fs s ≡ true). rw covered (behind-IsGroup window fs l h.1))
    (λ (free : is_covered window fs s ≡ false). rw free (group_of-IsGroup window s l h, behind-IsGroup window (s ∷ fs) l h.1))
    (cases_Bool (is_covered window fs s))

-- what is true of all summaries is true of the members of each group
pub behind_each : (window : ℕ) (P : Summary → Type 0) → (fs l : List Summary) → AllByRecursion P l
    → AllByRecursion (λ g. AllByRecursion P g.members) (groups_behind window fs l)
behind_each window P fs [] h = tt
behind_each window P fs (s ∷ l) h =
    ⊎_elim
    (λ (covered : is_covered window fs s ≡ true). rw covered (behind_each window P fs l h.1))
    (λ (free : is_covered window fs s ≡ false). rw free ((h.0, filter_all (covers window s) P l h.1), behind_each window P (s ∷ fs) l h.1))
    (cases_Bool (is_covered window fs s))

-- ---- how many members there are

-- the summaries of l that no first takes
abbrev free_of : ℕ → List Summary → List Summary → List Summary
free_of window fs l = filter (λ s. not (is_covered window fs s)) l

free-split : (window : ℕ) (fs : List Summary) (f : Summary) (l : List Summary) → is_covered window fs f ≡ false → PrecedesAll f.at l
    → length (filter (covers window f) l) + length (free_of window (f ∷ fs) l) ≡ length (free_of window fs l)
free-split window fs f [] free later = refl
free-split window fs f (s ∷ l) free later =
    let rest = free-split window fs f l free later.1 in
    ⊎_elim
    (λ (taken : covers window f s ≡ true).
    let uncovered : is_covered window fs s ≡ false =
    is_covered-earlier window fs f s (covers-true window f s taken).key (precedes_time f s later.0) free in
    rw (taken, uncovered) (omega (arith, rest)))
    (λ (past : covers window f s ≡ false).
    ⊎_elim
    (λ (covered : is_covered window fs s ≡ true). rw (past, covered) rest)
    (λ (uncovered : is_covered window fs s ≡ false). rw (past, uncovered) (omega (arith, rest)))
    (cases_Bool (is_covered window fs s)))
    (cases_Bool (covers window f s))

behind-members_in : (window : ℕ) (fs l : List Summary) → InStampOrder l → members_in (groups_behind window fs l) ≡ length (free_of window fs l)
behind-members_in window fs [] h = refl
behind-members_in window fs (s ∷ l) h =
    ⊎_elim
    (λ (covered : is_covered window fs s ≡ true). rw covered (behind-members_in window fs l h.1))
    (λ (free : is_covered window fs s ≡ false).
    let rest = behind-members_in window (s ∷ fs) l h.1 in
    let split = free-split window fs s l free h.0 in
    let g : Copies = record { key = s.key; members = s ∷ filter (covers window s) l } in
    let cons : members_in (g ∷ groups_behind window (s ∷ fs) l) ≡ length g.members + members_in (groups_behind window (s ∷ fs) l) =
    sum_by-cons (λ (k : Copies). length k.members) g (groups_behind window (s ∷ fs) l) in
    rw free (omega (arith, cons, rest, split)))
    (cases_Bool (is_covered window fs s))

free_of-none : (window : ℕ) (l : List Summary) → free_of window [] l ≡ l
free_of-none window [] = refl
free_of-none window (s ∷ l) = ap (λ (k : List Summary). s ∷ k) (free_of-none window l)

pub all_grouped : (window : ℕ) (l : List Summary) → AllGrouped window l
all_grouped window l h =
    (behind-IsGroup window [] l h, behind-members_in window [] l h ∙ ap (λ (k : List Summary). length k) (free_of-none window l))

-- groups that were given out, and those that were not, have together as many members as there are summaries
pub members_in-given : (window : ℕ) (l : List Summary) (given rest : List Copies) → InStampOrder l → groups_of window l ≡ given ++ rest
    → members_in given + members_in rest ≡ length l
members_in-given window l given rest h e =
    sym (sum_by-append (λ (k : Copies). length k.members) given rest)
    ∙ ap members_in (sym e) ∙ (all_grouped window l h).1
