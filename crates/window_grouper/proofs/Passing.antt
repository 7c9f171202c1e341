-- Summaries in stamp order, and those of them that come no more.
use Rattle.std.proofs.Common.{ℕ, Bool, true, false, List, [], ◌∷◌, ◌++◌, ◌≡◌, ◌≤◌, ◌<◌, refl, sym, ap, subst, ◌∙◌, ⊎_elim, inl, inr}
use Rattle.std.specs.List.{AllByRecursion}
use Rattle.std.proofs.lemmas.Bool.{cases_Bool, both_ways, cases_lt}
use Rattle.std.proofs.lemmas.List.{append_assoc, append-nil}
use Rattle.ds_base.specs.Fronts.{upto, onward}
use Rattle.ds_base.specs.Order.{InStampOrder}
use Rattle.ds_base.specs.declared.summary.Summary.{Summary}
use Rattle.window_grouper.specs.Closed.{IsBound, AreLate}
use Rattle.window_grouper.specs.Sorted.{DiffersFromAll, StampsDiffer, is_before, insert_by_stamp, by_stamp}
use Rattle.window_grouper.proofs.Covers.{not_before}
use Rattle.window_grouper.proofs.Insertion.{by_stamp-push, differ-parts}
use Rattle.window_grouper.proofs.Later.{fails_later}
use Rattle.window_grouper.proofs.Stamps.{before_time}

-- the summary's time passes
abbrev pub at_time : (ℕ → Bool) → Summary → Bool
at_time p s = p s.at.time

pub parted_list : (p : Summary → Bool) (l : List Summary) → upto p l ++ onward p l ≡ l
parted_list p [] = refl
parted_list p (s ∷ l) =
    ⊎_elim
    (λ (yes : p s ≡ true). rw yes (ap (λ (k : List Summary). s ∷ k) (parted_list p l)))
    (λ (no : p s ≡ false). rw no refl)
    (cases_Bool (p s))

-- ---- a further test, which all pass that passed the first

pub upto_split : (p q : Summary → Bool) (l : List Summary) → ((s : Summary) → p s ≡ true → q s ≡ true)
    → upto q l ≡ upto p l ++ upto q (onward p l)
upto_split p q [] more = refl
upto_split p q (s ∷ l) more =
    ⊎_elim
    (λ (yes : p s ≡ true).
    let also : q s ≡ true = more s yes in
    rw (yes, also) (ap (λ (k : List Summary). s ∷ k) (upto_split p q l more)))
    (λ (no : p s ≡ false). rw no refl)
    (cases_Bool (p s))

pub onward_split : (p q : Summary → Bool) (l : List Summary) → ((s : Summary) → p s ≡ true → q s ≡ true)
    → onward q l ≡ onward q (onward p l)
onward_split p q [] more = refl
onward_split p q (s ∷ l) more =
    ⊎_elim
    (λ (yes : p s ≡ true).
    let also : q s ≡ true = more s yes in
    rw (yes, also) (onward_split p q l more))
    (λ (no : p s ≡ false). rw no refl)
    (cases_Bool (p s))

-- ---- a list in stamp order

all_late : (p : ℕ → Bool) (t : ℕ) (l : List Summary) → IsBound p → p t ≡ false → AllByRecursion (λ s. t ≤ s.at.time) l → AreLate p l
all_late p t [] bound h up = tt
all_late p t (s ∷ l) bound h up = (fails_later p t s.at.time bound up.0 h, all_late p t l bound h up.1)

-- what comes after a summary that fails fails
pub onward_late : (p : ℕ → Bool) (l : List Summary) → IsBound p → InStampOrder l → AreLate p (onward (at_time p) l)
onward_late p [] bound h = tt
onward_late p (s ∷ l) bound h =
    ⊎_elim
    (λ (yes : p s.at.time ≡ true). rw yes (onward_late p l bound h.1))
    (λ (no : p s.at.time ≡ false). rw no (no, all_late p s.at.time l bound no (not_before s l h.0)))
    (cases_Bool (p s.at.time))

pub upto_late : (p : ℕ → Bool) (q : Summary → Bool) (l : List Summary) → AreLate p l → AreLate p (upto q l)
upto_late p q [] h = tt
upto_late p q (s ∷ l) h =
    ⊎_elim
    (λ (yes : q s ≡ true). rw yes (h.0, upto_late p q l h.1))
    (λ (no : q s ≡ false). rw no tt)
    (cases_Bool (q s))

-- ---- one summary more, which fails

pub upto-insert : (p : ℕ → Bool) (s : Summary) (l : List Summary) → IsBound p → p s.at.time ≡ false
    → upto (at_time p) (insert_by_stamp s l) ≡ upto (at_time p) l
upto-insert p s [] bound late = rw late refl
upto-insert p s (x ∷ l) bound late =
    ⊎_elim
    (λ (before : is_before s.at x.at ≡ true).
    let past : p x.at.time ≡ false = fails_later p s.at.time x.at.time bound (before_time s.at x.at before) late in
    rw (before, late, past) refl)
    (λ (after : is_before s.at x.at ≡ false).
    ⊎_elim
    (λ (yes : p x.at.time ≡ true). rw (after, yes) (ap (λ (k : List Summary). x ∷ k) (upto-insert p s l bound late)))
    (λ (no : p x.at.time ≡ false). rw (after, no) refl)
    (cases_Bool (p x.at.time)))
    (cases_Bool (is_before s.at x.at))

pub onward-insert : (p : ℕ → Bool) (s : Summary) (l : List Summary) → IsBound p → p s.at.time ≡ false
    → onward (at_time p) (insert_by_stamp s l) ≡ insert_by_stamp s (onward (at_time p) l)
onward-insert p s [] bound late = rw late refl
onward-insert p s (x ∷ l) bound late =
    ⊎_elim
    (λ (before : is_before s.at x.at ≡ true).
    let past : p x.at.time ≡ false = fails_later p s.at.time x.at.time bound (before_time s.at x.at before) late in
    rw (before, late, past, before) refl)
    (λ (after : is_before s.at x.at ≡ false).
    ⊎_elim
    (λ (yes : p x.at.time ≡ true). rw (after, yes) (onward-insert p s l bound late))
    (λ (no : p x.at.time ≡ false). rw (after, no, after) refl)
    (cases_Bool (p x.at.time)))
    (cases_Bool (is_before s.at x.at))

-- what differs from all that fail, and fails, differs from all
pub differs_whole : (p : ℕ → Bool) (s : Summary) (l : List Summary) → IsBound p → p s.at.time ≡ false
    → DiffersFromAll s.at (onward (at_time p) l) → DiffersFromAll s.at l
differs_whole p s [] bound late h = tt
differs_whole p s (x ∷ l) bound late h =
    ⊎_elim
    (λ (yes : p x.at.time ≡ true).
    let rest : DiffersFromAll s.at (onward (at_time p) l) = rw yes at h in
    let earlier : x.at.time < s.at.time = ⊎_elim
    (λ (below : x.at.time < s.at.time). below)
    (λ (up : s.at.time ≤ x.at.time). absurd (both_ways (p s.at.time) late (bound s.at.time x.at.time up yes)))
    (cases_lt x.at.time s.at.time) in
    (inr (inl earlier), differs_whole p s l bound late rest))
    (λ (no : p x.at.time ≡ false).
    let all : DiffersFromAll s.at (x ∷ l) = rw no at h in
    all)
    (cases_Bool (p x.at.time))

-- ---- summaries that are added later

step_back : (added : List Summary) (s : Summary) (later : List Summary) → (added ++ s ∷ []) ++ later ≡ added ++ (s ∷ later)
step_back added s later = append_assoc added (s ∷ []) later

differ_front : (l later : List Summary) → StampsDiffer (l ++ later) → StampsDiffer l
differ_front l [] h = subst StampsDiffer (append-nil l) h
differ_front l (s ∷ later) h = (differ-parts l s (differ_front (l ++ s ∷ []) later (subst StampsDiffer (sym (step_back l s later)) h))).0

-- the front of what comes no more stays as it is
pub upto_more : (p : ℕ → Bool) (added later : List Summary) → IsBound p → AreLate p later → StampsDiffer (added ++ later)
    → upto (at_time p) (by_stamp (added ++ later)) ≡ upto (at_time p) (by_stamp added)
upto_more p added [] bound late h = ap (λ (l : List Summary). upto (at_time p) (by_stamp l)) (append-nil added)
upto_more p added (s ∷ later) bound late h =
    let h' : StampsDiffer ((added ++ s ∷ []) ++ later) = subst StampsDiffer (sym (step_back added s later)) h in
    ap (λ (l : List Summary). upto (at_time p) (by_stamp l)) (sym (step_back added s later))
    ∙ upto_more p (added ++ s ∷ []) later bound late.1 h'
    ∙ ap (upto (at_time p)) (by_stamp-push added s (differ_front (added ++ s ∷ []) later h'))
    ∙ upto-insert p s (by_stamp added) bound late.0
