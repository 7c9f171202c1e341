-- How a summary is placed, and a group given out, while other groups are held.
use Rattle.std.proofs.Common.{ℕ, zero, suc, true, false, List, [], ◌∷◌, ◌++◌, ◌≡◌, ◌≤◌, ◌<◌, ◌+◌, Some, refl, sym, ap, subst, ◌∙◌, arith, ⊎_elim, map, take, length, cond, Bool}
use Rattle.std.specs.Prelude.{slice_get}
use Rattle.std.specs.List.{AllByRecursion, list_any}
use Rattle.std.proofs.lemmas.Bool.{cases_Bool}
use Rattle.std.proofs.lemmas.List.{take_more, take_all, append_assoc}
use Rattle.std.proofs.lemmas.Option.{get_or_from_slice_get, slice_get_within}
use Rattle.ds_base.specs.Copies.{Copies}
use Rattle.ds_base.specs.Order.{PrecedesAll, InStampOrder}
use Rattle.ds_base.specs.declared.summary.Summary.{Summary}
use Rattle.window_grouper.specs.Groups.{members_of, groups_of, IsGroup}
use Rattle.window_grouper.specs.Cut.{firsts}
use Rattle.window_grouper.specs.Open.{Open, HasPlaced}
use Rattle.window_grouper.specs.Over.{EndsBefore, IsOver, BegunBy}
use Rattle.window_grouper.specs.Placing.{takes, single, grown, placed, HaveBegun}
use Rattle.window_grouper.proofs.Covers.{precedes_time}
use Rattle.window_grouper.proofs.Members.{behind_each, all_grouped}
use Rattle.window_grouper.proofs.Pass.{groups_of-push}
use Rattle.window_grouper.proofs.Placed.{over_takes_not}

-- ---- one more summary

cons_within : (b : Bool) (g : Copies) (gs : List Copies) (k : Copies) → cond b (g ∷ gs) ((g ∷ gs) ++ k ∷ []) ≡ g ∷ cond b gs (gs ++ k ∷ [])
cons_within true g gs k = refl
cons_within false g gs k = refl

-- groups that do not take a summary stay as they are
pub placed-append : (window : ℕ) (s : Summary) (given held : List Copies) → AllByRecursion (λ g. takes window g s ≡ false) given
    → placed window s (given ++ held) ≡ given ++ placed window s held
placed-append window s [] held past = refl
placed-append window s (g ∷ given) held past =
    let own : takes window g s ≡ false = past.0 in
    let gs : List Copies = given ++ held in
    rw own
    (cons_within (list_any (λ k. takes window k s) gs) g (map (grown window s) gs) (single s)
    ∙ ap (λ (ks : List Copies). g ∷ ks) (placed-append window s given held past.1))

-- groups that are over take nothing
over_past : (window time : ℕ) (s : Summary) (given : List Copies) → AllByRecursion (IsOver window time) given → time ≤ s.at.time
    → AllByRecursion (λ g. takes window g s ≡ false) given
over_past window time s [] over later = tt
over_past window time s (g ∷ given) over later =
    let own : takes window g s ≡ false = ⊎_elim
    (λ (yes : takes window g s ≡ true). absurd (over_takes_not window time g.key g.members s over.0 later yes))
    (λ (no : takes window g s ≡ false). no)
    (cases_Bool (takes window g s)) in
    (own, over_past window time s given over.1 later)

no_later : (front : List Summary) (s : Summary) → InStampOrder (front ++ s ∷ []) → AllByRecursion (λ t. t.at.time ≤ s.at.time) front
no_later [] s h = tt
no_later (t ∷ front) s h = (before t front h.0, no_later front s h.1) where
  before : (t : Summary) (l : List Summary) → PrecedesAll t.at (l ++ s ∷ []) → t.at.time ≤ s.at.time
  before t [] h = precedes_time t s h.0
  before t (u ∷ l) h = before t l h.1

ordered_front : (front : List Summary) (s : Summary) → InStampOrder (front ++ s ∷ []) → InStampOrder front
ordered_front [] s h = tt
ordered_front (t ∷ front) s h = (before front h.0, ordered_front front s h.1) where
  before : (l : List Summary) → PrecedesAll t.at (l ++ s ∷ []) → PrecedesAll t.at l
  before [] h = tt
  before (u ∷ l) h = (h.0, before l h.1)

begun_by : (time : ℕ) (m : List Summary) → 0 < length m → AllByRecursion (λ t. t.at.time ≤ time) m → BegunBy time m
begun_by time [] filled h = omega arith
begun_by time (f ∷ fs) filled h = h.0

all_begun : (window time : ℕ) (gs : List Copies) → AllByRecursion (IsGroup window) gs
    → AllByRecursion (λ g. AllByRecursion (λ t. t.at.time ≤ time) g.members) gs → HaveBegun time gs
all_begun window time [] h k = tt
all_begun window time (g ∷ gs) h k = (begun_by time g.members h.0.filled k.0, all_begun window time gs h.1 k.1)

pub all_behind : (Q : Copies → Type 0) → (given held : List Copies) → AllByRecursion Q (given ++ held) → AllByRecursion Q held
all_behind Q [] held h = h
all_behind Q (g ∷ given) held h = all_behind Q given held h.1

-- the groups that are held began no later than the next summary
pub have_begun : (window : ℕ) (front : List Summary) (given held : List Copies) (s : Summary) → InStampOrder (front ++ s ∷ [])
    → groups_of window front ≡ given ++ held → HaveBegun s.at.time held
have_begun window front given held s ordered e =
    all_behind (λ g. BegunBy s.at.time g.members) given held (subst (HaveBegun s.at.time) e
    (all_begun window s.at.time (groups_of window front) (all_grouped window front (ordered_front front s ordered)).0
    (behind_each window (λ t. t.at.time ≤ s.at.time) [] front (no_later front s ordered))))

pub placed_more : (old new : Open) (s : Summary) → new.window ≡ old.window
    → (HaveBegun s.at.time old.held → new.held ≡ placed old.window s old.held)
    → (window : ℕ) (front : List Summary) (given : List Copies) (time : ℕ) → HasPlaced old window front given time
    → time ≤ s.at.time → InStampOrder (front ++ s ∷ []) → HasPlaced new window (front ++ s ∷ []) given time
placed_more old new s same held window front given time before later ordered = record {
  one_window = same ∙ before.one_window;
  groups = groups_of-push window front s ∙ ap (placed window s) before.groups
      ∙ placed-append window s given old.held (over_past window time s given before.over later)
      ∙ ap (λ (w : ℕ). given ++ placed w s old.held) (sym before.one_window)
      ∙ ap (λ (gs : List Copies). given ++ gs) (sym (held (have_begun window front given old.held s ordered before.groups)));
  over = before.over;
}

-- ---- one more group

over_later : (window before time : ℕ) (m : List Summary) → before ≤ time → EndsBefore window before m → EndsBefore window time m
over_later window before time [] later h = absurd h
over_later window before time (f ∷ fs) later h = omega arith

all_over : (window before time : ℕ) (given : List Copies) → before ≤ time → AllByRecursion (IsOver window before) given
    → AllByRecursion (IsOver window time) given
all_over window before time [] later h = tt
all_over window before time (g ∷ given) later h = (over_later window before time g.members later h.0, all_over window before time given later h.1)

over_push : (window time : ℕ) (given : List Copies) (g : Copies) → AllByRecursion (IsOver window time) given → IsOver window time g
    → AllByRecursion (IsOver window time) (given ++ g ∷ [])
over_push window time [] g h k = (k, tt)
over_push window time (x ∷ given) g h k = (h.0, over_push window time given g h.1 k)

-- time has passed, and no group was given out
pub placed_later : (now : Open) (window : ℕ) (front : List Summary) (given : List Copies) (before time : ℕ)
    → HasPlaced now window front given before → before ≤ time → HasPlaced now window front given time
placed_later now window front given before time h later = record {
  one_window = h.one_window;
  groups = h.groups;
  over = all_over window before time given later h.over;
}

-- the first group was given out
pub placed_given : (old new : Open) (g : Copies) (time : ℕ) → new.window ≡ old.window → old.held ≡ g ∷ new.held → IsOver old.window time g
    → (window : ℕ) (front : List Summary) (given : List Copies) (before : ℕ) → HasPlaced old window front given before → before ≤ time
    → HasPlaced new window front (given ++ g ∷ []) time
placed_given old new g time same held over window front given before h later = record {
  one_window = same ∙ h.one_window;
  groups = h.groups ∙ ap (λ (gs : List Copies). given ++ gs) held ∙ sym (append_assoc given (g ∷ []) new.held);
  over = over_push window time given g (all_over window before time given later h.over)
      (subst (λ (w : ℕ). IsOver w time g) h.one_window over);
}

-- ---- what is held

pub ordered_held : (given held : List Copies) → InStampOrder (firsts (members_of (given ++ held))) → InStampOrder (firsts (members_of held))
ordered_held [] held h = h
ordered_held (g ∷ given) held h = ordered_held given held (tail g.members (members_of (given ++ held)) h) where
  tail : (m : List Summary) (ms : List (List Summary)) → InStampOrder (firsts (m ∷ ms)) → InStampOrder (firsts ms)
  tail [] ms h = h
  tail (s ∷ ss) ms h = h.1

-- ---- a whole list

ordered_take : (n : ℕ) (l : List Summary) → InStampOrder l → InStampOrder (take n l)
ordered_take zero l h = tt
ordered_take (suc n) [] h = tt
ordered_take (suc n) (s ∷ l) h = (before n l h.0, ordered_take n l h.1) where
  before : (n : ℕ) (l : List Summary) → PrecedesAll s.at l → PrecedesAll s.at (take n l)
  before zero l h = tt
  before (suc n) [] h = tt
  before (suc n) (u ∷ l) h = (h.0, before n l h.1)

pub take_next : (l : List Summary) (i : ℕ) (s : Summary) → slice_get l i ≡ Some s → take (i + 1) l ≡ take i l ++ s ∷ []
take_next l i s at =
    take_more l i s (slice_get_within l i s at) ∙ ap (λ (t : Summary). take i l ++ t ∷ []) (get_or_from_slice_get l i s s at)

pub ordered_next : (l : List Summary) (i : ℕ) (s : Summary) → InStampOrder l → slice_get l i ≡ Some s → InStampOrder (take i l ++ s ∷ [])
ordered_next l i s h at = subst InStampOrder (take_next l i s at) (ordered_take (i + 1) l h)

-- once all summaries were placed, and no group was given out, all groups are held
pub placed_all : (l : List Summary) (i : ℕ) (now : Open) (window time : ℕ) → length l ≤ i → HasPlaced now window (take i l) [] time
    → groups_of window l ≡ now.held
placed_all l i now window time long h = ap (groups_of window) (sym (take_all i l long)) ∙ h.groups
