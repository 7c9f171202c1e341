-- The lists that a grouper stands for, where a summary is added, marks rise and a group is given out.
use Rattle.std.proofs.Common.{ℕ, Bool, true, false, List, [], ◌∷◌, ◌++◌, ◌≡◌, ◌≤◌, ◌<◌, ◌+◌, ◌-◌, Option, Some, None, refl, sym, ap, subst, ◌∙◌, arith, ⊎_elim, length, map}
use Rattle.std.specs.List.{AllByRecursion, list_any}
use Rattle.std.proofs.lemmas.Bool.{cases_Bool, both_ways, and_parts, leb-true, ltb-false}
use Rattle.std.proofs.lemmas.List.{append_assoc, append-nil, length-append}
use Rattle.ds_base.specs.Copies.{Copies}
use Rattle.ds_base.specs.Fronts.{upto, onward}
use Rattle.ds_base.specs.Order.{PrecedesAll, InStampOrder}
use Rattle.ds_base.specs.declared.stamp.Stamp.{Stamp}
use Rattle.ds_base.specs.declared.summary.Summary.{Summary}
use Rattle.watermarks.specs.Least.{least_mark, under}
use Rattle.watermarks.proofs.Lesser.{under_earlier, allowed_late}
use Rattle.window_grouper.specs.Closed.{IsBound, is_closed, ends_by, AreLate}
use Rattle.window_grouper.specs.Cut.{firsts}
use Rattle.window_grouper.specs.Groups.{groups_of, members_of, same_key, IsGroup}
use Rattle.window_grouper.specs.Grouping.{Grouping, is_past, MayCome, placed_all, marked, with_summary, with_group, StandsFor, IsSettled, NoneClosed, ClosedInFront, HeldOnce, StampsApart, BeginsFrom, OthersFrom}
use Rattle.window_grouper.specs.Placing.{members_take, takes, single, grown, placed}
use Rattle.window_grouper.specs.Sorted.{DiffersFromAll, StampsDiffer, insert_by_stamp, by_stamp}
use Rattle.window_grouper.proofs.Covers.{precedes_time, groups_of-IsGroups}
use Rattle.window_grouper.proofs.GivenOut.{placed-append, all_behind, ordered_held}
use Rattle.window_grouper.proofs.Insertion.{by_stamp-push, in_order-by_stamp, differ-parts, differs-by_stamp, length-by_stamp}
use Rattle.window_grouper.proofs.Later.{closed_stay, fails_later}
use Rattle.window_grouper.proofs.Members.{all_grouped, members_in-given}
use Rattle.window_grouper.proofs.Pass.{groups_of-push}
use Rattle.window_grouper.proofs.Passing.{at_time, parted_list, upto_split, onward_split, onward_late, upto_late, upto-insert, onward-insert, upto_more}

pub past_bound : (marks : List (Option ℕ)) → IsBound (is_past marks)
past_bound marks t u up h = under_earlier (least_mark marks) t u up h

-- ---- groups that summaries are placed in, one after another

pub groups_of-append : (window : ℕ) (xs ys : List Summary) → groups_of window (xs ++ ys) ≡ placed_all window (groups_of window xs) ys
groups_of-append window xs [] = ap (groups_of window) (append-nil xs)
groups_of-append window xs (s ∷ ys) =
    ap (groups_of window) (sym (append_assoc xs (s ∷ []) ys))
    ∙ groups_of-append window (xs ++ s ∷ []) ys
    ∙ ap (λ (gs : List Copies). placed_all window gs ys) (groups_of-push window xs s)

pub placed_all-append : (window : ℕ) (gs : List Copies) (xs ys : List Summary)
    → placed_all window gs (xs ++ ys) ≡ placed_all window (placed_all window gs xs) ys
placed_all-append window gs [] ys = refl
placed_all-append window gs (s ∷ xs) ys = placed_all-append window (placed window s gs) xs ys

closed_takes_not : (p : ℕ → Bool) (window : ℕ) (key : List ℕ) (m : List Summary) (s : Summary) → IsBound p → p s.at.time ≡ false
    → ends_by p window m ≡ true → members_take window key m s ≡ false
closed_takes_not p window key [] s bound late h = refl
closed_takes_not p window key (f ∷ fs) s bound late h =
    ⊎_elim
    (λ (yes : members_take window key (f ∷ fs) s ≡ true).
    let near : s.at.time ≤ f.at.time + window =
    leb-true s.at.time (f.at.time + window) (and_parts (same_key key s.key) _ yes).1 in
    absurd (both_ways (p s.at.time) late (bound s.at.time (f.at.time + window) near h)))
    (λ (no : members_take window key (f ∷ fs) s ≡ false). no)
    (cases_Bool (members_take window key (f ∷ fs) s))

closed_past : (p : ℕ → Bool) (window : ℕ) (s : Summary) (given : List Copies) → IsBound p → p s.at.time ≡ false
    → AllByRecursion (λ g. is_closed p window g ≡ true) given → AllByRecursion (λ g. takes window g s ≡ false) given
closed_past p window s [] bound late h = tt
closed_past p window s (g ∷ given) bound late h =
    (closed_takes_not p window g.key g.members s bound late h.0, closed_past p window s given bound late h.1)

-- closed groups stay as they are
placed_all-given : (p : ℕ → Bool) (window : ℕ) (given held : List Copies) (later : List Summary) → IsBound p → AreLate p later
    → AllByRecursion (λ g. is_closed p window g ≡ true) given → placed_all window (given ++ held) later ≡ given ++ placed_all window held later
placed_all-given p window given held [] bound late h = refl
placed_all-given p window given held (s ∷ later) bound late h =
    ap (λ (gs : List Copies). placed_all window gs later) (placed-append window s given held (closed_past p window s given bound late.0 h))
    ∙ placed_all-given p window given (placed window s held) later bound late.1 h

-- ---- a summary is added

pub stands_added : (now : Grouping) (s : Summary) (window : ℕ) (added : List Summary) (given : List Copies) → MayCome now.marks s.at
    → StandsFor now window added given → StampsDiffer (added ++ s ∷ []) → StandsFor (with_summary s now) window (added ++ s ∷ []) given
stands_added now s window added given may h differ =
    let p = is_past now.marks in
    let late : p s.at.time ≡ false = allowed_late now.marks s.at.capture s.at.time may in
    let pushed = by_stamp-push added s differ in
    record {
      one_window = h.one_window;
      differ = differ;
      groups = ap (λ (l : List Summary). groups_of window (upto (at_time p) l)) pushed
          ∙ ap (groups_of window) (upto-insert p s (by_stamp added) (past_bound now.marks) late) ∙ h.groups;
      later = ap (onward (at_time p)) pushed ∙ onward-insert p s (by_stamp added) (past_bound now.marks) late
          ∙ ap (insert_by_stamp s) h.later;
      closed = h.closed;
    }

-- ---- marks rise

closed_more : (p q : ℕ → Bool) (window : ℕ) (given : List Copies) → ((t : ℕ) → p t ≡ true → q t ≡ true)
    → AllByRecursion (λ g. is_closed p window g ≡ true) given → AllByRecursion (λ g. is_closed q window g ≡ true) given
closed_more p q window [] more h = tt
closed_more p q window (g ∷ given) more h = (by_members g.members h.0, closed_more p q window given more h.1) where
  by_members : (m : List Summary) → ends_by p window m ≡ true → ends_by q window m ≡ true
  by_members [] e = refl
  by_members (f ∷ fs) e = more (f.at.time + window) e

pub stands_marked : (now : Grouping) (marks : List (Option ℕ)) (window : ℕ) (added : List Summary) (given : List Copies)
    → ((t : ℕ) → is_past now.marks t ≡ true → is_past marks t ≡ true) → StandsFor now window added given
    → StandsFor (marked marks now) window added given
stands_marked now marks window added given more h =
    let p = at_time (is_past now.marks) in
    let q = at_time (is_past marks) in
    let l = by_stamp added in
    let late : AreLate (is_past now.marks) (onward p l) = onward_late (is_past now.marks) l (past_bound now.marks) (in_order-by_stamp added h.differ) in
    record {
      one_window = h.one_window;
      differ = h.differ;
      groups = ap (groups_of window) (upto_split p q l (λ s. more s.at.time))
          ∙ groups_of-append window (upto p l) (upto q (onward p l))
          ∙ ap (λ (gs : List Copies). placed_all window gs (upto q (onward p l))) h.groups
          ∙ placed_all-given (is_past now.marks) window given now.held (upto q (onward p l)) (past_bound now.marks)
          (upto_late (is_past now.marks) q (onward p l) late) h.closed
          ∙ ap (λ (ss : List Summary). given ++ placed_all window now.held (upto q ss)) h.later
          ∙ ap (λ (w : ℕ). given ++ placed_all w now.held (upto q now.waiting)) (sym h.one_window);
      later = onward_split p q l (λ s. more s.at.time) ∙ ap (onward q) h.later;
      closed = closed_more (is_past now.marks) (is_past marks) window given more h.closed;
    }

-- ---- a group is given out

closed_push : (p : ℕ → Bool) (window : ℕ) (given : List Copies) (g : Copies) → AllByRecursion (λ k. is_closed p window k ≡ true) given
    → is_closed p window g ≡ true → AllByRecursion (λ k. is_closed p window k ≡ true) (given ++ g ∷ [])
closed_push p window [] g h own = (own, tt)
closed_push p window (k ∷ given) g h own = (h.0, closed_push p window given g h.1 own)

pub stands_given : (now : Grouping) (g : Copies) (window : ℕ) (added : List Summary) (given : List Copies)
    → is_closed (is_past now.marks) now.window g ≡ true → StandsFor (with_group g now) window added given
    → StandsFor now window added (given ++ g ∷ [])
stands_given now g window added given own h = record {
  one_window = h.one_window;
  differ = h.differ;
  groups = h.groups ∙ sym (append_assoc given (g ∷ []) now.held);
  later = h.later;
  closed = closed_push (is_past now.marks) window given g h.closed
      (subst (λ (w : ℕ). is_closed (is_past now.marks) w g ≡ true) h.one_window own);
}

-- ---- what is closed

upto_given : (p : Copies → Bool) (given held : List Copies) → AllByRecursion (λ g. p g ≡ true) given → upto p (given ++ held) ≡ given ++ upto p held
upto_given p [] held h = refl
upto_given p (g ∷ given) held h = let own : p g ≡ true = h.0 in rw own (ap (λ (gs : List Copies). g ∷ gs) (upto_given p given held h.1))

in_parts : (now : Grouping) (window : ℕ) (added : List Summary) (given : List Copies) (later : List Summary) → StandsFor now window added given
    → AreLate (is_past now.marks) later → StampsDiffer (added ++ later)
    → groups_of window (by_stamp (added ++ later))
    ≡ groups_of window (upto (at_time (is_past now.marks)) (by_stamp added) ++ onward (at_time (is_past now.marks)) (by_stamp (added ++ later)))
in_parts now window added given later h late differ =
    let p = at_time (is_past now.marks) in
    let l = by_stamp (added ++ later) in
    ap (groups_of window) (sym (parted_list p l))
    ∙ ap (λ (front : List Summary). groups_of window (front ++ onward p l)) (upto_more (is_past now.marks) added later (past_bound now.marks) late differ)

still_late : (marks : List (Option ℕ)) (l : List Summary) → StampsDiffer l → AreLate (is_past marks) (onward (at_time (is_past marks)) (by_stamp l))
still_late marks l differ = onward_late (is_past marks) (by_stamp l) (past_bound marks) (in_order-by_stamp l differ)

pub closed_in_front : (now : Grouping) (window : ℕ) (added : List Summary) (given : List Copies) (later : List Summary)
    → ClosedInFront now window added given later
closed_in_front now window added given later h late differ =
    let p = is_past now.marks in
    ap (upto (is_closed p window)) (in_parts now window added given later h late differ)
    ∙ closed_stay p window (upto (at_time p) (by_stamp added)) (onward (at_time p) (by_stamp (added ++ later))) (past_bound now.marks)
    (still_late now.marks (added ++ later) differ)
    ∙ ap (upto (is_closed p window)) h.groups
    ∙ upto_given (is_closed p window) given now.held h.closed

-- once all captures have ended, all groups are those given and those held
upto_all : (l : List Summary) → upto (λ s. true) l ≡ l
upto_all [] = refl
upto_all (s ∷ l) = ap (λ (k : List Summary). s ∷ k) (upto_all l)

pub stands_ended : (now : Grouping) (window : ℕ) (added : List Summary) (given : List Copies) → StandsFor now window added given
    → least_mark now.marks ≡ None → now.held ≡ [] → groups_of window (by_stamp added) ≡ given
stands_ended now window added given h ended none =
    let whole : upto (at_time (is_past now.marks)) (by_stamp added) ≡ by_stamp added =
    ap (λ (m : Option ℕ). upto (λ s. under m s.at.time) (by_stamp added)) ended ∙ upto_all (by_stamp added) in
    ap (groups_of window) (sym whole) ∙ h.groups ∙ ap (λ (gs : List Copies). given ++ gs) none ∙ append-nil given

-- where the first group is not closed, no later one is
first_fails : (p : Copies → Bool) (g : Copies) (gs : List Copies) → upto p (g ∷ gs) ≡ [] → p g ≡ false
first_fails p g gs h =
    ⊎_elim
    (λ (yes : p g ≡ true). let cut : g ∷ upto p gs ≡ [] = rw yes at h in absurd (cc))
    (λ (no : p g ≡ false). no)
    (cases_Bool (p g))

none_later : (p : ℕ → Bool) (window : ℕ) (m : List Summary) (gs : List Copies) → IsBound p → 0 < length m → AllByRecursion (IsGroup window) gs
    → InStampOrder (firsts (m ∷ members_of gs)) → ends_by p window m ≡ false → AllByRecursion (λ g. is_closed p window g ≡ false) gs
none_later p window m [] bound filled each ordered h = tt
none_later p window [] (g ∷ gs) bound filled each ordered h = absurd (omega arith)
none_later p window (f ∷ fs) (g ∷ gs) bound filled each ordered h =
    by_members g.members each.0.filled ordered (λ e o. none_later p window g.members gs bound each.0.filled each.1 o e) where
      by_members : (m : List Summary) → 0 < length m → InStampOrder (f ∷ firsts (m ∷ members_of gs))
          → (ends_by p window m ≡ false → InStampOrder (firsts (m ∷ members_of gs)) → AllByRecursion (λ g. is_closed p window g ≡ false) gs)
          → (ends_by p window m ≡ false) × AllByRecursion (λ g. is_closed p window g ≡ false) gs
      by_members [] filled o rest = absurd (omega arith)
      by_members (k ∷ ks) filled o rest =
          let later : f.at.time ≤ k.at.time = precedes_time f k o.0.0 in
          let own : p (k.at.time + window) ≡ false =
          fails_later p (f.at.time + window) (k.at.time + window) bound (omega arith) h in
          (own, rest own o.1)

ordered_upto : (p : Summary → Bool) (l : List Summary) → InStampOrder l → InStampOrder (upto p l)
ordered_upto p [] h = tt
ordered_upto p (s ∷ l) h =
    ⊎_elim
    (λ (yes : p s ≡ true). rw yes (before l h.0, ordered_upto p l h.1))
    (λ (no : p s ≡ false). rw no tt)
    (cases_Bool (p s)) where
      before : (l : List Summary) → PrecedesAll s.at l → PrecedesAll s.at (upto p l)
      before [] o = tt
      before (x ∷ l) o =
          ⊎_elim
          (λ (yes : p x ≡ true). rw yes (o.0, before l o.1))
          (λ (no : p x ≡ false). rw no tt)
          (cases_Bool (p x))

none_held : (p : ℕ → Bool) (window : ℕ) (front : List Summary) (given held : List Copies) → IsBound p → InStampOrder front
    → groups_of window front ≡ given ++ held → upto (is_closed p window) held ≡ [] → AllByRecursion (λ g. is_closed p window g ≡ false) held
none_held p window front given [] bound ordered e first = tt
none_held p window front given (g ∷ gs) bound ordered e first =
    let each : AllByRecursion (IsGroup window) (g ∷ gs) =
    all_behind (IsGroup window) given (g ∷ gs) (subst (AllByRecursion (IsGroup window)) e (all_grouped window front ordered).0) in
    let rises : InStampOrder (firsts (g.members ∷ members_of gs)) =
    ordered_held given (g ∷ gs) (subst (λ (ks : List Copies). InStampOrder (firsts (members_of ks))) e (groups_of-IsGroups window front ordered).ordered) in
    let own : is_closed p window g ≡ false = first_fails (is_closed p window) g gs first in
    (own, none_later p window g.members gs bound each.0.filled each.1 rises own)

pub none_closed : (now : Grouping) (window : ℕ) (added : List Summary) (given : List Copies) → StandsFor now window added given
    → IsSettled now → NoneClosed now
none_closed now window added given h settled =
    none_held (is_past now.marks) now.window (upto (at_time (is_past now.marks)) (by_stamp added)) given now.held (past_bound now.marks)
    (ordered_upto (at_time (is_past now.marks)) (by_stamp added) (in_order-by_stamp added h.differ))
    (subst (λ (w : ℕ). groups_of w (upto (at_time (is_past now.marks)) (by_stamp added)) ≡ given ++ now.held) (sym h.one_window) h.groups)
    settled

-- ---- what is still to come

begins_grown : (t : ℕ) (m : List Summary) (s : Summary) → t ≤ s.at.time → BeginsFrom t m → BeginsFrom t (m ++ s ∷ [])
begins_grown t [] s up h = up
begins_grown t (f ∷ fs) s up h = h

grown_from : (window t : ℕ) (s : Summary) (gs : List Copies) → t ≤ s.at.time → AllByRecursion (λ g. BeginsFrom t g.members) gs
    → AllByRecursion (λ g. BeginsFrom t g.members) (map (grown window s) gs)
grown_from window t s [] up h = tt
grown_from window t s (g ∷ gs) up h =
    ⊎_elim
    (λ (yes : takes window g s ≡ true). rw yes (begins_grown t g.members s up h.0, grown_from window t s gs up h.1))
    (λ (no : takes window g s ≡ false). rw no (h.0, grown_from window t s gs up h.1))
    (cases_Bool (takes window g s))

pushed_from : (t : ℕ) (gs : List Copies) (s : Summary) → t ≤ s.at.time → AllByRecursion (λ g. BeginsFrom t g.members) gs
    → AllByRecursion (λ g. BeginsFrom t g.members) (gs ++ single s ∷ [])
pushed_from t [] s up h = (up, tt)
pushed_from t (g ∷ gs) s up h = (h.0, pushed_from t gs s up h.1)

placed_from : (window t : ℕ) (s : Summary) (gs : List Copies) → t ≤ s.at.time → AllByRecursion (λ g. BeginsFrom t g.members) gs
    → AllByRecursion (λ g. BeginsFrom t g.members) (placed window s gs)
placed_from window t s gs up h =
    ⊎_elim
    (λ (yes : list_any (λ g. takes window g s) gs ≡ true). rw yes (grown_from window t s gs up h))
    (λ (no : list_any (λ g. takes window g s) gs ≡ false). rw no (pushed_from t (map (grown window s) gs) s up (grown_from window t s gs up h)))
    (cases_Bool (list_any (λ g. takes window g s) gs))

placed_all_from : (window m : ℕ) (later : List Summary) (gs : List Copies) → AreLate (under (Some m)) later
    → AllByRecursion (λ g. BeginsFrom (m - window) g.members) gs → AllByRecursion (λ g. BeginsFrom (m - window) g.members) (placed_all window gs later)
placed_all_from window m [] gs late h = h
placed_all_from window m (s ∷ later) gs late h =
    let up : m ≤ s.at.time = ltb-false s.at.time m late.0 in
    placed_all_from window m later (placed window s gs) late.1 (placed_from window (m - window) s gs (omega arith) h)

held_from : (window m : ℕ) (gs : List Copies) → AllByRecursion (λ g. is_closed (under (Some m)) window g ≡ false) gs
    → AllByRecursion (λ g. BeginsFrom (m - window) g.members) gs
held_from window m [] h = tt
held_from window m (g ∷ gs) h = (by_members g.members h.0, held_from window m gs h.1) where
  by_members : (k : List Summary) → ends_by (under (Some m)) window k ≡ false → BeginsFrom (m - window) k
  by_members [] e = tt
  by_members (f ∷ fs) e = let up : m ≤ f.at.time + window = ltb-false (f.at.time + window) m e in omega arith

-- whatever is added later, the groups that were not given out begin at the out mark or later
pub others_from : (now : Grouping) (m window : ℕ) (added : List Summary) (given : List Copies) (later : List Summary)
    → least_mark now.marks ≡ Some m → StandsFor now window added given → IsSettled now → AreLate (is_past now.marks) later → StampsDiffer (added ++ later)
    → OthersFrom (m - window) window (by_stamp (added ++ later)) given
others_from now m window added given later least h settled late differ =
    let p = is_past now.marks in
    let front = upto (at_time p) (by_stamp added) in
    let rest = onward (at_time p) (by_stamp (added ++ later)) in
    let rest_late = still_late now.marks (added ++ later) differ in
    let groups : groups_of window (by_stamp (added ++ later)) ≡ given ++ placed_all window now.held rest =
    in_parts now window added given later h late differ
    ∙ groups_of-append window front rest
    ∙ ap (λ (gs : List Copies). placed_all window gs rest) h.groups
    ∙ placed_all-given p window given now.held rest (past_bound now.marks) rest_late h.closed in
    let none : AllByRecursion (λ g. is_closed (under (Some m)) window g ≡ false) now.held =
    subst (λ (o : Option ℕ). AllByRecursion (λ g. is_closed (under o) window g ≡ false) now.held) least
    (subst (λ (w : ℕ). AllByRecursion (λ g. is_closed p w g ≡ false) now.held) h.one_window (none_closed now window added given h settled)) in (
      placed_all window now.held rest,
      groups,
      placed_all_from window m rest now.held (subst (λ (o : Option ℕ). AreLate (under o) rest) least rest_late) (held_from window m now.held none),
    )

-- ---- what is held

pub held_once : (now : Grouping) (window : ℕ) (added : List Summary) (given : List Copies) → HeldOnce now window added given
held_once now window added given h =
    let p = at_time (is_past now.marks) in
    let l = by_stamp added in
    let ordered : InStampOrder (upto p l) = ordered_upto p l (in_order-by_stamp added h.differ) in
    let placed_here = members_in-given window (upto p l) given now.held ordered h.groups in
    let wait : length (onward p l) ≡ length now.waiting = ap length h.later in
    let parts : length (upto p l ++ onward p l) ≡ length (upto p l) + length (onward p l) = length-append (upto p l) (onward p l) in
    let whole : length (upto p l ++ onward p l) ≡ length l = ap length (parted_list p l) in
    let all = length-by_stamp added in
    omega (arith, placed_here, wait, parts, whole, all)

pub differs_onward : (at : Stamp) (p : Summary → Bool) (l : List Summary) → DiffersFromAll at l → DiffersFromAll at (onward p l)
differs_onward at p [] h = tt
differs_onward at p (s ∷ l) h =
    ⊎_elim
    (λ (yes : p s ≡ true). rw yes (differs_onward at p l h.1))
    (λ (no : p s ≡ false). rw no h)
    (cases_Bool (p s))

pub stamps_apart : (now : Grouping) (window : ℕ) (added : List Summary) (given : List Copies) (s : Summary) → StampsApart now window added given s
stamps_apart now window added given s h differ =
    let parts = differ-parts added s differ in
    subst (DiffersFromAll s.at) h.later
    (differs_onward s.at (at_time (is_past now.marks)) (by_stamp added) (differs-by_stamp s.at added parts.0 parts.1))
