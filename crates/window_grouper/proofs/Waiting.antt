-- The fields of a grouper, where a summary comes to wait, is placed, or a group is given out.
use Rattle.std.proofs.Common.{ℕ, Bool, true, false, List, [], ◌∷◌, ◌++◌, ◌≡◌, ◌≤◌, ◌<◌, Option, Some, None, refl, sym, ap, subst, ◌∙◌, arith, ⊎_elim, length, map, ◌⊎◌, inl, inr}
use Rattle.std.specs.Prelude.{slice_get, is_some, set, get_or, IfSome, IfNone, IsSome, ◌↔◌}
use Rattle.std.specs.BTreeMap.{insert_entry, is_at}
use Rattle.std.specs.Global.{Box}
use Rattle.std.specs.List.{AllByRecursion, list_any}
use Rattle.std.specs.Map.{lookup, values_of}
use Rattle.std.specs.Ordering.{MatchOrdering, is_eq, match_ordering}
use Rattle.std.specs.declared.cmp.Ordering.{Ordering}
use Rattle.std.specs.declared.cmp.Ordering.TheVariants.{Less, Equal, Greater}
use Rattle.std.proofs.lemmas.Bool.{cases_Bool, both_ways, cases_lt}
use Rattle.ds_base.specs.Copies.{Copies}
use Rattle.ds_base.specs.Fronts.{upto, onward}
use Rattle.ds_base.specs.Order.{Precedes, InStampOrder}
use Rattle.ds_base.specs.declared.stamp.Stamp.{Stamp}
use Rattle.ds_base.specs.declared.summary.Summary.{Summary}
use Rattle.watermarks.specs.Least.{least_mark, lesser, under}
use Rattle.watermarks.proofs.Lesser.{allowed_late, least_rises, under_earlier}
use Rattle.window_grouper.specs.Closed.{is_closed}
use Rattle.window_grouper.specs.Grouping.{Grouping, is_past, MayCome, placed_all, marked, with_summary, with_group, StandsFor, IsSettled}
use Rattle.window_grouper.specs.Open.{Open}
use Rattle.window_grouper.specs.Over.{BegunBy}
use Rattle.window_grouper.specs.Placing.{takes, single, grown, placed, HaveBegun}
use Rattle.window_grouper.specs.Sorted.{DiffersFromAll, is_before, insert_by_stamp}
use Rattle.window_grouper.specs.Waiting.{opened, seen, IsTidy, IsKept}
use Rattle.window_grouper.proofs.Covers.{not_before}
use Rattle.window_grouper.proofs.Insertion.{in_order-insert}
use Rattle.window_grouper.proofs.Passing.{at_time, upto_split, onward_split, upto-insert, onward-insert, differs_whole}
use Rattle.window_grouper.proofs.Standing.{past_bound, placed_all-append, stands_given, stands_marked, differs_onward}
use Rattle.window_grouper.proofs.Stamps.{stamp_cmp, cmp_less, cmp_greater, before_true, before_false, IsSame, stamps_ranked}

-- ---- groups that have begun

begun_grown : (u : ℕ) (m : List Summary) (s : Summary) → BegunBy u m → BegunBy u (m ++ s ∷ [])
begun_grown u [] s h = absurd h
begun_grown u (f ∷ fs) s h = h

grown_begun : (window u : ℕ) (s : Summary) (gs : List Copies) → HaveBegun u gs → HaveBegun u (map (grown window s) gs)
grown_begun window u s [] h = tt
grown_begun window u s (g ∷ gs) h =
    ⊎_elim
    (λ (yes : takes window g s ≡ true). rw yes (begun_grown u g.members s h.0, grown_begun window u s gs h.1))
    (λ (no : takes window g s ≡ false). rw no (h.0, grown_begun window u s gs h.1))
    (cases_Bool (takes window g s))

pushed_begun : (u : ℕ) (s : Summary) (gs : List Copies) → s.at.time ≤ u → HaveBegun u gs → HaveBegun u (gs ++ single s ∷ [])
pushed_begun u s [] up h = (up, tt)
pushed_begun u s (g ∷ gs) up h = (h.0, pushed_begun u s gs up h.1)

begun-placed : (window u : ℕ) (s : Summary) (gs : List Copies) → s.at.time ≤ u → HaveBegun u gs → HaveBegun u (placed window s gs)
begun-placed window u s gs up h =
    ⊎_elim
    (λ (yes : list_any (λ g. takes window g s) gs ≡ true). rw yes (grown_begun window u s gs h))
    (λ (no : list_any (λ g. takes window g s) gs ≡ false). rw no (pushed_begun u s (map (grown window s) gs) up (grown_begun window u s gs h)))
    (cases_Bool (list_any (λ g. takes window g s) gs))

-- ---- boxes

opened-insert : (k : Stamp) (b : Box Summary) (es : List (Stamp × Box Summary))
    → opened (insert_entry stamp_cmp es k b) ≡ insert_entry stamp_cmp (opened es) k b.value
opened-insert k b [] = refl
opened-insert k b (e ∷ es) = by_rank (stamp_cmp k e.0) (opened-insert k b es) where
  by_rank : (o : Ordering) → opened (insert_entry stamp_cmp es k b) ≡ insert_entry stamp_cmp (opened es) k b.value
      → opened (match_ordering o ((k, b) ∷ e ∷ es) ((e.0, b) ∷ es) (e ∷ insert_entry stamp_cmp es k b))
      ≡ match_ordering o ((k, b.value) ∷ opened (e ∷ es)) ((e.0, b.value) ∷ opened es) ((e.0, e.1.value) ∷ insert_entry stamp_cmp (opened es) k b.value)
  by_rank Less h = refl
  by_rank Equal h = refl
  by_rank Greater h = ap (λ (hs : List (Stamp × Summary)). (e.0, e.1.value) ∷ hs) h

-- a summary was put into the map in a box
pub boxed : (es fs : List (Stamp × Box Summary)) (s : Summary) (b : Box Summary) → b.value ≡ s → fs ≡ insert_entry stamp_cmp es s.at b
    → opened fs ≡ insert_entry stamp_cmp (opened es) s.at s
boxed es fs s b e h =
    ap opened h
    ∙ opened-insert s.at b es
    ∙ ap (λ (x : Summary). insert_entry stamp_cmp (opened es) s.at x) e

pub opened-lookup : (at : Stamp) (es : List (Stamp × Box Summary))
    → is_some (lookup (is_at (stamp_cmp at)) es) ≡ is_some (lookup (is_at (stamp_cmp at)) (opened es))
opened-lookup at [] = refl
opened-lookup at (e ∷ es) =
    ⊎_elim
    (λ (here : is_eq (stamp_cmp at e.0) ≡ true). rw here refl)
    (λ (other : is_eq (stamp_cmp at e.0) ≡ false). rw other (opened-lookup at es))
    (cases_Bool (is_eq (stamp_cmp at e.0)))

pub opened-first : (es : List (Stamp × Box Summary)) (k : Stamp) (b : Box Summary) → slice_get es 0 ≡ Some (k, b)
    → slice_get (opened es) 0 ≡ Some (k, b.value)
opened-first [] k b h = absurd (cc)
opened-first (e ∷ es) k b h =
    let same : e ≡ (k, b) = cc in
    ap (λ (x : Stamp × Box Summary). Some (x.0, x.1.value)) same

-- ---- a summary comes to wait

cmp_there : (a b c : Stamp) → b ≡ c → Precedes a c → stamp_cmp a b ≡ Less
cmp_there a b c e h = ap (stamp_cmp a) e ∙ cmp_less a c h

cmp_back : (a b c : Stamp) → b ≡ c → Precedes c a → stamp_cmp a b ≡ Greater
cmp_back a b c e h = ap (stamp_cmp a) e ∙ cmp_greater a c h

pub values-insert : (s : Summary) (es : List (Stamp × Summary)) → AllByRecursion (λ e. e.0 ≡ e.1.at) es → DiffersFromAll s.at (values_of es)
    → values_of (insert_entry stamp_cmp es s.at s) ≡ insert_by_stamp s (values_of es)
values-insert s [] stamped differ = refl
values-insert s (e ∷ es) stamped differ =
    ⊎_elim
    (λ (front : Precedes s.at e.1.at).
    let less : stamp_cmp s.at e.0 ≡ Less = cmp_there s.at e.0 e.1.at stamped.0 front in
    let yes = before_true s.at e.1.at front in
    rw (less, yes) refl)
    (λ (back : Precedes e.1.at s.at).
    let greater : stamp_cmp s.at e.0 ≡ Greater = cmp_back s.at e.0 e.1.at stamped.0 back in
    let no = before_false s.at e.1.at back in
    rw (greater, no) (ap (λ (ss : List Summary). e.1 ∷ ss) (values-insert s es stamped.1 differ.1)))
    differ.0

stamped-insert : (s : Summary) (es : List (Stamp × Summary)) → AllByRecursion (λ e. e.0 ≡ e.1.at) es → DiffersFromAll s.at (values_of es)
    → AllByRecursion (λ e. e.0 ≡ e.1.at) (insert_entry stamp_cmp es s.at s)
stamped-insert s [] stamped differ = (refl, tt)
stamped-insert s (e ∷ es) stamped differ =
    ⊎_elim
    (λ (front : Precedes s.at e.1.at).
    let less : stamp_cmp s.at e.0 ≡ Less = cmp_there s.at e.0 e.1.at stamped.0 front in
    rw less (refl, stamped))
    (λ (back : Precedes e.1.at s.at).
    let greater : stamp_cmp s.at e.0 ≡ Greater = cmp_back s.at e.0 e.1.at stamped.0 back in
    rw greater (stamped.0, stamped-insert s es stamped.1 differ.1))
    differ.0

begun-insert : (s : Summary) (gs : List Copies) (ss : List Summary) → HaveBegun s.at.time gs → AllByRecursion (λ x. HaveBegun x.at.time gs) ss
    → AllByRecursion (λ x. HaveBegun x.at.time gs) (insert_by_stamp s ss)
begun-insert s gs [] own h = (own, tt)
begun-insert s gs (x ∷ ss) own h =
    ⊎_elim
    (λ (yes : is_before s.at x.at ≡ true). rw yes (own, h))
    (λ (no : is_before s.at x.at ≡ false). rw no (h.0, begun-insert s gs ss own h.1))
    (cases_Bool (is_before s.at x.at))

pub tidy_added : (bound : Option ℕ) (gs : List Copies) (es fs : List (Stamp × Summary)) (s : Summary) → under bound s.at.time ≡ false
    → DiffersFromAll s.at (values_of es) → fs ≡ insert_entry stamp_cmp es s.at s → IsTidy bound gs es → IsTidy bound gs fs
tidy_added bound gs es fs s late differ e h =
    subst (IsTidy bound gs) (sym e)
    (let vs = values-insert s es h.stamped differ in
    record {
      stamped = stamped-insert s es h.stamped differ;
      ordered = subst InStampOrder (sym vs) (in_order-insert s (values_of es) differ h.ordered);
      begun = subst (AllByRecursion (λ x. HaveBegun x.at.time gs)) (sym vs) (begun-insert s gs (values_of es) (h.to_come s.at.time late) h.begun);
      to_come = h.to_come;
    })

-- what is seen has the summary among those that wait
pub seen_added : (marks : List (Option ℕ)) (groups : Open) (es fs : List (Stamp × Summary)) (s : Summary) → is_past marks s.at.time ≡ false
    → AllByRecursion (λ e. e.0 ≡ e.1.at) es → DiffersFromAll s.at (values_of es) → fs ≡ insert_entry stamp_cmp es s.at s
    → seen marks groups (values_of fs) ≡ with_summary s (seen marks groups (values_of es))
seen_added marks groups es fs s late stamped differ e =
    let p = is_past marks in
    let vs : values_of fs ≡ insert_by_stamp s (values_of es) = ap values_of e ∙ values-insert s es stamped differ in
    let front = upto-insert p s (values_of es) (past_bound marks) late in
    let rest = onward-insert p s (values_of es) (past_bound marks) late in
    ap (seen marks groups) vs
    ∙ ap (λ (u : List Summary). record { window = groups.window; marks = marks; held = placed_all groups.window groups.held u; waiting = onward (at_time p) (insert_by_stamp s (values_of es)) }) front
    ∙ ap (λ (u : List Summary). record { window = groups.window; marks = marks; held = placed_all groups.window groups.held (upto (at_time p) (values_of es)); waiting = u }) rest

-- ---- marks rise

pub seen_marked : (old new : List (Option ℕ)) (groups : Open) (ss : List Summary) → ((t : ℕ) → is_past old t ≡ true → is_past new t ≡ true)
    → seen new groups ss ≡ marked new (seen old groups ss)
seen_marked old new groups ss more =
    let p = at_time (is_past old) in
    let q = at_time (is_past new) in
    let front : placed_all groups.window groups.held (upto q ss) ≡ placed_all groups.window (placed_all groups.window groups.held (upto p ss)) (upto q (onward p ss)) =
    ap (placed_all groups.window groups.held) (upto_split p q ss (λ s. more s.at.time))
    ∙ placed_all-append groups.window groups.held (upto p ss) (upto q (onward p ss)) in
    ap (λ (gs : List Copies). record { window = groups.window; marks = new; held = gs; waiting = onward q ss }) front
    ∙ ap (λ (u : List Summary). record { window = groups.window; marks = new; held = placed_all groups.window (placed_all groups.window groups.held (upto p ss)) (upto q (onward p ss)); waiting = u })
    (onward_split p q ss (λ s. more s.at.time))

still_to_come : (p q : ℕ → Bool) (t : ℕ) → ((u : ℕ) → p u ≡ true → q u ≡ true) → q t ≡ false → p t ≡ false
still_to_come p q t more h =
    ⊎_elim
    (λ (yes : p t ≡ true). absurd (both_ways (q t) h (more t yes)))
    (λ (no : p t ≡ false). no)
    (cases_Bool (p t))

pub tidy_marked : (old new : Option ℕ) (gs : List Copies) (es : List (Stamp × Summary)) → ((t : ℕ) → under old t ≡ true → under new t ≡ true)
    → IsTidy old gs es → IsTidy new gs es
tidy_marked old new gs es more h = record {
  stamped = h.stamped;
  ordered = h.ordered;
  begun = h.begun;
  to_come = λ t late. h.to_come t (still_to_come (under old) (under new) t more late);
}

-- ---- the first summary that waits is placed

begun_all : (window : ℕ) (s : Summary) (gs : List Copies) (ss : List Summary) → AllByRecursion (λ x. s.at.time ≤ x.at.time) ss
    → AllByRecursion (λ x. HaveBegun x.at.time gs) ss → AllByRecursion (λ x. HaveBegun x.at.time (placed window s gs)) ss
begun_all window s gs [] up h = tt
begun_all window s gs (x ∷ ss) up h = (begun-placed window x.at.time s gs up.0 h.0, begun_all window s gs ss up.1 h.1)

no_earlier : (bound : Option ℕ) (t u : ℕ) → under bound t ≡ true → under bound u ≡ false → t ≤ u
no_earlier bound t u h k =
    ⊎_elim
    (λ (below : u < t). absurd (both_ways (under bound u) k (under_earlier bound u t (omega arith) h)))
    (λ (up : t ≤ u). up)
    (cases_lt u t)

tidy_placed : (bound : Option ℕ) (window : ℕ) (gs : List Copies) (k : Stamp) (s : Summary) (fs : List (Stamp × Summary)) → under bound s.at.time ≡ true
    → IsTidy bound gs ((k, s) ∷ fs) → IsTidy bound (placed window s gs) fs
tidy_placed bound window gs k s fs past h = record {
  stamped = h.stamped.1;
  ordered = h.ordered.1;
  begun = begun_all window s gs (values_of fs) (not_before s (values_of fs) h.ordered.0) h.begun.1;
  to_come = λ t late. begun-placed window t s gs (no_earlier bound s.at.time t past late) (h.to_come t late);
}

pub kept_placed : (bound : Option ℕ) (old new : Open) (k : Stamp) (s : Summary) (es fs : List (Stamp × Summary)) → es ≡ (k, s) ∷ fs
    → under bound s.at.time ≡ true → new.window ≡ old.window → (HaveBegun s.at.time old.held → new.held ≡ placed old.window s old.held)
    → IsTidy bound old.held es → IsKept bound old es new fs
kept_placed bound old new k s es fs e past same grows h =
    let all : IsTidy bound old.held ((k, s) ∷ fs) = subst (IsTidy bound old.held) e h in
    let held : new.held ≡ placed old.window s old.held = grows all.begun.0 in
    subst (λ (hs : List (Stamp × Summary)). IsKept bound old hs new fs) (sym e)
    (record {
      window = same;
      tidy = subst (λ (gs : List Copies). IsTidy bound gs fs) (sym held) (tidy_placed bound old.window old.held k s fs past all);
      held = rw past (ap (λ (gs : List Copies). placed_all old.window gs (upto (at_time (under bound)) (values_of fs))) held);
      waiting = rw past refl;
    })

-- the first entry was taken out
pub popped : (r : Option (Stamp × Box Summary)) (es fs : List (Stamp × Box Summary)) (k : Stamp) (b : Box Summary) → IsSome r ↔ (0 < length es)
    → IfSome r (λ p. es ≡ p ∷ fs) → slice_get es 0 ≡ Some (k, b) → opened es ≡ (k, b.value) ∷ opened fs
popped None [] fs k b there taken at = absurd (cc)
popped None (e ∷ es) fs k b there taken at = let some = there.1 (omega arith) in absurd (cc)
popped (Some p) es fs k b there taken at =
    let first : slice_get (p ∷ fs) 0 ≡ Some (k, b) = subst (λ (hs : List (Stamp × Box Summary)). slice_get hs 0 ≡ Some (k, b)) taken at in
    let same : p ≡ (k, b) = cc in
    ap opened taken ∙ ap (λ (x : Stamp × Box Summary). (x.0, x.1.value) ∷ opened fs) same

-- no summary that waits is below the bound
pub none_past : (bound : Option ℕ) (es : List (Stamp × Summary)) (k : Stamp) (s : Summary) → slice_get es 0 ≡ Some (k, s) → under bound s.at.time ≡ false
    → upto (at_time (under bound)) (values_of es) ≡ []
none_past bound [] k s at late = refl
none_past bound (e ∷ es) k s at late =
    let same : e ≡ (k, s) = cc in
    let own : under bound e.1.at.time ≡ false = ap (λ (x : Stamp × Summary). under bound x.1.at.time) same ∙ late in
    rw own refl

-- ---- the first group

pub if_some_both : {X : Type 0} (r : Option X) (P Q R : X → Type 0) → ((x : X) → P x → Q x → R x) → IfSome r P → IfSome r Q → IfSome r R
if_some_both None P Q R f p q = tt
if_some_both (Some x) P Q R f p q = f x p q

-- ---- what is seen

-- placing what is below the least mark changes nothing of what is seen
pub seen_kept : (marks : List (Option ℕ)) (old new : Open) (es fs : List (Stamp × Summary)) → IsKept (least_mark marks) old es new fs
    → seen marks new (values_of fs) ≡ seen marks old (values_of es)
seen_kept marks old new es fs h =
    let q = at_time (is_past marks) in
    ap (λ (w : ℕ). record { window = w; marks = marks; held = placed_all w new.held (upto q (values_of fs)); waiting = onward q (values_of fs) }) h.window
    ∙ ap (λ (gs : List Copies). record { window = old.window; marks = marks; held = gs; waiting = onward q (values_of fs) }) h.held
    ∙ ap (λ (ss : List Summary). record { window = old.window; marks = marks; held = placed_all old.window old.held (upto q (values_of es)); waiting = ss }) h.waiting

-- where all that is below the least mark was placed, what is seen to be held is held
pub seen_placed : (marks : List (Option ℕ)) (groups : Open) (ss : List Summary) → upto (at_time (is_past marks)) ss ≡ []
    → seen marks groups ss ≡ record { window = groups.window; marks = marks; held = groups.held; waiting = onward (at_time (is_past marks)) ss }
seen_placed marks groups ss none =
    ap (λ (u : List Summary). record { window = groups.window; marks = marks; held = placed_all groups.window groups.held u; waiting = onward (at_time (is_past marks)) ss }) none

-- a group that is given out is the first of those that were seen to be held
pub seen_given : (marks : List (Option ℕ)) (old new : Open) (ss : List Summary) (g : Copies) → upto (at_time (is_past marks)) ss ≡ []
    → new.window ≡ old.window → old.held ≡ g ∷ new.held → seen marks old ss ≡ with_group g (seen marks new ss)
seen_given marks old new ss g none same held =
    seen_placed marks old ss none
    ∙ ap (λ (gs : List Copies). record { window = old.window; marks = marks; held = gs; waiting = onward (at_time (is_past marks)) ss }) held
    ∙ ap (λ (w : ℕ). record { window = w; marks = marks; held = g ∷ new.held; waiting = onward (at_time (is_past marks)) ss }) (sym same)
    ∙ ap (with_group g) (sym (seen_placed marks new ss none))

-- ---- the calls of a grouper

-- a summary that may be added is not below the least mark, and has a stamp of its own
pub comes_apart : (marks : List (Option ℕ)) (groups : Open) (ss : List Summary) (s : Summary) (now : Grouping) → seen marks groups ss ≡ now
    → MayCome now.marks s.at → DiffersFromAll s.at now.waiting → (is_past marks s.at.time ≡ false) × DiffersFromAll s.at ss
comes_apart marks groups ss s now view may apart =
    let own : MayCome marks s.at = subst (λ (n : Grouping). MayCome n.marks s.at) (sym view) may in
    let late : is_past marks s.at.time ≡ false = allowed_late marks s.at.capture s.at.time own in
    let others : DiffersFromAll s.at (onward (at_time (is_past marks)) ss) = subst (λ (n : Grouping). DiffersFromAll s.at n.waiting) (sym view) apart in
    (late, differs_whole (is_past marks) s ss (past_bound marks) late others)

pub rises : (old new : List (Option ℕ)) (i : ℕ) (m : Option ℕ) (groups : Open) (ss : List Summary) (now : Grouping) → seen old groups ss ≡ now
    → new ≡ set old i m → i < length now.marks → lesser (get_or old i None) m ≡ get_or old i None
    → (t : ℕ) → is_past old t ≡ true → is_past new t ≡ true
rises old new i m groups ss now view change within later t h =
    let inside : i < length old = subst (λ (n : Grouping). i < length n.marks) (sym view) within in
    subst (λ (ms : List (Option ℕ)). is_past ms t ≡ true) (sym change) (least_rises old i m inside later t h)

pub seen_changed : (old new : List (Option ℕ)) (change : List (Option ℕ) → List (Option ℕ)) (groups : Open) (ss : List Summary) (now : Grouping)
    → seen old groups ss ≡ now → new ≡ change old → ((t : ℕ) → is_past old t ≡ true → is_past new t ≡ true)
    → seen new groups ss ≡ marked (change now.marks) now
seen_changed old new change groups ss now view e more =
    seen_marked old new groups ss more
    ∙ ap (marked new) view
    ∙ ap (λ (ms : List (Option ℕ)). marked ms now) (e ∙ ap (λ (n : Grouping). change n.marks) view)

pub stands_seen : (old new : List (Option ℕ)) (groups : Open) (ss : List Summary) (now : Grouping) (window : ℕ) (added : List Summary) (given : List Copies)
    → seen old groups ss ≡ now → ((t : ℕ) → is_past old t ≡ true → is_past new t ≡ true) → StandsFor now window added given
    → StandsFor (seen new groups ss) window added given
stands_seen old new groups ss now window added given view more h =
    subst (λ (n : Grouping). StandsFor n window added given) (sym (seen_marked old new groups ss more))
    (stands_marked (seen old groups ss) new window added given more (subst (λ (n : Grouping). StandsFor n window added given) (sym view) h))

pub if_none_then : {X : Type 0} (r : Option X) (P Q : Type 0) → (P → Q) → IfNone r P → IfNone r Q
if_none_then None P Q f p = f p
if_none_then (Some x) P Q f p = tt

-- what was seen before all that the marks have passed was placed is seen then
now_seen : (marks : List (Option ℕ)) (least : Option ℕ) (old groups : Open) (es fs : List (Stamp × Summary)) (now : Grouping)
    → seen marks old (values_of es) ≡ now → least ≡ least_mark marks → IsKept least old es groups fs → now ≡ seen marks groups (values_of fs)
now_seen marks least old groups es fs now view e kept =
    sym view ∙ sym (seen_kept marks old groups es fs (subst (λ (m : Option ℕ). IsKept m old es groups fs) e kept))

none_left : (marks : List (Option ℕ)) (least : Option ℕ) (ss : List Summary) → least ≡ least_mark marks → upto (at_time (under least)) ss ≡ []
    → upto (at_time (is_past marks)) ss ≡ []
none_left marks least ss e none = subst (λ (m : Option ℕ). upto (at_time (under m)) ss ≡ []) e none

now_placed : (marks : List (Option ℕ)) (least : Option ℕ) (old groups : Open) (es fs : List (Stamp × Summary)) (now : Grouping)
    → seen marks old (values_of es) ≡ now → least ≡ least_mark marks → IsKept least old es groups fs
    → upto (at_time (under least)) (values_of fs) ≡ []
    → now ≡ record { window = groups.window; marks = marks; held = groups.held; waiting = onward (at_time (is_past marks)) (values_of fs) }
now_placed marks least old groups es fs now view e kept none =
    now_seen marks least old groups es fs now view e kept ∙ seen_placed marks groups (values_of fs) (none_left marks least (values_of fs) e none)

pub next_first : (marks : List (Option ℕ)) (least : Option ℕ) (old groups new : Open) (es fs : List (Stamp × Summary)) (now : Grouping) (g : Copies)
    → seen marks old (values_of es) ≡ now → least ≡ least_mark marks → IsKept least old es groups fs
    → upto (at_time (under least)) (values_of fs) ≡ [] → new.window ≡ groups.window → groups.held ≡ g ∷ new.held
    → now ≡ with_group g (seen marks new (values_of fs))
next_first marks least old groups new es fs now g view e kept none same held =
    now_seen marks least old groups es fs now view e kept
    ∙ seen_given marks groups new (values_of fs) g (none_left marks least (values_of fs) e none) same held

pub next_stands : (marks : List (Option ℕ)) (least : Option ℕ) (old groups new : Open) (es fs : List (Stamp × Summary)) (now : Grouping) (g : Copies)
    (window : ℕ) (added : List Summary) (given : List Copies)
    → seen marks old (values_of es) ≡ now → least ≡ least_mark marks → IsKept least old es groups fs
    → upto (at_time (under least)) (values_of fs) ≡ [] → new.window ≡ groups.window → groups.held ≡ g ∷ new.held
    → is_closed (under least) groups.window g ≡ true → StandsFor now window added given
    → StandsFor (seen marks new (values_of fs)) window added (given ++ g ∷ [])
next_stands marks least old groups new es fs now g window added given view e kept none same held closed h =
    stands_given (seen marks new (values_of fs)) g window added given
    (subst (λ (w : ℕ). is_closed (is_past marks) w g ≡ true) (sym same)
    (subst (λ (m : Option ℕ). is_closed (under m) groups.window g ≡ true) e closed))
    (subst (λ (n : Grouping). StandsFor n window added given) (next_first marks least old groups new es fs now g view e kept none same held) h)

pub next_same : (marks : List (Option ℕ)) (least : Option ℕ) (old groups new : Open) (es fs : List (Stamp × Summary)) (now : Grouping)
    → seen marks old (values_of es) ≡ now → least ≡ least_mark marks → IsKept least old es groups fs → new ≡ groups
    → seen marks new (values_of fs) ≡ now
next_same marks least old groups new es fs now view e kept same =
    ap (λ (o : Open). seen marks o (values_of fs)) same ∙ sym (now_seen marks least old groups es fs now view e kept)

pub next_settled : (marks : List (Option ℕ)) (least : Option ℕ) (old groups : Open) (es fs : List (Stamp × Summary)) (now : Grouping)
    → seen marks old (values_of es) ≡ now → least ≡ least_mark marks → IsKept least old es groups fs
    → upto (at_time (under least)) (values_of fs) ≡ [] → upto (is_closed (under least) groups.window) groups.held ≡ [] → IsSettled now
next_settled marks least old groups es fs now view e kept none settled =
    subst IsSettled (sym (now_placed marks least old groups es fs now view e kept none))
    (subst (λ (m : Option ℕ). upto (is_closed (under m) groups.window) groups.held ≡ []) e settled)

pub next_ended : (marks : List (Option ℕ)) (least : Option ℕ) (old groups : Open) (es fs : List (Stamp × Summary)) (now : Grouping)
    → seen marks old (values_of es) ≡ now → least ≡ least_mark marks → IsKept least old es groups fs
    → upto (at_time (under least)) (values_of fs) ≡ [] → (least ≡ None → groups.held ≡ []) → least_mark now.marks ≡ None → now.held ≡ []
next_ended marks least old groups es fs now view e kept none ended =
    subst (λ (n : Grouping). least_mark n.marks ≡ None → n.held ≡ []) (sym (now_placed marks least old groups es fs now view e kept none))
    (λ all. ended (e ∙ all))

-- ---- whether a stamp is among those that wait

differs_from_cmp : (a b : Stamp) → is_eq (stamp_cmp a b) ≡ false → Precedes a b ⊎ Precedes b a
differs_from_cmp a b h = by_rank (stamp_cmp a b) (stamps_ranked a b) h where
  by_rank : (o : Ordering) → MatchOrdering o (Precedes a b) (IsSame a b) (Precedes b a) → is_eq o ≡ false → Precedes a b ⊎ Precedes b a
  by_rank Less k e = inl k
  by_rank Equal k e = absurd (cc)
  by_rank Greater k e = inr k

cmp_differs : (a b : Stamp) → Precedes a b ⊎ Precedes b a → is_eq (stamp_cmp a b) ≡ false
cmp_differs a b h =
    ⊎_elim
    (λ (before : Precedes a b). ap is_eq (cmp_less a b before))
    (λ (after : Precedes b a). ap is_eq (cmp_greater a b after))
    h

pub differs_absent : (at : Stamp) (es : List (Stamp × Summary)) → AllByRecursion (λ e. e.0 ≡ e.1.at) es
    → is_some (lookup (is_at (stamp_cmp at)) es) ≡ false → DiffersFromAll at (values_of es)
differs_absent at [] stamped h = tt
differs_absent at (e ∷ es) stamped h =
    ⊎_elim
    (λ (here : is_eq (stamp_cmp at e.0) ≡ true). let found : is_some (Some e.1) ≡ false = rw here at h in absurd (cc))
    (λ (other : is_eq (stamp_cmp at e.0) ≡ false).
    let rest : is_some (lookup (is_at (stamp_cmp at)) es) ≡ false = rw other at h in
    let own : is_eq (stamp_cmp at e.1.at) ≡ false = subst (λ (b : Stamp). is_eq (stamp_cmp at b) ≡ false) stamped.0 other in
    (differs_from_cmp at e.1.at own, differs_absent at es stamped.1 rest))
    (cases_Bool (is_eq (stamp_cmp at e.0)))

pub absent_differs : (at : Stamp) (es : List (Stamp × Summary)) → AllByRecursion (λ e. e.0 ≡ e.1.at) es
    → DiffersFromAll at (values_of es) → is_some (lookup (is_at (stamp_cmp at)) es) ≡ false
absent_differs at [] stamped h = refl
absent_differs at (e ∷ es) stamped h =
    let own : is_eq (stamp_cmp at e.0) ≡ false =
    subst (λ (b : Stamp). is_eq (stamp_cmp at b) ≡ false) (sym stamped.0) (cmp_differs at e.1.at h.0) in
    rw own (absent_differs at es stamped.1 h.1)

-- a stamp that is not below the least mark differs from all summaries that were not placed, where it differs from
-- those that are seen to wait
pub apart_from_all : (marks : List (Option ℕ)) (groups : Open) (ss : List Summary) (at : Stamp) (now : Grouping) → seen marks groups ss ≡ now
    → MayCome now.marks at → DiffersFromAll at now.waiting → DiffersFromAll at ss
apart_from_all marks groups ss at now view may apart =
    (comes_apart marks groups ss (record { at = at; key = []; vals = [] }) now view may apart).1

pub apart_from_seen : (marks : List (Option ℕ)) (groups : Open) (ss : List Summary) (at : Stamp) (now : Grouping) → seen marks groups ss ≡ now
    → DiffersFromAll at ss → DiffersFromAll at now.waiting
apart_from_seen marks groups ss at now view h =
    subst (λ (n : Grouping). DiffersFromAll at n.waiting) view (differs_onward at (at_time (is_past marks)) ss h)
