-- What a grouper promises, one frame more at a time.
use Rattle.std.proofs.Common.{ℕ, zero, suc, Bool, true, false, List, [], ◌∷◌, ◌++◌, ◌≡◌, ◌<◌, ◌≤◌, ◌+◌, ◌-◌, ◌*◌, ◌%◌, ◌^◌, ◌⊎◌, Option, Some, None, inl, inr, refl, sym, ap, subst, ◌∙◌, ⊎_elim, arith, length, set, get_or, append_assoc, min, length-append}
use Rattle.std.specs.Prelude.{nat_lt, slice_get, replicate, flat_map, ◌==◌, if◌then◌else◌}
use Rattle.std.specs.List.Sorted.{IsPermutation}
use Rattle.std.proofs.lemmas.Bool.{cases_lt, lt-ltb}
use Rattle.std.proofs.lemmas.Bool.Decides.{nat_tests}
use Rattle.std.proofs.lemmas.List.{append-nil, length_push, length-replicate, get_or-replicate}
use Rattle.std.proofs.lemmas.List.Sorted.{IsPermutation-refl}
use Rattle.std.proofs.lemmas.List.Sums.{sum_by-cons, sum_by-append}
use Rattle.std.proofs.lemmas.Nat.{mod_below}
use Rattle.ds_base.specs.Copies.{Copies}
use Rattle.ds_base.specs.Fronts.{IsIn, upto, InOrder}
use Rattle.ds_base.specs.declared.summary.Summary.{Summary}
use Rattle.node_frames.specs.declared.frame.Frame.{Frame}
use Rattle.node_frames.specs.declared.frame.Frame.TheVariants.{Item, Mark, CaptureEnd, GroupMark, Finish, GroupHead, Member, AnswerRow, Profile, CountsRow}
use Rattle.summary_spec.specs.Declaration.{Declared}
use Rattle.summary_spec.specs.Lawful.{IsLawful}
use Rattle.watermarks.specs.Least.{least_mark, lesser}
use Rattle.watermarks.specs.Raised.{raised_to}
use Rattle.window_grouper.specs.Closed.{is_closed}
use Rattle.window_grouper.specs.Groups.{members_in}
use Rattle.window_grouper.specs.Grouping.{Grouping, StandsFor, is_past, marked, out_mark, with_group, with_summary}
use Rattle.window_grouper.proofs.Standing.{held_once, stands_given}
use Rattle.run_law.specs.Links.{MayFollow, AreLawfulBehind, AreLawfulItems, ItemRule, IsTime}
use Rattle.run_law.specs.Nodes.{below, least_of_captures, groups_closed, GrouperSendsAll}
use Rattle.run_law.specs.Sent.{Saying, items_in, of_items, bound_in, bound_after, bound_behind}
use Rattle.run_law.specs.Shapes.{Shape, dealt, IsFront}
use Rattle.run_law.proofs.Lists.{dealt_front}
use Rattle.run_law.proofs.Ordered.{lead}
use Rattle.grouper_state.specs.Outgoing.{Outgoing, whole_outgoing, one_further, going_groups, frames_going, head_of, member_of}
use Rattle.grouper_state.specs.Puts.{Gathers, HasMore, LinkHas, StateStands, heads_put, one_if, is_mark_due, mark_of}
use Rattle.grouper_state.proofs.Dealt.{same_or_not, mod_next, dealt_own, in_last}
use Rattle.grouper_state.proofs.Frames.{of_finish}
use Rattle.grouper_state.proofs.Gathering as gathering
use Rattle.grouper_state.proofs.Gathering.{TakesOne, IsSendable}
use Rattle.grouper_state.proofs.Linked as linked
use Rattle.grouper_state.proofs.Promising as promising

abbrev none_of : List Summary
none_of = []

one_most : (b : Bool) → one_if b ≤ 1
one_most true = omega arith
one_most false = omega arith

-- ---- a frame was taken

module _ (job : Declared) (shape : Shape) (me : ℕ) (taken more put : ℕ → List Frame) (count : ℕ) (g : Grouping) (going : Option Outgoing) (turn mark : ℕ) (finished : Bool)
    (p : ℕ) (less : p < shape.parsers) (h : StateStands job shape me taken put count g going turn mark finished) where
  -- what was put is as it was
  with_gathers : (f : Frame) → TakesOne taken more p f → MayFollow (ItemRule job shape p me) (taken p) f → (g' : Grouping) (added : List Summary)
      → Gathers job shape me more g' (heads_put h.done going) added → h.marks + one_if (is_mark_due (mark_of g') mark) + length added ≤ count + 1
      → StateStands job shape me more put (count + 1) g' going turn mark finished
  with_gathers f one may g' added gathers few = record {
    done = h.done;
    added = added;
    marks = h.marks;
    gathers = gathers;
    keeps = gathering.keeps_more job shape me taken more p f less one h.gathers.lawful may put h.keeps;
    links = h.links;
    turn_is = h.turn_is;
    has_more = h.has_more;
    over = h.over;
    few = few;
  }

  pub takes_item : (s : Summary) → TakesOne taken more p (Item s) → MayFollow (ItemRule job shape p me) (taken p) (Item s)
      → StateStands job shape me more put (count + 1) (with_summary s g) going turn mark finished
  takes_item s one may =
      with_gathers (Item s) one may (with_summary s g) (h.added ++ s ∷ [])
      (gathering.gathers_item job shape me taken more p less g (heads_put h.done going) h.added h.gathers s may one)
      (let old = h.few in omega (arith, old, length_push h.added s))

  pub takes_mark : (c m : ℕ) → TakesOne taken more p (Mark c m) → MayFollow (ItemRule job shape p me) (taken p) (Mark c m)
      → ((window : ℕ) (added : List Summary) (given : List Copies) → StandsFor g window added given
      → StandsFor (marked (set g.marks c (raised_to m (get_or g.marks c None))) g) window added given)
      → StateStands job shape me more put (count + 1) (marked (set g.marks c (raised_to m (get_or g.marks c None))) g) going turn mark finished
  takes_mark c m one may stands =
      with_gathers (Mark c m) one may (marked (set g.marks c (raised_to m (get_or g.marks c None))) g) h.added
      (gathering.gathers_mark job shape me taken more p less g (heads_put h.done going) h.added h.gathers c m may one (stands job.window h.added (heads_put h.done going) h.gathers.stands))
      (let old = h.few in omega (arith, old, one_most (is_mark_due (mark_of (marked (set g.marks c (raised_to m (get_or g.marks c None))) g)) mark)))

  pub takes_end : (c : ℕ) → TakesOne taken more p (CaptureEnd c) → MayFollow (ItemRule job shape p me) (taken p) (CaptureEnd c)
      → ((window : ℕ) (added : List Summary) (given : List Copies) → StandsFor g window added given → StandsFor (marked (set g.marks c None) g) window added given)
      → StateStands job shape me more put (count + 1) (marked (set g.marks c None) g) going turn mark finished
  takes_end c one may stands =
      with_gathers (CaptureEnd c) one may (marked (set g.marks c None) g) h.added
      (gathering.gathers_end job shape me taken more p less g (heads_put h.done going) h.added h.gathers c may one (stands job.window h.added (heads_put h.done going) h.gathers.stands))
      (let old = h.few in omega (arith, old, one_most (is_mark_due (mark_of (marked (set g.marks c None) g)) mark)))

  pub takes_finish : TakesOne taken more p Finish → MayFollow (ItemRule job shape p me) (taken p) Finish
      → StateStands job shape me more put (count + 1) g going turn mark finished
  takes_finish one may =
      with_gathers Finish one may g h.added
      (gathering.gathers_finish job shape me taken more p less g (heads_put h.done going) h.added h.gathers may one)
      (let old = h.few in omega (arith, old))

-- ---- a frame was put

-- one frame more on link q, and none on the others
pub record PutsOne (put put' : ℕ → List Frame) (q : ℕ) (f : Frame) : Type 0 where
  pub here : put' q ≡ put q ++ f ∷ []
  pub others : (k : ℕ) → (k ≡ q → ⊥) → put' k ≡ put k

-- one frame more on each of n links
abbrev pub PutsAll : (n : ℕ) (put put' : ℕ → List Frame) (f : Frame) → Type 0
PutsAll n put put' f = (q : ℕ) → q < n → put' q ≡ put q ++ f ∷ []

one_front : {X : Type 0} (xs : List X) (x : X) → IsFront xs (xs ++ x ∷ [])
one_front xs x = record { rest = x ∷ []; joined = refl }

front_joined : (xs ys zs : List Copies) → IsFront (xs ++ ys) zs → IsFront xs zs
front_joined xs ys zs f = record { rest = ys ++ f.rest; joined = f.joined ∙ append_assoc xs ys f.rest }

-- the group behind those that were sent, once the grouper has given it out
module _ (job : Declared) (shape : Shape) (me : ℕ) (taken put : ℕ → List Frame) (count : ℕ) (g : Grouping) (x : Copies) (turn mark : ℕ) (finished : Bool)
    (within : turn < shape.processors) (closed : is_closed (is_past g.marks) g.window x ≡ true)
    (h : StateStands job shape me taken put count (with_group x g) None turn mark finished) where
  given_more : Gathers job shape me taken g (h.done ++ x ∷ []) h.added
  given_more = record {
    lawful = h.gathers.lawful;
    same = h.gathers.same;
    stands = stands_given g x job.window h.added h.done closed
        (subst (λ (xs : List Copies). StandsFor (with_group x g) job.window h.added xs) (append-nil h.done) h.gathers.stands);
    marks_many = h.gathers.marks_many;
    marks_are = h.gathers.marks_are;
  }

  pub head_sendable : IsSendable job x
  head_sendable = gathering.sendable job shape me taken g (h.done ++ x ∷ []) h.added given_more x (in_last h.done x)

  few_members : IsLawful job → members_in (h.done ++ x ∷ []) ≤ 2 ^ 46
  few_members lawful =
      let many = gathering.few_added job shape me taken g (h.done ++ x ∷ []) h.added given_more lawful in
      let all = held_once g job.window h.added (h.done ++ x ∷ []) given_more.stands in
      omega (arith, many, all)

  late : promising.IsLate job shape me taken h.done mark
  late = promising.late_of job shape me taken put h.done None turn mark h.marks finished h.links (omega (arith, within)) h.keeps

  ordered : InOrder lead (h.done ++ x ∷ [])
  ordered = gathering.given_ordered job shape me taken g (h.done ++ x ∷ []) h.added given_more

  front : IsFront (h.done ++ x ∷ []) (groups_closed job shape taken)
  front = gathering.given_front job shape me taken g (h.done ++ x ∷ []) h.added given_more

  -- so the end was not put
  pub none_closed_later : finished ≡ true → ⊥
  none_closed_later e =
      let fin = (h.keeps.finish turn within (of_finish (put turn) ((h.links turn within).ends ∙ e))).1 in
      let same : dealt shape.processors me turn (groups_closed job shape taken) ≡ dealt shape.processors me turn h.done =
      ap (dealt shape.processors me turn) (sym fin) ∙ sym (h.keeps.in_turn turn within) ∙ (h.links turn within).groups in
      let f = dealt_front shape.processors me turn (h.done ++ x ∷ []) (groups_closed job shape taken) front in
      let longer : dealt shape.processors me turn h.done ≡ (dealt shape.processors me turn h.done ++ x ∷ []) ++ f.rest =
      sym same ∙ f.joined ∙ ap (λ (xs : List Copies). xs ++ f.rest) (dealt_own shape.processors me turn h.done x h.turn_is) in
      too_long (dealt shape.processors me turn h.done) f.rest longer
    where
      too_long : (xs ys : List Copies) → xs ≡ (xs ++ x ∷ []) ++ ys → ⊥
      too_long xs ys e = let long = ap length e in omega (arith, long, length-append (xs ++ x ∷ []) ys, length_push xs x)

module _ (job : Declared) (shape : Shape) (me : ℕ) (taken put put' : ℕ → List Frame) (count : ℕ) (g : Grouping) (x : Copies) (turn mark : ℕ)
    (within : turn < shape.processors) (lawful : IsLawful job) (closed : is_closed (is_past g.marks) g.window x ≡ true)
    (h : StateStands job shape me taken put count (with_group x g) None turn mark false) where
  pub puts_head : PutsOne put put' turn (head_of x) → StateStands job shape me taken put' count g (Some (whole_outgoing x)) turn mark false
  puts_head one = record {
    done = h.done;
    added = h.added;
    marks = h.marks;
    gathers = given_more job shape me taken put count g x turn mark false within closed h;
    keeps = promising.promised job shape me taken put' h.done (Some (whole_outgoing x)) turn mark h.marks false links_more (front_joined h.done (x ∷ []) (groups_closed job shape taken) (front job shape me taken put count g x turn mark false within closed h)) (late job shape me taken put count g x turn mark false within closed h) (λ e. absurd (cc));
    links = links_more;
    turn_is = h.turn_is;
    has_more = (head_sendable job shape me taken put count g x turn mark false within closed h).filled;
    over = λ e. absurd (cc);
    few = h.few;
  }
    where
      links_more : (q : ℕ) → q < shape.processors → LinkHas job shape.processors me q (put' q) h.done (Some (whole_outgoing x)) turn mark h.marks false
      links_more q hq =
          ⊎_elim
          (λ (e : q ≡ turn).
          subst (λ (k : ℕ). LinkHas job shape.processors me k (put' k) h.done (Some (whole_outgoing x)) turn mark h.marks false) (sym e)
          (subst (λ fs. LinkHas job shape.processors me turn fs h.done (Some (whole_outgoing x)) turn mark h.marks false) (sym one.here)
          (linked.pushed job shape.processors me turn (put turn) (head_of x) h.done None turn mark h.marks h.done (Some (whole_outgoing x)) turn mark h.marks false (h.links turn within)
          (linked.head_pushes job shape.processors me (put turn) h.done x turn mark h.marks (h.links turn within) (head_sendable job shape me taken put count g x turn mark false within closed h)
          (promising.each_before h.done [] x (ordered job shape me taken put count g x turn mark false within closed h))
          (promising.not_past job shape me turn taken h.done x mark within h.turn_is (front job shape me taken put count g x turn mark false within closed h) (ordered job shape me taken put count g x turn mark false within closed h) (late job shape me taken put count g x turn mark false within closed h)) (few_members job shape me taken put count g x turn mark false within closed h lawful)))))
          (λ (other : q ≡ turn → ⊥).
          subst (λ fs. LinkHas job shape.processors me q fs h.done (Some (whole_outgoing x)) turn mark h.marks false) (sym (one.others q other))
          (linked.stayed job shape.processors me q (put q) h.done None turn mark h.marks false h.done (Some (whole_outgoing x)) turn h.marks (h.links q hq)
          (linked.head_stays shape.processors me q h.done x turn h.marks other)))
          (same_or_not q turn)

-- the next member of the group that is being sent
module _ (job : Declared) (shape : Shape) (me : ℕ) (taken put put' : ℕ → List Frame) (count : ℕ) (g : Grouping) (o : Outgoing) (turn mark : ℕ)
    (within : turn < shape.processors) (m : Summary) (at : slice_get o.group.members o.next ≡ Some m) (one : PutsOne put put' turn (member_of m))
    (h : StateStands job shape me taken put count g (Some o) turn mark false) where
  going_sendable : IsSendable job o.group
  going_sendable = gathering.sendable job shape me taken g (h.done ++ o.group ∷ []) h.added h.gathers o.group (in_last h.done o.group)

  member_late : promising.IsLate job shape me taken h.done mark
  member_late = promising.late_of job shape me taken put h.done (Some o) turn mark h.marks false h.links (omega (arith, within)) h.keeps

  member_front : IsFront (h.done ++ o.group ∷ []) (groups_closed job shape taken)
  member_front = gathering.given_front job shape me taken g (h.done ++ o.group ∷ []) h.added h.gathers

  pub puts_member : o.next + 1 < length o.group.members → StateStands job shape me taken put' count g (Some (one_further o)) turn mark false
  puts_member others = record {
    done = h.done;
    added = h.added;
    marks = h.marks;
    gathers = h.gathers;
    keeps = promising.promised job shape me taken put' h.done (Some (one_further o)) turn mark h.marks false links_more (front_joined h.done (o.group ∷ []) (groups_closed job shape taken) member_front) member_late (λ e. absurd (cc));
    links = links_more;
    turn_is = h.turn_is;
    has_more = others;
    over = λ e. absurd (cc);
    few = h.few;
  }
    where
      links_more : (q : ℕ) → q < shape.processors → LinkHas job shape.processors me q (put' q) h.done (Some (one_further o)) turn mark h.marks false
      links_more q hq =
          ⊎_elim
          (λ (e : q ≡ turn).
          subst (λ (k : ℕ). LinkHas job shape.processors me k (put' k) h.done (Some (one_further o)) turn mark h.marks false) (sym e)
          (subst (λ fs. LinkHas job shape.processors me turn fs h.done (Some (one_further o)) turn mark h.marks false) (sym one.here)
          (linked.pushed job shape.processors me turn (put turn) (member_of m) h.done (Some o) turn mark h.marks h.done (Some (one_further o)) turn mark h.marks false (h.links turn within)
          (linked.member_pushes job o m at going_sendable shape.processors me turn (put turn) h.done mark h.marks (h.links turn within) others))))
          (λ (other : q ≡ turn → ⊥).
          subst (λ fs. LinkHas job shape.processors me q fs h.done (Some (one_further o)) turn mark h.marks false) (sym (one.others q other))
          (linked.stayed job shape.processors me q (put q) h.done (Some o) turn mark h.marks false h.done (Some (one_further o)) turn h.marks (h.links q hq)
          (linked.member_stays shape.processors me q h.done o turn h.marks other)))
          (same_or_not q turn)

  pub puts_last : o.next + 1 ≡ length o.group.members → StateStands job shape me taken put' count g None ((turn + 1) % shape.processors) mark false
  puts_last all = record {
    done = h.done ++ o.group ∷ [];
    added = h.added;
    marks = h.marks;
    gathers = subst (λ (xs : List Copies). Gathers job shape me taken g xs h.added) (sym (append-nil (h.done ++ o.group ∷ []))) h.gathers;
    keeps = promising.promised job shape me taken put' (h.done ++ o.group ∷ []) None ((turn + 1) % shape.processors) mark h.marks false links_more member_front
        (promising.late_more job shape me taken h.done (h.done ++ o.group ∷ []) mark (one_front h.done o.group) member_late) (λ e. absurd (cc));
    links = links_more;
    turn_is =
        ap (λ (k : ℕ). (me + k) % shape.processors) (length_push h.done o.group)
        ∙ ap (λ (k : ℕ). k % shape.processors) (moved me (length h.done))
        ∙ sym (mod_next (me + length h.done) shape.processors)
        ∙ ap (λ (k : ℕ). (k + 1) % shape.processors) h.turn_is;
    has_more = tt;
    over = λ e. absurd (cc);
    few = h.few;
  }
    where
      moved : (a b : ℕ) → a + (b + 1) ≡ a + b + 1
      moved a b = omega arith

      links_more : (q : ℕ) → q < shape.processors
          → LinkHas job shape.processors me q (put' q) (h.done ++ o.group ∷ []) None ((turn + 1) % shape.processors) mark h.marks false
      links_more q hq =
          ⊎_elim
          (λ (e : q ≡ turn).
          subst (λ (k : ℕ). LinkHas job shape.processors me k (put' k) (h.done ++ o.group ∷ []) None ((turn + 1) % shape.processors) mark h.marks false) (sym e)
          (subst (λ fs. LinkHas job shape.processors me turn fs (h.done ++ o.group ∷ []) None ((turn + 1) % shape.processors) mark h.marks false) (sym one.here)
          (linked.pushed job shape.processors me turn (put turn) (member_of m) h.done (Some o) turn mark h.marks (h.done ++ o.group ∷ []) None ((turn + 1) % shape.processors) mark h.marks false (h.links turn within)
          (linked.last_pushes job o m at going_sendable shape.processors me turn ((turn + 1) % shape.processors) (put turn) h.done mark h.marks (h.links turn within) all h.turn_is))))
          (λ (other : q ≡ turn → ⊥).
          subst (λ fs. LinkHas job shape.processors me q fs (h.done ++ o.group ∷ []) None ((turn + 1) % shape.processors) mark h.marks false) (sym (one.others q other))
          (linked.stayed job shape.processors me q (put q) h.done (Some o) turn mark h.marks false (h.done ++ o.group ∷ []) None ((turn + 1) % shape.processors) h.marks (h.links q hq)
          (linked.last_stays shape.processors me q h.done o turn ((turn + 1) % shape.processors) h.marks other all h.turn_is)))
          (same_or_not q turn)

-- ---- marks are times

ended : (says : Frame → Saying) (fs : List Frame) → bound_behind says None fs ≡ None
ended says [] = refl
ended says (x ∷ xs) = ended says xs

bound_time : (job : Declared) (shape : Shape) (p me c : ℕ) (frames : List Frame) (mark : ℕ) → AreLawfulItems job shape p me frames → bound_in (of_items c) frames ≡ Some mark → IsTime mark
bound_time job shape p me c frames mark lawful is = behind [] frames (Some 0) (λ m e. let same : 0 ≡ m = cc in subst IsTime same (omega arith)) lawful mark is
  where
    by_capture : (b : Bool) (v u m : ℕ) → (Some v ≡ Some m → IsTime m) → IsTime u → bound_after (Some v) (if b then Some (Some u) else None) ≡ Some m → IsTime m
    by_capture true v u m old own e = let same : u ≡ m = cc in subst IsTime same own
    by_capture false v u m old own e = old e

    by_end : (b : Bool) (v m : ℕ) → (Some v ≡ Some m → IsTime m) → bound_after (Some v) (if b then Some None else None) ≡ Some m → IsTime m
    by_end true v m old e = absurd (cc)
    by_end false v m old e = old e

    after : (b : Option ℕ) (f : Frame) (before : List Frame) → ((m : ℕ) → b ≡ Some m → IsTime m) → ItemRule job shape p me before f → (m : ℕ) → bound_after b (of_items c f) ≡ Some m → IsTime m
    after None f before old own m e = absurd (cc)
    after (Some v) (Item s) before old own m e = old m e
    after (Some v) (Mark d u) before old own m e = by_capture (d == c) v u m (old m) own.1 e
    after (Some v) (CaptureEnd d) before old own m e = by_end (d == c) v m (old m) e
    after (Some v) Finish before old own m e = absurd (cc)
    after (Some v) (GroupHead first members key) before old own m e = absurd own
    after (Some v) (Member at vals) before old own m e = absurd own
    after (Some v) (GroupMark u) before old own m e = absurd own
    after (Some v) (AnswerRow a) before old own m e = absurd own
    after (Some v) (Profile row) before old own m e = absurd own
    after (Some v) (CountsRow d counts) before old own m e = absurd own

    behind : (before fs : List Frame) (b : Option ℕ) → ((m : ℕ) → b ≡ Some m → IsTime m) → AreLawfulBehind (ItemRule job shape p me) before fs → (mark : ℕ)
        → bound_behind (of_items c) b fs ≡ Some mark → IsTime mark
    behind before [] b old h mark e = old mark e
    behind before (f ∷ fs) b old h mark e = behind (before ++ f ∷ []) fs (bound_after b (of_items c f)) (after b f before old h.0.own) h.1 mark e

-- the place of a mark
record IsFound (ms : List (Option ℕ)) (l : ℕ) : Type 0 where
  place : ℕ
  less : place < length ms
  is : get_or ms place None ≡ Some l

later : (m : Option ℕ) (ms : List (Option ℕ)) (l : ℕ) → IsFound ms l → IsFound (m ∷ ms) l
later m ms l f = record { place = suc f.place; less = let old = f.less in omega (arith, old); is = f.is }

in_lesser : (m : Option ℕ) (ms : List (Option ℕ)) (b : Option ℕ) (l : ℕ) → least_mark ms ≡ b → lesser m b ≡ Some l → ((k : ℕ) → least_mark ms ≡ Some k → IsFound ms k) → IsFound (m ∷ ms) l
in_lesser None ms b l is e rest = later None ms l (rest l (is ∙ e))
in_lesser (Some a) ms None l is e rest = record { place = 0; less = omega arith; is = e }
in_lesser (Some a) ms (Some v) l is e rest =
    let same : min a v ≡ l = cc in
    ⊎_elim
    (λ (le : a ≤ v). record { place = 0; less = omega arith; is = ap (λ (k : ℕ). Some k) (omega (arith, same, le)) })
    (λ (less : v < a). let own : v ≡ l = omega (arith, same, less) in later (Some a) ms l (subst (IsFound ms) own (rest v is)))
    (le_or_less a v)
  where
    le_or_less : (a v : ℕ) → (a ≤ v) ⊎ (v < a)
    le_or_less a v = ⊎_elim (λ (l : v < a). inr l) (λ (r : a ≤ v). inl r) (cases_lt v a)

least_found : (ms : List (Option ℕ)) (l : ℕ) → least_mark ms ≡ Some l → IsFound ms l
least_found [] l e = absurd (cc)
least_found (m ∷ ms) l e = in_lesser m ms (least_mark ms) l refl e (λ k is. least_found ms k is)

least_time : (job : Declared) (shape : Shape) (me : ℕ) (taken : ℕ → List Frame) (g : Grouping) (given : List Copies) (added : List Summary) → 0 < shape.parsers
    → Gathers job shape me taken g given added → (l : ℕ) → least_mark g.marks ≡ Some l → IsTime l
least_time job shape me taken g given added some h l is =
    let f = least_found g.marks l is in
    let within : f.place < length job.captures = (let less = f.less in let many = h.marks_many in omega (arith, less, many)) in
    let p : ℕ = f.place % shape.parsers in
    let hp : p < shape.parsers = mod_below f.place shape.parsers some in
    bound_time job shape p me f.place (taken p) l (h.lawful p hp) (sym (h.marks_are f.place within) ∙ f.is)

-- ---- where no group is being sent

module _ (job : Declared) (shape : Shape) (me : ℕ) (taken put put' : ℕ → List Frame) (count : ℕ) (g : Grouping) (turn mark : ℕ) (finished : Bool)
    (settled : upto (is_closed (is_past g.marks) g.window) g.held ≡ []) (h : StateStands job shape me taken put count g None turn mark finished) where
  -- all closed groups were sent
  pub all_sent : groups_closed job shape taken ≡ h.done
  all_sent =
      gathering.closed_is job shape me taken g (h.done ++ []) h.added h.gathers
      ∙ ap (λ (xs : List Copies). (h.done ++ []) ++ xs) (ap (λ (w : ℕ). upto (is_closed (is_past g.marks) w) g.held) (sym h.gathers.stands.one_window) ∙ settled)
      ∙ append-nil (h.done ++ []) ∙ append-nil h.done

  done_front : IsFront h.done (groups_closed job shape taken)
  done_front = record { rest = []; joined = all_sent ∙ sym (append-nil h.done) }

module _ (job : Declared) (shape : Shape) (me : ℕ) (taken put put' : ℕ → List Frame) (count : ℕ) (g : Grouping) (turn mark : ℕ)
    (some_in : 0 < shape.parsers) (some_out : 0 < shape.processors) (h : StateStands job shape me taken put count g None turn mark false) where
  pub puts_mark : (l : ℕ) → least_mark g.marks ≡ Some l → upto (is_closed (is_past g.marks) g.window) g.held ≡ [] → mark < l - g.window
      → PutsAll shape.processors put put' (GroupMark (l - g.window)) → StateStands job shape me taken put' count g None turn (l - g.window) false
  puts_mark l is settled up all = record {
    done = h.done;
    added = h.added;
    marks = h.marks + 1;
    gathers = h.gathers;
    keeps = promising.promised job shape me taken put' h.done None turn (l - g.window) (h.marks + 1) false links_more
        (done_front job shape me taken put put' count g turn mark false settled h)
        (subst (λ (w : ℕ). promising.IsLate job shape me taken h.done (l - w)) (sym h.gathers.stands.one_window)
        (promising.late_mark job shape me taken h.done l (sym (gathering.least_is job shape me taken g (h.done ++ []) h.added h.gathers) ∙ is)
        (all_sent job shape me taken put put' count g turn mark false settled h)))
        (λ e. absurd (cc));
    links = links_more;
    turn_is = h.turn_is;
    has_more = tt;
    over = λ e. absurd (cc);
    few =
        let old = h.few in
        let own : mark_of g ≡ Some (l - g.window) = ap (λ (o : Option ℕ). out_mark o g.window) is in
        let was : one_if (is_mark_due (mark_of g) mark) ≡ 1 = ap (λ (o : Option ℕ). one_if (is_mark_due o mark)) own ∙ ap one_if (lt-ltb mark (l - g.window) up) in
        let now : one_if (is_mark_due (mark_of g) (l - g.window)) ≡ 0 = ap (λ (o : Option ℕ). one_if (is_mark_due o (l - g.window))) own ∙ ap one_if (not_less (l - g.window)) in
        omega (arith, old, was, now);
  }
    where
      not_less : (k : ℕ) → nat_lt k k ≡ false
      not_less k = grind (arith, nat_tests)

      time : IsTime (l - g.window)
      time = let own = least_time job shape me taken g (h.done ++ []) h.added some_in h.gathers l is in omega (arith, own)

      links_more : (q : ℕ) → q < shape.processors → LinkHas job shape.processors me q (put' q) h.done None turn (l - g.window) (h.marks + 1) false
      links_more q hq =
          subst (λ fs. LinkHas job shape.processors me q fs h.done None turn (l - g.window) (h.marks + 1) false) (sym (all q hq))
          (linked.pushed job shape.processors me q (put q) (GroupMark (l - g.window)) h.done None turn mark h.marks h.done None turn (l - g.window) (h.marks + 1) false (h.links q hq)
          (linked.mark_pushes job shape.processors me q (put q) h.done turn mark h.marks (l - g.window) (h.links q hq) time (omega (arith, up))))

  pub puts_end : least_mark g.marks ≡ None → g.held ≡ [] → PutsAll shape.processors put put' Finish → StateStands job shape me taken put' count g None turn mark true
  puts_end none empty all = record {
    done = h.done;
    added = h.added;
    marks = h.marks;
    gathers = h.gathers;
    keeps = promising.promised job shape me taken put' h.done None turn mark h.marks true links_more
        (done_front job shape me taken put put' count g turn mark false settled h)
        (promising.late_of job shape me taken put h.done None turn mark h.marks false h.links some_out h.keeps)
        (λ e. (
          sym (gathering.least_is job shape me taken g (h.done ++ []) h.added h.gathers) ∙ none,
          sym (all_sent job shape me taken put put' count g turn mark false settled h),
        ));
    links = links_more;
    turn_is = h.turn_is;
    has_more = tt;
    over = λ e. refl;
    few = h.few;
  }
    where
      settled : upto (is_closed (is_past g.marks) g.window) g.held ≡ []
      settled = ap (upto (is_closed (is_past g.marks) g.window)) empty

      links_more : (q : ℕ) → q < shape.processors → LinkHas job shape.processors me q (put' q) h.done None turn mark h.marks true
      links_more q hq =
          subst (λ fs. LinkHas job shape.processors me q fs h.done None turn mark h.marks true) (sym (all q hq))
          (linked.pushed job shape.processors me q (put q) Finish h.done None turn mark h.marks h.done None turn mark h.marks true (h.links q hq)
          (linked.end_pushes job shape.processors me q (put q) h.done turn mark h.marks (h.links q hq)))

-- ---- what this promises

module _ (job : Declared) (shape : Shape) (me : ℕ) (taken put : ℕ → List Frame) (count : ℕ) (g : Grouping) (turn mark : ℕ) (finished : Bool)
    (some_out : 0 < shape.processors) (h : StateStands job shape me taken put count g None turn mark finished) where
  -- where a capture goes on the end was not put
  pub not_over : (l : ℕ) → least_of_captures job shape taken ≡ Some l → (b : Bool) → finished ≡ b → finished ≡ false
  not_over l is false e = e
  not_over l is true e =
      let there = of_finish (put 0) ((h.links 0 some_out).ends ∙ e) in
      let none = (h.keeps.finish 0 some_out there).0 in
      absurd (let bad : Some l ≡ None = sym is ∙ none in cc)

  pub rested : upto (is_closed (is_past g.marks) g.window) g.held ≡ [] → is_mark_due (mark_of g) mark ≡ false → GrouperSendsAll job shape me taken put
  rested settled not_due = record {
    groups = λ q hq. (h.links q hq).groups ∙ ap (dealt shape.processors me q) (sym (all_sent job shape me taken put put count g turn mark finished settled h));
    marks = λ q l hq is.
        let late = promising.late_of job shape me taken put h.done None turn mark h.marks finished h.links some_out h.keeps in
        let low = late.low l is in
        let own : mark_of g ≡ Some (l - job.window) =
        ap (λ (o : Option ℕ). out_mark o g.window) (gathering.least_is job shape me taken g (h.done ++ []) h.added h.gathers ∙ is)
        ∙ ap (λ (w : ℕ). Some (l - w)) h.gathers.stands.one_window in
        let at : nat_lt mark (l - job.window) ≡ false = ap (λ (o : Option ℕ). is_mark_due o mark) (sym own) ∙ not_due in
        (h.links q hq).bound (not_over l is finished refl) ∙ ap (λ (k : ℕ). Some k) (reached mark (l - job.window) low at);
  }
    where
      reached : (m k : ℕ) → m ≤ k → nat_lt m k ≡ false → m ≡ k
      reached m k low at = grind (arith, nat_tests)

pub few_put : (job : Declared) (shape : Shape) (me : ℕ) (taken put : ℕ → List Frame) (count : ℕ) (g : Grouping) (going : Option Outgoing) (turn mark : ℕ) (finished : Bool)
    → StateStands job shape me taken put count g going turn mark finished → (q : ℕ) → q < shape.processors → length (put q) ≤ 2 * count + 1
few_put job shape me taken put count g going turn mark finished h q hq =
    let all = held_once g job.window h.added (heads_put h.done going) h.gathers.stands in
    let own = (h.links q hq).few in
    let few = h.few in
    omega (arith, all, own, few, one_most finished, with_going going h.has_more, sum_by-append (λ (y : Copies). length y.members) h.done (going_groups going))
  where
    with_going : (going : Option Outgoing) → HasMore going → frames_going going ≤ 2 * members_in (going_groups going)
    with_going None more = omega arith
    with_going (Some o) more = omega (arith, more, one_group o.group)
      where
        one_group : (x : Copies) → members_in (x ∷ []) ≡ length x.members
        one_group x = sum_by-cons (λ (y : Copies). length y.members) x [] ∙ zero_more (length x.members)
          where
            zero_more : (k : ℕ) → k + 0 ≡ k
            zero_more k = omega arith

pub ends_put : (job : Declared) (shape : Shape) (me : ℕ) (taken put : ℕ → List Frame) (count : ℕ) (g : Grouping) (going : Option Outgoing) (turn mark : ℕ) (finished : Bool)
    → StateStands job shape me taken put count g going turn mark finished → finished ≡ true → (q : ℕ) → q < shape.processors → IsIn Finish (put q)
ends_put job shape me taken put count g going turn mark finished h e q hq = of_finish (put q) ((h.links q hq).ends ∙ e)

-- ---- nothing was taken, and nothing put

pub starts : (job : Declared) (shape : Shape) (me : ℕ) (taken put : ℕ → List Frame) (turn : ℕ) (g : Grouping) → ((p : ℕ) → taken p ≡ []) → ((q : ℕ) → put q ≡ [])
    → StandsFor g job.window [] [] → g.marks ≡ replicate (length job.captures) (Some 0) → me % shape.processors ≡ turn
    → StateStands job shape me taken put 0 g None turn 0 false
starts job shape me taken put turn g none_taken none_put stands marks_are own = record {
  done = [];
  added = [];
  marks = 0;
  gathers = gathers;
  keeps = promising.promised job shape me taken put [] None turn 0 0 false links (record { rest = groups_closed job shape taken; joined = refl })
      (record { low = λ l e. omega arith; late = λ q x hq there less. absurd (omega (arith, less)) }) (λ e. absurd (cc));
  links = links;
  turn_is = ap (λ (k : ℕ). k % shape.processors) (zero_more me) ∙ own;
  has_more = tt;
  over = λ e. absurd (cc);
  few = let none : one_if (is_mark_due (mark_of g) 0) ≡ 0 = ap (λ (ms : List (Option ℕ)). one_if (is_mark_due (out_mark (least_mark ms) g.window) 0)) marks_are ∙ none_due (length job.captures) in omega (arith, none);
}
  where
    zero_more : (k : ℕ) → k + 0 ≡ k
    zero_more k = omega arith

    none_came : (ks : List ℕ) → flat_map (λ p. items_in (taken p)) ks ≡ none_of
    none_came [] = refl
    none_came (k ∷ ks) = ap (λ fs. items_in fs ++ flat_map (λ p. items_in (taken p)) ks) (none_taken k) ∙ none_came ks

    gathers : Gathers job shape me taken g ([] ++ []) []
    gathers = record {
      lawful = λ p hp. subst (λ fs. AreLawfulItems job shape p me fs) (sym (none_taken p)) tt;
      same = subst (IsPermutation none_of) (sym (none_came (below shape.parsers))) (IsPermutation-refl none_of);
      stands = stands;
      marks_many = ap length marks_are ∙ length-replicate (length job.captures) (Some 0);
      marks_are = λ c hc.
          ap (λ (ms : List (Option ℕ)). get_or ms c None) marks_are ∙ get_or-replicate (length job.captures) c (Some 0) None hc
          ∙ sym (ap (bound_in (of_items c)) (none_taken (c % shape.parsers)));
    }

    links : (q : ℕ) → q < shape.processors → LinkHas job shape.processors me q (put q) [] None turn 0 0 false
    links q hq = subst (λ fs. LinkHas job shape.processors me q fs [] None turn 0 0 false) (sym (none_put q)) (record {
      lawful = tt;
      groups = refl;
      begun = refl;
      heads = λ first n key there. absurd there;
      announced = omega arith;
      told = λ m there. absurd there;
      last = λ some. absurd (omega (arith, some));
      bound = λ e. refl;
      ends = refl;
      few = omega arith;
    })

    least_zero : (n : ℕ) → (least_mark (replicate n (Some 0)) ≡ None) ⊎ (least_mark (replicate n (Some 0)) ≡ Some 0)
    least_zero zero = inl refl
    least_zero (suc n) = inr (⊎_elim
        (λ (e : least_mark (replicate n (Some 0)) ≡ None). ap (lesser (Some 0)) e)
        (λ (e : least_mark (replicate n (Some 0)) ≡ Some 0). ap (lesser (Some 0)) e)
        (least_zero n))

    none_due : (n : ℕ) → one_if (is_mark_due (out_mark (least_mark (replicate n (Some 0))) g.window) 0) ≡ 0
    none_due n =
        ⊎_elim
        (λ (e : least_mark (replicate n (Some 0)) ≡ None). ap (λ (o : Option ℕ). one_if (is_mark_due (out_mark o g.window) 0)) e)
        (λ (e : least_mark (replicate n (Some 0)) ≡ Some 0). ap (λ (o : Option ℕ). one_if (is_mark_due (out_mark o g.window) 0)) e ∙ ap one_if (at_zero g.window))
        (least_zero n)
      where
        at_zero : (w : ℕ) → nat_lt 0 (0 - w) ≡ false
        at_zero w = grind (arith, nat_tests)
