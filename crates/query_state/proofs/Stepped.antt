-- A state stands for what was taken and put, one frame more at a time.
use Rattle.std.proofs.Common.{ℕ, zero, suc, Bool, true, false, List, [], ◌∷◌, ◌++◌, ◌≡◌, ◌<◌, ◌≤◌, ◌+◌, ◌-◌, ◌^◌, ◌⊎◌, Option, Some, None, inl, inr, refl, sym, ap, subst, ◌∙◌, ⊎_elim, arith, map, length, set, get_or, max, length-append}
use Rattle.std.specs.Prelude.{sum_by, replicate, slice_get, ◌==◌, nat_lt, ◌≢◌, if◌then◌else◌}
use Rattle.std.specs.List.{AllByRecursion, range_with_len}
use Rattle.std.proofs.lemmas.Bool.{cases_Bool, both_ways, eq-eqb, eqb-true, ltb-true, lt-ltb}
use Rattle.std.proofs.lemmas.Bool.Decides.{nat_tests}
use Rattle.std.proofs.lemmas.List.{append-nil, get_or-set_same, get_or-set_other, set-get_or, length-set, map-set}
use Rattle.std.proofs.lemmas.List.Sums.{sum_by-set, sum_by-cons, sum_by-append}
use Rattle.credit_link.specs.Frames.{has_finish, is_finish}
use Rattle.ds_base.specs.Copies.{Copies}
use Rattle.ds_base.specs.Fronts.{IsIn}
use Rattle.ds_base.specs.declared.profile_row.ProfileRow.{ProfileRow}
use Rattle.ds_base.specs.declared.stamp.Stamp.{Stamp}
use Rattle.ds_base.specs.declared.verdict.Answer.{Answer}
use Rattle.node_frames.specs.declared.frame.Frame.{Frame}
use Rattle.node_frames.specs.declared.frame.Frame.TheVariants.{Item, Mark, CaptureEnd, GroupHead, Member, GroupMark, AnswerRow, Profile, CountsRow, Finish}
use Rattle.central_report.specs.Answering.{IsAnswerable}
use Rattle.profiles.specs.Delays.{delays, times_between}
use Rattle.profiles.specs.Rows.{count_of, IsSound as IsSoundRow}
use Rattle.profiles.proofs.Windows.{few_delays, few_in_group}
use Rattle.window_grouper.specs.Groups.{members_in}
use Rattle.summary_spec.specs.Declaration.{Declared}
use Rattle.summary_spec.specs.Lawful.{IsLawful}
use Rattle.watermarks.specs.Least.{least_mark, under}
use Rattle.watermarks.specs.Raised.{raised_to}
use Rattle.run_law.specs.Links.{Permits, MayFollow, GroupRule, IsNextMember}
use Rattle.run_law.specs.Nodes.{below, least_of_links, answer_of, groups_arrived, IsAskedProfile}
use Rattle.run_law.specs.Sent.{Begun, with_member, still_begun, made_whole, groups_in, begun_in, begun_after, whole_with, of_firsts, bound_in, bound_after}
use Rattle.run_law.proofs.Bounds.{not_under}
use Rattle.run_law.proofs.Lists.{all_in}
use Rattle.run_law.proofs.Standing.{group_mark_left_open}
use Rattle.query_state.specs.States.{StateStands, TakesOne, AddsGroup, StateIs, MayTake, is_mark_due, taken_on, taken_more}
use Rattle.query_state.specs.Takings.{new_taking, begun_taking, copies_taken}
use Rattle.query_state.proofs.Stepping as stepping
use Rattle.query_state.proofs.Putting.{bound_push}
use Rattle.query_state.proofs.Lawful.{few_members}
use Rattle.query_state.proofs.Whole.{IsWhole, begun_push, groups_push, brought, whole_answerable}

-- ---- one link of several

pub takes_one : (taken : List (List Frame)) (g : ℕ) (f : Frame) → g < length taken → TakesOne (taken_on taken) (taken_on (taken_more taken g f)) g f
takes_one taken g f less = record {
  here = get_or-set_same taken g (taken_on taken g ++ f ∷ []) [] less;
  others = λ k other. get_or-set_other taken g k (taken_on taken g ++ f ∷ []) [] other;
}

one_more : (taken : List (List Frame)) (g : ℕ) (f : Frame) → g < length taken → sum_by length (taken_more taken g f) ≡ sum_by length taken + 1
one_more taken g f less =
    let all = sum_by-set length taken g (taken_on taken g ++ f ∷ []) [] less in
    omega (arith, all, length-append (taken_on taken g) (f ∷ []))

as_many : (taken : List (List Frame)) (g : ℕ) (f : Frame) → length (taken_more taken g f) ≡ length taken
as_many taken g f = length-set taken g (taken_on taken g ++ f ∷ [])

-- behind the end no frame may stand
open_yet : (before : List Frame) (f : Frame) → AllByRecursion (λ earlier. Permits earlier f) before → has_finish before ≡ false
open_yet [] f h = refl
open_yet (Finish ∷ fs) f h = absurd h.0
open_yet (Item t ∷ fs) f h = open_yet fs f h.1
open_yet (Mark c m ∷ fs) f h = open_yet fs f h.1
open_yet (CaptureEnd c ∷ fs) f h = open_yet fs f h.1
open_yet (GroupHead first members key ∷ fs) f h = open_yet fs f h.1
open_yet (Member at vals ∷ fs) f h = open_yet fs f h.1
open_yet (GroupMark m ∷ fs) f h = open_yet fs f h.1
open_yet (AnswerRow a ∷ fs) f h = open_yet fs f h.1
open_yet (Profile row ∷ fs) f h = open_yet fs f h.1
open_yet (CountsRow c k ∷ fs) f h = open_yet fs f h.1

-- ---- what is kept of each link

lanes_more : (taken : List (List Frame)) (lanes : List Begun) (g : ℕ) (f : Frame) (b : Begun) → g < length taken → length lanes ≡ length taken
    → ((k : ℕ) → k < length taken → still_begun (get_or lanes k new_taking) ≡ begun_in (taken_on taken k))
    → still_begun b ≡ begun_after (begun_in (taken_on taken g)) f
    → (k : ℕ) → k < length taken → still_begun (get_or (set lanes g b) k new_taking) ≡ begun_in (taken_on (taken_more taken g f) k)
lanes_more taken lanes g f b less long old is k hk =
    ⊎_elim
    (λ (t : (k == g) ≡ true).
    let e : k ≡ g = eqb-true k g t in
    subst (λ (j : ℕ). still_begun (get_or (set lanes g b) j new_taking) ≡ begun_in (taken_on (taken_more taken g f) j)) (sym e) here)
    (λ (differs : (k == g) ≡ false).
    let other : k ≡ g → ⊥ = λ e. absurd (both_ways (k == g) differs (eq-eqb k g e)) in
    ap still_begun (get_or-set_other lanes g k b new_taking other) ∙ old k hk
    ∙ ap begun_in (sym (get_or-set_other taken g k (taken_on taken g ++ f ∷ []) [] other)))
    (cases_Bool (k == g))
  where
    here : still_begun (get_or (set lanes g b) g new_taking) ≡ begun_in (taken_on (taken_more taken g f) g)
    here =
        ap still_begun (get_or-set_same lanes g b new_taking (omega (arith, less, long))) ∙ is ∙ sym (begun_push None (taken_on taken g) f)
        ∙ ap begun_in (sym (get_or-set_same taken g (taken_on taken g ++ f ∷ []) [] less))

marks_more : (taken : List (List Frame)) (g : ℕ) (f : Frame) (marks : List (Option ℕ)) → marks ≡ map (bound_in of_firsts) taken
    → set marks g (bound_after (bound_in of_firsts (taken_on taken g)) (of_firsts f)) ≡ map (bound_in of_firsts) (taken_more taken g f)
marks_more taken g f marks is =
    ap (λ (ms : List (Option ℕ)). set ms g (bound_after (bound_in of_firsts (taken_on taken g)) (of_firsts f))) is
    ∙ ap (λ (b : Option ℕ). set (map (bound_in of_firsts) taken) g b) (sym (bound_push of_firsts (taken_on taken g) f))
    ∙ sym (map-set (bound_in of_firsts) taken g (taken_on taken g ++ f ∷ []))

mark_at : (taken : List (List Frame)) (g : ℕ) (marks : List (Option ℕ)) → marks ≡ map (bound_in of_firsts) taken → g < length taken
    → get_or marks g None ≡ bound_in of_firsts (taken_on taken g)
mark_at taken g marks is less = ap (λ (ms : List (Option ℕ)). get_or ms g None) is ∙ at taken g less
  where
    at : (xs : List (List Frame)) (k : ℕ) → k < length xs → get_or (map (bound_in of_firsts) xs) k None ≡ bound_in of_firsts (get_or xs k [])
    at [] k h = absurd (omega (arith, h))
    at (x ∷ xs) zero h = refl
    at (x ∷ xs) (suc k) h = at xs k (omega (arith, h))

same_marks : (taken : List (List Frame)) (g : ℕ) (f : Frame) (marks : List (Option ℕ)) → marks ≡ map (bound_in of_firsts) taken → g < length taken → of_firsts f ≡ None
    → marks ≡ map (bound_in of_firsts) (taken_more taken g f)
same_marks taken g f marks is less none =
    sym (set-get_or marks g None) ∙ ap (λ (b : Option ℕ). set marks g b) (mark_at taken g marks is less ∙ unchanged (bound_in of_firsts (taken_on taken g)) (of_firsts f) none)
    ∙ marks_more taken g f marks is
  where
    unchanged : (b : Option ℕ) (saying : Option (Option ℕ)) → saying ≡ None → b ≡ bound_after b saying
    unchanged None saying e = refl
    unchanged (Some m) saying e = rw e refl

same_lanes : (taken : List (List Frame)) (lanes : List Begun) (g : ℕ) (f : Frame) → g < length taken → length lanes ≡ length taken
    → ((k : ℕ) → k < length taken → still_begun (get_or lanes k new_taking) ≡ begun_in (taken_on taken k))
    → begun_in (taken_on taken g) ≡ begun_after (begun_in (taken_on taken g)) f
    → (k : ℕ) → k < length taken → still_begun (get_or lanes k new_taking) ≡ begun_in (taken_on (taken_more taken g f) k)
same_lanes taken lanes g f less long old same k hk =
    subst (λ (ls : List Begun). still_begun (get_or ls k new_taking) ≡ begun_in (taken_on (taken_more taken g f) k)) (set-get_or lanes g new_taking)
    (lanes_more taken lanes g f (get_or lanes g new_taking) less long old (old g less ∙ same) k hk)

-- ---- frames with which no group becomes whole

module _ (job : Declared) (taken : List (List Frame)) (put : List Frame) (lanes : List Begun) (marks : List (Option ℕ)) (rows : List ProfileRow) (mark next : ℕ) (finished : Bool)
    (g : ℕ) (f : Frame) (h : StateIs job taken put lanes marks rows mark next finished) (takes : MayTake job taken g f) where
  stands_more : whole_with (begun_in (taken_on taken g)) f ≡ []
      → StateStands job (length (taken_more taken g f)) (sum_by length (taken_more taken g f)) (taken_on (taken_more taken g f)) put rows mark next finished
  stands_more none =
      subst (λ (n : ℕ). StateStands job n (sum_by length (taken_more taken g f)) (taken_on (taken_more taken g f)) put rows mark next finished) (sym (as_many taken g f))
      (subst (λ (c : ℕ). StateStands job (length taken) c (taken_on (taken_more taken g f)) put rows mark next finished) (sym (one_more taken g f takes.there))
      (stepping.takes_none job (length taken) (sum_by length taken) (taken_on taken) (taken_on (taken_more taken g f)) put rows mark next finished g f takes.there
      (takes_one taken g f takes.there) takes.may (open_yet (taken_on taken g) f takes.may.permitted) h.stands none))

  pub lane_changes : whole_with (begun_in (taken_on taken g)) f ≡ [] → of_firsts f ≡ None → (b : Begun) → still_begun b ≡ begun_after (begun_in (taken_on taken g)) f
      → StateIs job (taken_more taken g f) put (set lanes g b) marks rows mark next finished
  lane_changes none silent b is = record {
    job_is = h.job_is;
    few_links = omega (arith, as_many taken g f, h.few_links);
    stands = stands_more none;
    lane_each = length-set lanes g b ∙ h.lane_each ∙ sym (as_many taken g f);
    lanes_are = λ k hk. lanes_more taken lanes g f b takes.there h.lane_each h.lanes_are is k (omega (arith, hk, as_many taken g f));
    marks_are = same_marks taken g f marks h.marks_are takes.there silent;
    few_rows = h.few_rows;
  }

  pub mark_changes : whole_with (begun_in (taken_on taken g)) f ≡ [] → begun_in (taken_on taken g) ≡ begun_after (begun_in (taken_on taken g)) f
      → StateIs job (taken_more taken g f) put lanes (set marks g (bound_after (bound_in of_firsts (taken_on taken g)) (of_firsts f))) rows mark next finished
  mark_changes none same = record {
    job_is = h.job_is;
    few_links = omega (arith, as_many taken g f, h.few_links);
    stands = stands_more none;
    lane_each = h.lane_each ∙ sym (as_many taken g f);
    lanes_are = λ k hk. same_lanes taken lanes g f takes.there h.lane_each h.lanes_are same k (omega (arith, hk, as_many taken g f));
    marks_are = marks_more taken g f marks h.marks_are;
    few_rows = h.few_rows;
  }

module _ (job : Declared) (taken : List (List Frame)) (put : List Frame) (lanes : List Begun) (marks : List (Option ℕ)) (rows : List ProfileRow) (mark next : ℕ) (finished : Bool)
    (g : ℕ) (h : StateIs job taken put lanes marks rows mark next finished) where
  pub takes_head : (first : Stamp) (members : ℕ) (key : List ℕ) → MayTake job taken g (GroupHead first members key)
      → StateIs job (taken_more taken g (GroupHead first members key)) put (set lanes g (begun_taking first members key)) marks rows mark next finished
  takes_head first members key takes =
      lane_changes job taken put lanes marks rows mark next finished g (GroupHead first members key) h takes (none_whole (begun_in (taken_on taken g))) refl
      (begun_taking first members key) (some_left members takes.may.own.1.filled ∙ after (begun_in (taken_on taken g)))
    where
      none_whole : (o : Option Begun) → whole_with o (GroupHead first members key) ≡ []
      none_whole None = refl
      none_whole (Some b) = refl

      after : (o : Option Begun) → Some (begun_taking first members key) ≡ begun_after o (GroupHead first members key)
      after None = refl
      after (Some b) = refl

      some_left : (n : ℕ) → 1 ≤ n → still_begun (begun_taking first n key) ≡ Some (begun_taking first n key)
      some_left n some = let not_none : (n == 0) ≡ false = grind (arith, nat_tests) in rw not_none refl

  pub takes_mark : (m : ℕ) → MayTake job taken g (GroupMark m)
      → StateIs job (taken_more taken g (GroupMark m)) put lanes (set marks g (raised_to m (get_or marks g None))) rows mark next finished
  takes_mark m takes =
      subst (λ (b : Option ℕ). StateIs job (taken_more taken g (GroupMark m)) put lanes (set marks g b) rows mark next finished)
      (sym (ap (λ (b : Option ℕ). raised_to m b) (mark_at taken g marks h.marks_are takes.there) ∙ raises (bound_in of_firsts (taken_on taken g)) refl))
      (mark_changes job taken put lanes marks rows mark next finished g (GroupMark m) h takes (none_whole (begun_in (taken_on taken g))) (after (begun_in (taken_on taken g))))
    where
      none_whole : (o : Option Begun) → whole_with o (GroupMark m) ≡ []
      none_whole None = refl
      none_whole (Some b) = refl

      after : (o : Option Begun) → o ≡ begun_after o (GroupMark m)
      after None = refl
      after (Some b) = refl

      raises : (b : Option ℕ) → bound_in of_firsts (taken_on taken g) ≡ b → raised_to m b ≡ bound_after b (Some (Some m))
      raises None e = refl
      raises (Some v) e =
          let late : under (bound_in of_firsts (taken_on taken g)) m ≡ false =
          not_under of_firsts (taken_on taken g) m (group_mark_left_open (GroupMark m) m (taken_on taken g) refl takes.may.permitted) in
          let over : nat_lt m v ≡ false = subst (λ (o : Option ℕ). under o m ≡ false) e late in
          let most : max v m ≡ m = grind (arith, nat_tests) in
          ap (λ (k : ℕ). Some k) most

  pub takes_end : MayTake job taken g Finish → StateIs job (taken_more taken g Finish) put lanes (set marks g None) rows mark next finished
  takes_end takes =
      subst (λ (b : Option ℕ). StateIs job (taken_more taken g Finish) put lanes (set marks g b) rows mark next finished) (ends (bound_in of_firsts (taken_on taken g)))
      (mark_changes job taken put lanes marks rows mark next finished g Finish h takes (none_whole (begun_in (taken_on taken g))) (after (begun_in (taken_on taken g))))
    where
      none_whole : (o : Option Begun) → whole_with o Finish ≡ []
      none_whole None = refl
      none_whole (Some b) = refl

      after : (o : Option Begun) → o ≡ begun_after o Finish
      after None = refl
      after (Some b) = refl

      ends : (b : Option ℕ) → bound_after b (Some None) ≡ None
      ends None = refl
      ends (Some m) = refl

abbrev none_of : (X : Type 0) → List X
none_of X = []

-- nothing was taken
pub starts : (job : Declared) (n : ℕ) → IsLawful job → n ≤ 16 → StateIs job (replicate n []) [] (replicate n new_taking) (replicate n (Some 0)) [] 0 0 false
starts job n lawful few = record {
  job_is = lawful;
  few_links = omega (arith, many n, few);
  stands = subst (λ (c : ℕ). StateStands job (length (replicate n (none_of Frame))) c (taken_on (replicate n (none_of Frame))) [] [] 0 0 false) (sym (no_frames n))
      (stepping.starts job (length (replicate n (none_of Frame))) (taken_on (replicate n (none_of Frame))) (λ g. no_frame n g));
  lane_each = lanes n;
  lanes_are = λ g less. ap still_begun (no_lane n g) ∙ sym (ap begun_in (no_frame n g));
  marks_are = no_marks n;
  few_rows = omega arith;
}
  where
    many : (n : ℕ) → length (replicate n (none_of Frame)) ≡ n
    many zero = refl
    many (suc n) = ap suc (many n)

    no_frames : (n : ℕ) → sum_by length (replicate n (none_of Frame)) ≡ 0
    no_frames zero = refl
    no_frames (suc n) = let rest = no_frames n in omega (arith, sum_by-cons (λ (fs : List Frame). length fs) (none_of Frame) (replicate n (none_of Frame)), rest)

    no_frame : (n g : ℕ) → get_or (replicate n (none_of Frame)) g [] ≡ []
    no_frame zero g = refl
    no_frame (suc n) zero = refl
    no_frame (suc n) (suc g) = no_frame n g

    lanes : (n : ℕ) → length (replicate n new_taking) ≡ length (replicate n (none_of Frame))
    lanes zero = refl
    lanes (suc n) = ap suc (lanes n)

    no_lane : (n g : ℕ) → get_or (replicate n new_taking) g new_taking ≡ new_taking
    no_lane zero g = refl
    no_lane (suc n) zero = refl
    no_lane (suc n) (suc g) = no_lane n g

    no_marks : (n : ℕ) → replicate n (Some 0) ≡ map (bound_in of_firsts) (replicate n (none_of Frame))
    no_marks zero = refl
    no_marks (suc n) = ap (λ (ms : List (Option ℕ)). Some 0 ∷ ms) (no_marks n)

pub starts_at : (job : Declared) (n : ℕ) (lanes : List Begun) (marks : List (Option ℕ)) (rows : List ProfileRow) → IsLawful job → n ≤ 16 → lanes ≡ replicate n new_taking
    → marks ≡ replicate n (Some 0) → rows ≡ [] → StateIs job (replicate n []) [] lanes marks rows 0 0 false
starts_at job n lanes marks rows lawful few no_lanes no_marks no_rows =
    subst (λ (ls : List Begun). StateIs job (replicate n []) [] ls marks rows 0 0 false) (sym no_lanes)
    (subst (λ (ms : List (Option ℕ)). StateIs job (replicate n []) [] (replicate n new_taking) ms rows 0 0 false) (sym no_marks)
    (subst (λ (rs : List ProfileRow). StateIs job (replicate n []) [] (replicate n new_taking) (replicate n (Some 0)) rs 0 0 false) (sym no_rows) (starts job n lawful few)))

-- ---- the least mark

same_map : (f : List Frame → Option ℕ) (xs : List (List Frame)) (h : ℕ → Option ℕ) (a : ℕ) → ((i : ℕ) → i < length xs → h (a + i) ≡ f (get_or xs i []))
    → map h (range_with_len a (length xs)) ≡ map f xs
same_map f [] h a each = refl
same_map f (x ∷ xs) h a each =
    let first : h a ≡ f x = ap h (zero_more a) ∙ each 0 (omega arith) in
    let rest : map h (range_with_len (a + 1) (length xs)) ≡ map f xs =
    same_map f xs h (a + 1) (λ i less. ap h (moved a i) ∙ each (suc i) (omega (arith, less))) in
    ap (λ (b : Option ℕ). b ∷ map h (range_with_len (a + 1) (length xs))) first ∙ ap (λ (bs : List (Option ℕ)). f x ∷ bs) rest
  where
    zero_more : (a : ℕ) → a ≡ a + 0
    zero_more a = omega arith

    moved : (a i : ℕ) → (a + 1) + i ≡ a + suc i
    moved a i = omega arith

pub least_is : (taken : List (List Frame)) → least_of_links (length taken) (taken_on taken) ≡ least_mark (map (bound_in of_firsts) taken)
least_is taken =
    ap least_mark (same_map (bound_in of_firsts) taken (λ i. bound_in of_firsts (taken_on taken i)) 0 (λ i less. ap (λ (k : ℕ). bound_in of_firsts (taken_on taken k)) (from_zero i)))
  where
    from_zero : (i : ℕ) → 0 + i ≡ i
    from_zero i = omega arith

-- ---- members

own_begun : (job : Declared) (at : Stamp) (vals : List ℕ) (b : Begun) → IsNextMember job (still_begun b) at vals → (0 < b.left) × (still_begun b ≡ Some b)
own_begun job at vals b h =
    ⊎_elim
    (λ (t : (b.left == 0) ≡ true). absurd (let none : IsNextMember job None at vals = rw t at h in none))
    (λ (f : (b.left == 0) ≡ false). (some_left b.left f, rw f refl))
    (cases_Bool (b.left == 0))
  where
    some_left : (n : ℕ) → (n == 0) ≡ false → 0 < n
    some_left n e = grind (arith)

module _ (job : Declared) (taken : List (List Frame)) (put : List Frame) (lanes : List Begun) (marks : List (Option ℕ)) (rows : List ProfileRow) (mark next : ℕ) (finished : Bool)
    (g : ℕ) (at : Stamp) (vals : List ℕ) (h : StateIs job taken put lanes marks rows mark next finished) (takes : MayTake job taken g (Member at vals)) where
  abbrev lane : Begun
  lane = get_or lanes g new_taking

  abbrev grown : Begun
  grown = with_member at vals (get_or lanes g new_taking)

  begun : (0 < (get_or lanes g new_taking).left) × (still_begun (get_or lanes g new_taking) ≡ Some (get_or lanes g new_taking))
  begun = own_begun job at vals (get_or lanes g new_taking) (subst (λ (o : Option Begun). IsNextMember job o at vals) (sym (h.lanes_are g takes.there)) takes.may.own)

  pub member_left : 0 < (get_or lanes g new_taking).left
  member_left = begun.0

  is_begun : begun_in (taken_on taken g) ≡ Some (get_or lanes g new_taking)
  is_begun = sym (h.lanes_are g takes.there) ∙ begun.1

  after : still_begun (with_member at vals (get_or lanes g new_taking)) ≡ begun_after (begun_in (taken_on taken g)) (Member at vals)
  after = ap (λ (o : Option Begun). begun_after o (Member at vals)) (sym is_begun)

  whole_is : whole_with (begun_in (taken_on taken g)) (Member at vals) ≡ made_whole (with_member at vals (get_or lanes g new_taking))
  whole_is = ap (λ (o : Option Begun). whole_with o (Member at vals)) is_begun

  grown_at : (lanes' : List Begun) → lanes' ≡ set lanes g (with_member at vals (get_or lanes g new_taking)) → get_or lanes' g new_taking ≡ with_member at vals (get_or lanes g new_taking)
  grown_at lanes' e =
      ap (λ (ls : List Begun). get_or ls g new_taking) e
      ∙ get_or-set_same lanes g (with_member at vals (get_or lanes g new_taking)) new_taking (omega (arith, takes.there, h.lane_each))

  -- the group is not whole
  pub takes_member : ((with_member at vals (get_or lanes g new_taking)).left == 0) ≡ false
      → StateIs job (taken_more taken g (Member at vals)) put (set lanes g (with_member at vals (get_or lanes g new_taking))) marks rows mark next finished
  takes_member left =
      lane_changes job taken put lanes marks rows mark next finished g (Member at vals) h takes (whole_is ∙ not_whole) refl (with_member at vals (get_or lanes g new_taking)) after
    where
      not_whole : made_whole (with_member at vals (get_or lanes g new_taking)) ≡ []
      not_whole = rw left refl

  pub member_at : (lanes' : List Begun) → lanes' ≡ set lanes g (with_member at vals (get_or lanes g new_taking)) → ((with_member at vals (get_or lanes g new_taking)).left == 0) ≡ false
      → StateIs job (taken_more taken g (Member at vals)) (put ++ []) lanes' marks rows mark next finished
  member_at lanes' e left =
      subst (λ (fs : List Frame). StateIs job (taken_more taken g (Member at vals)) fs lanes' marks rows mark next finished) (sym (append-nil put))
      (subst (λ (ls : List Begun). StateIs job (taken_more taken g (Member at vals)) put ls marks rows mark next finished) (sym e) (takes_member left))

  module _ (last : ((with_member at vals (get_or lanes g new_taking)).left == 0) ≡ true) where
    abbrev x : Copies
    x = copies_taken (with_member at vals (get_or lanes g new_taking))

    now_whole : whole_with (begun_in (taken_on taken g)) (Member at vals) ≡ copies_taken (with_member at vals (get_or lanes g new_taking)) ∷ []
    now_whole = whole_is ∙ made
      where
        made : made_whole (with_member at vals (get_or lanes g new_taking)) ≡ copies_taken (with_member at vals (get_or lanes g new_taking)) ∷ []
        made = rw last refl

    one : TakesOne (taken_on taken) (taken_on (taken_more taken g (Member at vals))) g (Member at vals)
    one = takes_one taken g (Member at vals) takes.there

    is_whole : IsWhole job (copies_taken (with_member at vals (get_or lanes g new_taking)))
    is_whole = stepping.whole_more job (length taken) g (taken_on taken) (taken_on (taken_more taken g (Member at vals))) (Member at vals) takes.there one h.stands.arrives.lawful takes.may
        (copies_taken (with_member at vals (get_or lanes g new_taking))) now_whole

    pub last_answerable : IsAnswerable job (copies_taken (with_member at vals (get_or lanes g new_taking)))
    last_answerable = whole_answerable job (copies_taken (with_member at vals (get_or lanes g new_taking))) h.job_is is_whole

    few_of_group : length (copies_taken (with_member at vals (get_or lanes g new_taking))).members ≤ 2 ^ 46
    few_of_group =
        let came = brought job (taken_on (taken_more taken g (Member at vals)) g)
        (stepping.lawful_more job (length taken) g (taken_on taken) (taken_on (taken_more taken g (Member at vals))) (Member at vals) takes.there one h.stands.arrives.lawful takes.may g takes.there) in
        let groups : groups_in (taken_on (taken_more taken g (Member at vals)) g) ≡ groups_in (taken_on taken g) ++ copies_taken (with_member at vals (get_or lanes g new_taking)) ∷ [] =
        ap groups_in one.here ∙ groups_push None (taken_on taken g) (Member at vals) ∙ ap (λ (xs : List Copies). groups_in (taken_on taken g) ++ xs) now_whole in
        let split = sum_by-append (λ (y : Copies). length y.members) (groups_in (taken_on taken g)) (copies_taken (with_member at vals (get_or lanes g new_taking)) ∷ []) in
        let single = sum_by-cons (λ (y : Copies). length y.members) (copies_taken (with_member at vals (get_or lanes g new_taking))) [] in
        let counted = came.counted in
        let few = came.few in
        let same : members_in (groups_in (taken_on (taken_more taken g (Member at vals)) g)) ≡ members_in (groups_in (taken_on taken g) ++ copies_taken (with_member at vals (get_or lanes g new_taking)) ∷ []) = ap members_in groups in
        omega (arith, split, single, counted, few, same)

    pub last_few : (from to : ℕ) → count_of from to rows + length (times_between from to (delays (copies_taken (with_member at vals (get_or lanes g new_taking))).members)) < 2 ^ 55
    last_few from to =
        let own = few_in_group (copies_taken (with_member at vals (get_or lanes g new_taking))).members from to in
        let old = few_old job.profile h.stands.arrives.profile in
        let few = few_of_group in
        omega (arith, own, old, few)
      where
        few_old : (p : Bool) → IsAskedProfile p (groups_arrived h.stands.arrived) rows → count_of from to rows ≤ 2 ^ 50
        few_old true profile =
            let counted = few_delays (groups_arrived h.stands.arrived) rows from to profile in
            let few = few_members job (length taken) (taken_on taken) h.stands.arrived rows h.few_links h.stands.arrives in
            omega (arith, counted, few)
        few_old false empty = let none : count_of from to rows ≡ 0 = ap (count_of from to) empty in omega (arith, none)

    -- the group is whole, and its answer is put
    pub takes_last : (new : List ProfileRow) → AddsGroup job.profile (copies_taken (with_member at vals (get_or lanes g new_taking))) rows new → length new ≤ 4096
        → StateIs job (taken_more taken g (Member at vals)) (put ++ AnswerRow (answer_of job (copies_taken (with_member at vals (get_or lanes g new_taking)))) ∷ [])
        (set lanes g (with_member at vals (get_or lanes g new_taking))) marks new mark next finished
    takes_last new adds few = record {
      job_is = h.job_is;
      few_links = omega (arith, as_many taken g (Member at vals), h.few_links);
      stands =
          subst (λ (n : ℕ). StateStands job n (sum_by length (taken_more taken g (Member at vals))) (taken_on (taken_more taken g (Member at vals))) (put ++ AnswerRow (answer_of job (copies_taken (with_member at vals (get_or lanes g new_taking)))) ∷ []) new mark next finished) (sym (as_many taken g (Member at vals)))
          (subst (λ (c : ℕ). StateStands job (length taken) c (taken_on (taken_more taken g (Member at vals))) (put ++ AnswerRow (answer_of job (copies_taken (with_member at vals (get_or lanes g new_taking)))) ∷ []) new mark next finished) (sym (one_more taken g (Member at vals) takes.there))
          (stepping.takes_group job (length taken) (sum_by length taken) (taken_on taken) (taken_on (taken_more taken g (Member at vals))) put rows mark next finished g (Member at vals) takes.there
          one takes.may (open_yet (taken_on taken g) (Member at vals) takes.may.permitted) h.stands h.job_is h.few_links
          (copies_taken (with_member at vals (get_or lanes g new_taking))) new now_whole adds same_least));
      lane_each = length-set lanes g (with_member at vals (get_or lanes g new_taking)) ∙ h.lane_each ∙ sym (as_many taken g (Member at vals));
      lanes_are = λ k hk. lanes_more taken lanes g (Member at vals) (with_member at vals (get_or lanes g new_taking)) takes.there h.lane_each h.lanes_are after k (omega (arith, hk, as_many taken g (Member at vals)));
      marks_are = marks_same;
      few_rows = few;
    }
      where
        marks_same : marks ≡ map (bound_in of_firsts) (taken_more taken g (Member at vals))
        marks_same = same_marks taken g (Member at vals) marks h.marks_are takes.there refl

        same_least : least_of_links (length taken) (taken_on (taken_more taken g (Member at vals))) ≡ least_of_links (length taken) (taken_on taken)
        same_least =
            ap (λ (n : ℕ). least_of_links n (taken_on (taken_more taken g (Member at vals)))) (sym (as_many taken g (Member at vals)))
            ∙ least_is (taken_more taken g (Member at vals)) ∙ ap least_mark (sym marks_same ∙ h.marks_are) ∙ sym (least_is taken)

    -- the same by what the calls say
    pub last_at : (lanes' : List Begun) → lanes' ≡ set lanes g (with_member at vals (get_or lanes g new_taking)) → (a : Answer) → a ≡ answer_of job (copies_taken (get_or lanes' g new_taking))
        → (new : List ProfileRow) → AddsGroup job.profile (copies_taken (get_or lanes' g new_taking)) rows new → length new ≤ 4096
        → StateIs job (taken_more taken g (Member at vals)) (put ++ AnswerRow a ∷ []) lanes' marks new mark next finished
    last_at lanes' e a is new adds few =
        let at_g = grown_at lanes' e in
        subst (λ (ls : List Begun). StateIs job (taken_more taken g (Member at vals)) (put ++ AnswerRow a ∷ []) ls marks new mark next finished) (sym e)
        (subst (λ (b : Answer). StateIs job (taken_more taken g (Member at vals)) (put ++ AnswerRow b ∷ []) (set lanes g (with_member at vals (get_or lanes g new_taking))) marks new mark next finished)
        (sym (is ∙ ap (λ (b : Begun). answer_of job (copies_taken b)) at_g))
        (takes_last new (subst (λ (b : Begun). AddsGroup job.profile (copies_taken b) rows new) at_g adds) few))

    pub answerable_at : (lanes' : List Begun) → lanes' ≡ set lanes g (with_member at vals (get_or lanes g new_taking)) → IsAnswerable job (copies_taken (get_or lanes' g new_taking))
    answerable_at lanes' e = subst (λ (b : Begun). IsAnswerable job (copies_taken b)) (sym (grown_at lanes' e)) last_answerable

    pub few_at : (lanes' : List Begun) → lanes' ≡ set lanes g (with_member at vals (get_or lanes g new_taking)) → (from to : ℕ)
        → count_of from to rows + length (times_between from to (delays (get_or lanes' g new_taking).members)) < 2 ^ 55
    few_at lanes' e from to =
        subst (λ (b : Begun). count_of from to rows + length (times_between from to (delays b.members)) < 2 ^ 55) (sym (grown_at lanes' e)) (last_few from to)

-- ---- what is due

module _ (job : Declared) (taken : List (List Frame)) (put : List Frame) (lanes : List Begun) (marks : List (Option ℕ)) (rows : List ProfileRow) (mark next : ℕ)
    (h : StateIs job taken put lanes marks rows mark next false) where
  least_of_marks : least_mark marks ≡ least_of_links (length taken) (taken_on taken)
  least_of_marks = ap least_mark h.marks_are ∙ sym (least_is taken)

  with_stands : (put' : List Frame) (mark' next' : ℕ) (finished' : Bool) → StateStands job (length taken) (sum_by length taken) (taken_on taken) put' rows mark' next' finished'
      → StateIs job taken put' lanes marks rows mark' next' finished'
  with_stands put' mark' next' finished' stands = record {
    job_is = h.job_is;
    few_links = h.few_links;
    stands = stands;
    lane_each = h.lane_each;
    lanes_are = h.lanes_are;
    marks_are = h.marks_are;
    few_rows = h.few_rows;
  }

  pub puts_mark : (l : ℕ) → least_mark marks ≡ Some l → mark < l → StateIs job taken (put ++ GroupMark l ∷ []) lanes marks rows l next false
  puts_mark l is less =
      let least : least_of_links (length taken) (taken_on taken) ≡ Some l = sym least_of_marks ∙ is in
      with_stands (put ++ GroupMark l ∷ []) l next false
      (stepping.puts_mark job (length taken) (sum_by length taken) (taken_on taken) put rows mark next h.stands l least
      (ap (λ (o : Option ℕ). is_mark_due o mark) least ∙ lt-ltb mark l less))

  pub puts_row : (row : ProfileRow) → least_mark marks ≡ None → slice_get rows next ≡ Some row → IsSoundRow row
      → StateIs job taken (put ++ Profile row ∷ []) lanes marks rows mark (next + 1) false
  puts_row row is at sound =
      with_stands (put ++ Profile row ∷ []) mark (next + 1) false
      (stepping.puts_row job (length taken) (sum_by length taken) (taken_on taken) put rows mark next h.stands h.few_links (sym least_of_marks ∙ is) row at sound)

  pub puts_end : least_mark marks ≡ None → length rows ≤ next → StateIs job taken (put ++ Finish ∷ []) lanes marks rows mark next true
  puts_end is past =
      let within = h.stands.sends.within in
      with_stands (put ++ Finish ∷ []) mark next true
      (stepping.puts_end job (length taken) (sum_by length taken) (taken_on taken) put rows mark next h.stands (sym least_of_marks ∙ is) (omega (arith, within, past)))

-- where no mark is due
pub none_due : (job : Declared) (taken : List (List Frame)) (put : List Frame) (lanes : List Begun) (marks : List (Option ℕ)) (rows : List ProfileRow) (mark next : ℕ) (finished : Bool)
    → StateIs job taken put lanes marks rows mark next finished → ((l : ℕ) → least_mark marks ≡ Some l → l ≤ mark)
    → is_mark_due (least_of_links (length taken) (taken_on taken)) mark ≡ false
none_due job taken put lanes marks rows mark next finished h low =
    ap (λ (o : Option ℕ). is_mark_due o mark) (sym (ap least_mark h.marks_are ∙ sym (least_is taken))) ∙ by_least (least_mark marks) low
  where
    by_least : (o : Option ℕ) → ((l : ℕ) → o ≡ Some l → l ≤ mark) → is_mark_due o mark ≡ false
    by_least None low = refl
    by_least (Some l) low = let le = low l refl in grind (arith, nat_tests)

-- ---- the same of a state that has not finished, whatever its field says

module _ (job : Declared) (taken : List (List Frame)) (put : List Frame) (lanes : List Begun) (marks : List (Option ℕ)) (rows : List ProfileRow) (mark next : ℕ) (finished : Bool)
    (unfinished : finished ≡ false) (h : StateIs job taken put lanes marks rows mark next finished) where
  going : StateIs job taken put lanes marks rows mark next false
  going = subst (λ (b : Bool). StateIs job taken put lanes marks rows mark next b) unfinished h

  pub due_mark : (l : ℕ) → least_mark marks ≡ Some l → mark < l → StateIs job taken (put ++ GroupMark l ∷ []) lanes marks rows l next finished
  due_mark l is less =
      subst (λ (b : Bool). StateIs job taken (put ++ GroupMark l ∷ []) lanes marks rows l next b) (sym unfinished)
      (puts_mark job taken put lanes marks rows mark next going l is less)

  pub due_row : (row : ProfileRow) → least_mark marks ≡ None → slice_get rows next ≡ Some row → IsSoundRow row
      → StateIs job taken (put ++ Profile row ∷ []) lanes marks rows mark (next + 1) finished
  due_row row is at sound =
      subst (λ (b : Bool). StateIs job taken (put ++ Profile row ∷ []) lanes marks rows mark (next + 1) b) (sym unfinished)
      (puts_row job taken put lanes marks rows mark next going row is at sound)

  pub due_end : least_mark marks ≡ None → length rows ≤ next → StateIs job taken (put ++ Finish ∷ []) lanes marks rows mark next true
  due_end is past = puts_end job taken put lanes marks rows mark next going is past

-- nothing was put
pub puts_nothing : (job : Declared) (taken : List (List Frame)) (put : List Frame) (lanes : List Begun) (marks : List (Option ℕ)) (rows : List ProfileRow) (mark next : ℕ) (finished : Bool)
    → StateIs job taken put lanes marks rows mark next finished → StateIs job taken (put ++ []) lanes marks rows mark next finished
puts_nothing job taken put lanes marks rows mark next finished h =
    subst (λ (fs : List Frame). StateIs job taken fs lanes marks rows mark next finished) (sym (append-nil put)) h

-- what is left to do where nothing is due
pub nothing_due : (job : Declared) (taken : List (List Frame)) (put : List Frame) (lanes : List Begun) (marks : List (Option ℕ)) (rows : List ProfileRow) (mark next : ℕ) (finished : Bool)
    → StateIs job taken put lanes marks rows mark next finished → ((l : ℕ) → least_mark marks ≡ Some l → l ≤ mark) → (least_mark marks ≡ None → finished ≡ true)
    → (is_mark_due (least_of_links (length taken) (taken_on taken)) mark ≡ false) × (least_of_links (length taken) (taken_on taken) ≡ None → finished ≡ true)
nothing_due job taken put lanes marks rows mark next finished h low ends = (
  none_due job taken put lanes marks rows mark next finished h low,
  λ none. ends (ap least_mark h.marks_are ∙ sym (least_is taken) ∙ none),
)

-- a state that has finished: no link goes on
pub over_ends : (job : Declared) (taken : List (List Frame)) (put : List Frame) (lanes : List Begun) (marks : List (Option ℕ)) (rows : List ProfileRow) (mark next : ℕ) (finished : Bool)
    → StateIs job taken put lanes marks rows mark next finished → finished ≡ true → least_mark marks ≡ None
over_ends job taken put lanes marks rows mark next finished h e = ap least_mark h.marks_are ∙ sym (least_is taken) ∙ (h.stands.sends.over e).0
