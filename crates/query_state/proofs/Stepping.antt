-- What a processor promises, one frame more at a time.
use Rattle.std.proofs.Common.{ℕ, Bool, true, false, List, [], ◌∷◌, ◌++◌, ◌≡◌, ◌<◌, ◌≤◌, ◌+◌, ◌*◌, ◌^◌, ◌⊎◌, Option, Some, None, inl, inr, refl, sym, ap, subst, ◌∙◌, ⊎_elim, arith, map, length, take, drop}
use Rattle.std.specs.Prelude.{nat_lt, min, slice_get, ◌==◌, if◌then◌else◌}
use Rattle.std.specs.List.{AllByRecursion, range_with_len}
use Rattle.std.proofs.lemmas.Bool.{both_ways, cases_lt, cases_Bool, lt-ltb, ltb-true, eq-eqb, eqb-true}
use Rattle.std.proofs.lemmas.Bool.Decides.{nat_tests}
use Rattle.std.proofs.lemmas.List.{append-nil, append_cancel_left, map-append, take-append-drop, take_all}
use Rattle.std.proofs.lemmas.List.Sums.{sum_by-cons, sum_by-append}
use Rattle.central_report.specs.Progress.{AreRowsAmong}
use Rattle.credit_link.specs.Frames.{has_finish}
use Rattle.ds_base.specs.Copies.{Copies}
use Rattle.ds_base.specs.Fronts.{IsIn}
use Rattle.ds_base.specs.declared.profile_row.ProfileRow.{ProfileRow}
use Rattle.node_frames.specs.declared.frame.Frame.{Frame}
use Rattle.node_frames.specs.declared.frame.Frame.TheVariants.{Item, Mark, CaptureEnd, GroupHead, Member, GroupMark, AnswerRow, Profile, CountsRow, Finish}
use Rattle.profiles.specs.Profile.{IsProfile}
use Rattle.profiles.specs.Rows.{IsSound}
use Rattle.profiles.proofs.Unique.{one_profile}
use Rattle.summary_spec.specs.Declaration.{Declared}
use Rattle.summary_spec.specs.Lawful.{IsLawful}
use Rattle.watermarks.specs.Least.{lesser, least_mark, under}
use Rattle.window_grouper.specs.Groups.{members_in}
use Rattle.run_law.specs.Laws.{TakesMoreGroups}
use Rattle.run_law.specs.Links.{MayFollow, AreLawfulBehind, AreLawfulGroups, GroupRule, IsTime}
use Rattle.run_law.specs.Nodes.{below, began, answer_of, answers_of, groups_arrived, least_of_links, IsAskedProfile, HasAnsweredAll, ProcessorKeeps, ProcessorSendsAll}
use Rattle.run_law.specs.Sent.{answers_in, rows_in, groups_in, begun_in, whole_with, of_firsts, bound_in, bound_after, bound_behind}
use Rattle.run_law.specs.Shapes.{Shape, IsFront, with_number}
use Rattle.run_law.proofs.Arriving as law
use Rattle.run_law.proofs.Bounds.{not_under, under_below, mark_from}
use Rattle.run_law.proofs.Lists.{in_map, in_front, of_below, of_number, number-append}
use Rattle.run_law.proofs.More.{bound-append, bound_rises, least_rises, mark_rises}
use Rattle.run_law.proofs.Resting.{some_mark}
use Rattle.run_law.proofs.Standing.{groups_cut, group_mark_left_open}
use Rattle.run_law.proofs.Written.{ended_links}
use Rattle.query_state.specs.States.{Arrives, Sends, StateStands, TakesOne, AddsGroup, is_mark_due, one_if}
use Rattle.query_state.proofs.Lawful.{is_answer, few_members, added_among}
use Rattle.query_state.proofs.Putting.{lawful_push, in_rows, in_finish}
use Rattle.query_state.proofs.Sending as sending
use Rattle.query_state.proofs.Whole.{IsWhole, all_joined, brought, groups_push}

-- ---- one frame more on a link

module _ (job : Declared) (n g : ℕ) (taken more : ℕ → List Frame) (f : Frame) (less : g < n) (one : TakesOne taken more g f)
    (lawful : (k : ℕ) → k < n → AreLawfulGroups job (taken k)) (may : MayFollow (GroupRule job) (taken g) f) where
  here_or_not : (k : ℕ) → (k ≡ g) ⊎ (k ≡ g → ⊥)
  here_or_not k =
      ⊎_elim
      (λ (t : (k == g) ≡ true). inl (eqb-true k g t))
      (λ (not : (k == g) ≡ false). inr (λ e. absurd (both_ways (k == g) not (eq-eqb k g e))))
      (cases_Bool (k == g))

  pub lawful_more : (k : ℕ) → k < n → AreLawfulGroups job (more k)
  lawful_more k hk =
      ⊎_elim
      (λ (e : k ≡ g).
      subst (λ (j : ℕ). AreLawfulGroups job (more j)) (sym e)
      (subst (λ fs. AreLawfulGroups job fs) (sym one.here) (lawful_push (GroupRule job) (taken g) f (lawful g less) may)))
      (λ (other : k ≡ g → ⊥). subst (λ fs. AreLawfulGroups job fs) (sym (one.others k other)) (lawful k hk))
      (here_or_not k)

  pub front_more : (k : ℕ) → IsFront (taken k) (more k)
  front_more k =
      ⊎_elim
      (λ (e : k ≡ g). subst (λ (j : ℕ). IsFront (taken j) (more j)) (sym e) (record { rest = f ∷ []; joined = one.here }))
      (λ (other : k ≡ g → ⊥). record { rest = []; joined = one.others k other ∙ sym (append-nil (taken k)) })
      (here_or_not k)

  -- the least mark does not fall
  pub rises : (t : ℕ) → under (least_of_links n taken) t ≡ true → under (least_of_links n more) t ≡ true
  rises t pass =
      least_rises (λ k. bound_in of_firsts (taken k)) (λ k. bound_in of_firsts (more k)) (below n) t
      (λ k l h.
      ⊎_elim
      (λ (e : k ≡ g). subst (λ (j : ℕ). under (bound_in of_firsts (more j)) t ≡ true) (sym e) (at_g (subst (λ (j : ℕ). under (bound_in of_firsts (taken j)) t ≡ true) e h)))
      (λ (other : k ≡ g → ⊥). subst (λ fs. under (bound_in of_firsts fs) t ≡ true) (sym (one.others k other)) h)
      (here_or_not k))
      pass
    where
      at_g : under (bound_in of_firsts (taken g)) t ≡ true → under (bound_in of_firsts (more g)) t ≡ true
      at_g h =
          subst (λ fs. under (bound_in of_firsts fs) t ≡ true) (sym one.here)
          (subst (λ (b : Option ℕ). under b t ≡ true) (sym (bound-append of_firsts (Some 0) (taken g) (f ∷ [])))
          (bound_rises (GroupRule job) of_firsts (taken g) (f ∷ []) (bound_in of_firsts (taken g)) t refl (may, tt) group_mark_left_open h))

  groups_more : groups_in (more g) ≡ groups_in (taken g) ++ whole_with (begun_in (taken g)) f
  groups_more = ap groups_in one.here ∙ groups_push None (taken g) f

  -- a group that becomes whole begins no earlier than the least mark
  pub late : (x : Copies) → IsIn x (whole_with (begun_in (taken g)) f) → under (least_of_links n taken) (began x) ≡ false
  late x h =
      let cut = groups_cut job (taken g) (more g) (front_more g) (lawful_more g less) in
      let same : whole_with (begun_in (taken g)) f ≡ cut.later =
      append_cancel_left (groups_in (taken g)) (whole_with (begun_in (taken g)) f) cut.later (sym groups_more ∙ cut.joined) in
      under_below n g (λ k. bound_in of_firsts (taken k)) (began x) less
      (not_under of_firsts (taken g) (began x) (cut.left_open x (subst (λ xs. IsIn x xs) same h)))

  pub whole_more : (x : Copies) → whole_with (begun_in (taken g)) f ≡ x ∷ [] → IsWhole job x
  whole_more x e =
      let all : AllByRecursion (IsWhole job) (groups_in (more g)) = (brought job (more g) (lawful_more g less)).whole in
      last_of (groups_in (taken g)) x (subst (AllByRecursion (IsWhole job)) (groups_more ∙ ap (λ xs. groups_in (taken g) ++ xs) e) all)
    where
      last_of : (xs : List Copies) (x : Copies) → AllByRecursion (IsWhole job) (xs ++ x ∷ []) → IsWhole job x
      last_of [] x h = h.0
      last_of (y ∷ ys) x h = last_of ys x h.1

  -- the groups of each link, and those that became whole now
  pub groups_now : (xs : List Copies) → whole_with (begun_in (taken g)) f ≡ xs → (k : ℕ) → k < n
      → groups_in (taken k) ++ with_number k (map (λ (x : Copies). (g, x)) xs) ≡ groups_in (more k)
  groups_now xs e k hk =
      ⊎_elim
      (λ (same : k ≡ g).
      subst (λ (j : ℕ). groups_in (taken j) ++ with_number j (map (λ (x : Copies). (g, x)) xs) ≡ groups_in (more j)) (sym same)
      (ap (λ ys. groups_in (taken g) ++ ys) (own_numbers xs) ∙ sym (groups_more ∙ ap (λ ys. groups_in (taken g) ++ ys) e)))
      (λ (other : k ≡ g → ⊥).
      ap (λ ys. groups_in (taken k) ++ ys) (other_numbers k (differs k other) xs) ∙ append-nil (groups_in (taken k)) ∙ sym (ap groups_in (one.others k other)))
      (here_or_not k)
    where
      own_numbers : (ys : List Copies) → with_number g (map (λ (x : Copies). (g, x)) ys) ≡ ys
      own_numbers [] = refl
      own_numbers (y ∷ ys) = let own : (g == g) ≡ true = eq-eqb g g refl in rw own (ap (λ zs. y ∷ zs) (own_numbers ys))

      other_numbers : (k : ℕ) → (g == k) ≡ false → (ys : List Copies) → with_number k (map (λ (x : Copies). (g, x)) ys) ≡ []
      other_numbers k e [] = refl
      other_numbers k e (y ∷ ys) = rw e (other_numbers k e ys)

      differs : (k : ℕ) → (k ≡ g → ⊥) → (g == k) ≡ false
      differs k other =
          ⊎_elim
          (λ (t : (g == k) ≡ true). absurd (other (sym (eqb-true g k t))))
          (λ (f : (g == k) ≡ false). f)
          (cases_Bool (g == k))

  -- the groups that arrived, and those that became whole now
  pub from_more : (arrived : List (ℕ × Copies)) → ((k : ℕ) → k < n → with_number k arrived ≡ groups_in (taken k)) → (xs : List Copies)
      → whole_with (begun_in (taken g)) f ≡ xs
      → (k : ℕ) → k < n → with_number k (arrived ++ map (λ (x : Copies). (g, x)) xs) ≡ groups_in (more k)
  from_more arrived from xs e k hk =
      number-append k arrived (map (λ (x : Copies). (g, x)) xs) ∙ ap (λ ys. ys ++ with_number k (map (λ (x : Copies). (g, x)) xs)) (from k hk) ∙ groups_now xs e k hk

  pub numbers_more : (arrived : List (ℕ × Copies)) (xs : List Copies) → AllByRecursion (λ (e : ℕ × Copies). e.0 < n) arrived
      → AllByRecursion (λ (e : ℕ × Copies). e.0 < n) (arrived ++ map (λ (x : Copies). (g, x)) xs)
  numbers_more arrived xs h = all_joined (λ (e : ℕ × Copies). e.0 < n) arrived (map (λ (x : Copies). (g, x)) xs) h (each xs)
    where
      each : (xs : List Copies) → AllByRecursion (λ (e : ℕ × Copies). e.0 < n) (map (λ (x : Copies). (g, x)) xs)
      each [] = tt
      each (x ∷ xs) = (less, each xs)

-- ---- a link that goes on

-- where a link has not finished there is a least mark
pub goes_on : (n g : ℕ) (taken : ℕ → List Frame) → g < n → has_finish (taken g) ≡ false → (l : ℕ) × (least_of_links n taken ≡ Some l)
goes_on n g taken less open_yet =
    some_mark (least_of_links n taken)
    (λ none. let there = in_finish (taken g) (ended_links n taken g less none) in absurd (both_ways (has_finish (taken g)) open_yet there))

least_up : (old new : Option ℕ) (l : ℕ) → old ≡ Some l → ((t : ℕ) → under old t ≡ true → under new t ≡ true) → (m : ℕ) → new ≡ Some m → l ≤ m
least_up old new l e rises m is =
    let below = mark_rises old new m rises is in
    let at = below.1 in
    let le = below.2 in
    let same : below.0 ≡ l = cc in
    omega (arith, le, same)

-- ---- marks are times

bound_time : (job : Declared) (frames : List Frame) (mark : ℕ) → AreLawfulGroups job frames → bound_in of_firsts frames ≡ Some mark → IsTime mark
bound_time job frames mark lawful is = behind [] frames 0 (omega arith) lawful mark is
  where
    behind : (before fs : List Frame) (m : ℕ) → IsTime m → AreLawfulBehind (GroupRule job) before fs → (mark : ℕ) → bound_behind of_firsts (Some m) fs ≡ Some mark → IsTime mark
    behind before [] m time h mark e = let same : m ≡ mark = cc in subst IsTime same time
    behind before (GroupMark v ∷ fs) m time h mark e = behind (before ++ GroupMark v ∷ []) fs v h.0.own.1 h.1 mark e
    behind before (Finish ∷ fs) m time h mark e = absurd (let none : None ≡ Some mark = sym (ended of_firsts fs) ∙ e in cc)
      where
        ended : (says : Frame → Option (Option ℕ)) (fs : List Frame) → bound_behind says None fs ≡ None
        ended says [] = refl
        ended says (x ∷ xs) = ended says xs
    behind before (GroupHead first members key ∷ fs) m time h mark e = behind (before ++ GroupHead first members key ∷ []) fs m time h.1 mark e
    behind before (Member at vals ∷ fs) m time h mark e = behind (before ++ Member at vals ∷ []) fs m time h.1 mark e
    behind before (Item s ∷ fs) m time h mark e = absurd h.0.own
    behind before (Mark c v ∷ fs) m time h mark e = absurd h.0.own
    behind before (CaptureEnd c ∷ fs) m time h mark e = absurd h.0.own
    behind before (AnswerRow a ∷ fs) m time h mark e = absurd h.0.own
    behind before (Profile row ∷ fs) m time h mark e = absurd h.0.own
    behind before (CountsRow c k ∷ fs) m time h mark e = absurd h.0.own

least_time : (job : Declared) (n : ℕ) (taken : ℕ → List Frame) → ((g : ℕ) → g < n → AreLawfulGroups job (taken g)) → (l : ℕ) → least_of_links n taken ≡ Some l → IsTime l
least_time job n taken lawful l is = among (below n) (λ k there. of_below n k there) l is
  where
    lesser_time : (a b : Option ℕ) (l : ℕ) → lesser a b ≡ Some l → ((m : ℕ) → a ≡ Some m → IsTime m) → ((m : ℕ) → b ≡ Some m → IsTime m) → IsTime l
    lesser_time None b l e f g = g l e
    lesser_time (Some m) None l e f g = f l e
    lesser_time (Some m) (Some v) l e f g = let same : min m v ≡ l = cc in let own = f m refl in omega (arith, same, own)

    among : (ks : List ℕ) → ((k : ℕ) → IsIn k ks → k < n) → (l : ℕ) → least_mark (map (λ i. bound_in of_firsts (taken i)) ks) ≡ Some l → IsTime l
    among [] less l e = absurd (cc)
    among (k ∷ ks) less l e =
        lesser_time (bound_in of_firsts (taken k)) (least_mark (map (λ i. bound_in of_firsts (taken i)) ks)) l e
        (λ m own. bound_time job (taken k) m (lawful k (less k (inl refl))) own)
        (λ m own. among ks (λ j there. less j (inr there)) m own)

-- ---- the state

module _ (job : Declared) (n count : ℕ) (taken more : ℕ → List Frame) (put : List Frame) (rows : List ProfileRow) (mark next : ℕ) (finished : Bool)
    (g : ℕ) (f : Frame) (less : g < n) (one : TakesOne taken more g f) (may : MayFollow (GroupRule job) (taken g) f) (open_yet : has_finish (taken g) ≡ false)
    (h : StateStands job n count taken put rows mark next finished) where
  -- a frame more with which no group becomes whole
  pub takes_none : whole_with (begun_in (taken g)) f ≡ [] → StateStands job n (count + 1) more put rows mark next finished
  takes_none none =
      let l = goes_on n g taken less open_yet in
      record {
        arrived = h.arrived;
        arrives = record {
          lawful = lawful_more job n g taken more f less one h.arrives.lawful may;
          of_links = h.arrives.of_links;
          from_links = λ k hk. ap (with_number k) (sym (append-nil h.arrived)) ∙ from_more job n g taken more f less one h.arrives.lawful may h.arrived h.arrives.from_links [] none k hk;
          profile = h.arrives.profile;
          among = h.arrives.among;
        };
        sends = sending.takes job h.arrived (least_of_links n taken) l.0 count put rows mark next finished l.1 h.sends (least_of_links n more)
            (least_up (least_of_links n taken) (least_of_links n more) l.0 l.1 (rises job n g taken more f less one h.arrives.lawful may));
      }

  -- a frame more with which a group becomes whole, and its answer
  pub takes_group : IsLawful job → n ≤ 16 → (x : Copies) (new : List ProfileRow) → whole_with (begun_in (taken g)) f ≡ x ∷ [] → AddsGroup job.profile x rows new
      → least_of_links n more ≡ least_of_links n taken
      → StateStands job n (count + 1) more (put ++ AnswerRow (answer_of job x) ∷ []) new mark next finished
  takes_group lawful few x new is adds same = record {
    arrived = h.arrived ++ (g, x) ∷ [];
    arrives = arrives;
    sends = subst (λ (o : Option ℕ). Sends job (h.arrived ++ (g, x) ∷ []) o (count + 1) (put ++ AnswerRow (answer_of job x) ∷ []) new mark next finished) (sym same)
        (sending.answers job h.arrived (least_of_links n taken) l.0 count put rows mark next finished l.1 h.sends g x new (is_answer job x lawful whole) begins
        (omega (arith, few_members job n more (h.arrived ++ (g, x) ∷ []) new few arrives, counted)) counted);
  }
    where
      l : (l : ℕ) × (least_of_links n taken ≡ Some l)
      l = goes_on n g taken less open_yet

      whole : IsWhole job x
      whole = whole_more job n g taken more f less one h.arrives.lawful may x is

      groups_same : groups_arrived (h.arrived ++ (g, x) ∷ []) ≡ groups_arrived h.arrived ++ x ∷ []
      groups_same = map-append (λ (e : ℕ × Copies). e.1) h.arrived ((g, x) ∷ [])

      profile_more : (p : Bool) → IsAskedProfile p (groups_arrived h.arrived) rows → AddsGroup p x rows new → IsAskedProfile p (groups_arrived h.arrived ++ x ∷ []) new
      profile_more false old adds = adds ∙ old
      profile_more true old adds = adds.0 (groups_arrived h.arrived) old

      among_more : (p : Bool) → AddsGroup p x rows new → AreRowsAmong (length job.captures) new
      among_more false adds = subst (AreRowsAmong (length job.captures)) (sym adds) h.arrives.among
      among_more true adds = subst (AreRowsAmong (length job.captures)) (sym adds.1) (added_among job x rows whole h.arrives.among)

      arrives : Arrives job n more (h.arrived ++ (g, x) ∷ []) new
      arrives = record {
        lawful = lawful_more job n g taken more f less one h.arrives.lawful may;
        of_links = numbers_more job n g taken more f less one h.arrives.lawful may h.arrived (x ∷ []) h.arrives.of_links;
        from_links = from_more job n g taken more f less one h.arrives.lawful may h.arrived h.arrives.from_links (x ∷ []) is;
        profile = subst (λ xs. IsAskedProfile job.profile xs new) (sym groups_same) (profile_more job.profile h.arrives.profile adds);
        among = among_more job.profile adds;
      }

      counted : members_in (groups_arrived (h.arrived ++ (g, x) ∷ [])) ≡ members_in (groups_arrived h.arrived) + length x.members
      counted =
          ap members_in groups_same ∙ sum_by-append (λ (y : Copies). length y.members) (groups_arrived h.arrived) (x ∷ [])
          ∙ ap (λ (k : ℕ). members_in (groups_arrived h.arrived) + k) (sum_by-cons (λ (y : Copies). length y.members) x [] ∙ zero_more (length x.members))
        where
          zero_more : (k : ℕ) → k + 0 ≡ k
          zero_more k = omega arith

      begins : mark ≤ began x
      begins =
          let m = mark_from (least_of_links n taken) (began x) (late job n g taken more f less one h.arrives.lawful may x (subst (λ xs. IsIn x xs) (sym is) (inl refl))) in
          let low = h.sends.low m.mark m.is in
          let le = m.low in
          omega (arith, low, le)

module _ (job : Declared) (n count : ℕ) (taken : ℕ → List Frame) (put : List Frame) (rows : List ProfileRow) (mark next : ℕ)
    (h : StateStands job n count taken put rows mark next false) where
  -- the least mark has risen
  pub puts_mark : (l : ℕ) → least_of_links n taken ≡ Some l → is_mark_due (least_of_links n taken) mark ≡ true
      → StateStands job n count taken (put ++ GroupMark l ∷ []) rows l next false
  puts_mark l is due = record {
    arrived = h.arrived;
    arrives = h.arrives;
    sends = sending.marks job h.arrived (least_of_links n taken) l count put rows mark next false is h.sends (least_time job n taken h.arrives.lawful l is) due;
  }

  -- all links have finished, and a row of the profile follows
  pub puts_row : n ≤ 16 → least_of_links n taken ≡ None → (row : ProfileRow) → slice_get rows next ≡ Some row → IsSound row
      → StateStands job n count taken (put ++ Profile row ∷ []) rows mark (next + 1) false
  puts_row few none row at sound = record {
    arrived = h.arrived;
    arrives = h.arrives;
    sends = sending.tells job h.arrived (least_of_links n taken) count put rows mark next none h.sends row at sound h.arrives.profile h.arrives.among
        (few_members job n taken h.arrived rows few h.arrives);
  }

  -- and then the end
  pub puts_end : least_of_links n taken ≡ None → next ≡ length rows → StateStands job n count taken (put ++ Finish ∷ []) rows mark next true
  puts_end none all = record {
    arrived = h.arrived;
    arrives = h.arrives;
    sends = sending.finishes job h.arrived (least_of_links n taken) count put rows mark next none h.sends all;
  }

-- ---- what this promises

module _ (job : Declared) (n count : ℕ) (taken : ℕ → List Frame) (put : List Frame) (rows : List ProfileRow) (mark next : ℕ) (finished : Bool)
    (h : StateStands job n count taken put rows mark next finished) (parsers processors : ℕ) where
  abbrev shape : Shape
  shape = record { parsers = parsers; groupers = n; processors = processors }

  all_answered : least_of_links n taken ≡ None → HasAnsweredAll job shape h.arrived taken put
  all_answered none = record { finished = none; answers = h.sends.answered }

  -- a row of the profile comes behind all links
  after_all : (row : ProfileRow) → IsIn (Profile row) put → least_of_links n taken ≡ None
  after_all row there = by_next (cases_lt 0 next)
    where
      by_next : (0 < next) ⊎ (next ≤ 0) → least_of_links n taken ≡ None
      by_next (inl less) = h.sends.begun_rows less
      by_next (inr le) =
          let none : next ≡ 0 = omega (arith, le) in
          let here : IsIn row [] = subst (λ rs. IsIn row rs) (h.sends.rows_put ∙ ap (λ (k : ℕ). take k rows) none) (in_rows row put there) in
          absurd here

  front_of : (p : Bool) → IsAskedProfile p (groups_arrived h.arrived) rows → (others : List ProfileRow) → IsAskedProfile p (groups_arrived h.arrived) others → IsFront (rows_in put) others
  front_of p own others asked = subst (λ (rs : List ProfileRow). IsFront (rows_in put) rs) (same p own asked)
      (record { rest = drop next rows; joined = sym (take-append-drop next rows) ∙ ap (λ (rs : List ProfileRow). rs ++ drop next rows) (sym h.sends.rows_put) })
    where
      same : (p : Bool) → IsAskedProfile p (groups_arrived h.arrived) rows → IsAskedProfile p (groups_arrived h.arrived) others → rows ≡ others
      same true own asked = one_profile (groups_arrived h.arrived) rows others own asked
      same false own asked = own ∙ sym asked

  finish_said : IsIn Finish put → finished ≡ true
  finish_said there = sym h.sends.ends ∙ in_finish put there

  pub promised : ProcessorKeeps job shape taken put
  promised = record {
    lawful = h.sends.lawful;
    arrived = h.arrived;
    of_groupers = h.arrives.of_links;
    from_links = h.arrives.from_links;
    answers = record { rest = []; joined = sym h.sends.answered ∙ sym (append-nil (answers_in put)) };
    marks = λ m least there e. let told = h.sends.told m there in let low = h.sends.low least e in omega (arith, told, low);
    answered = λ m x there came less. subst (λ as'. IsIn (answer_of job x) as') (sym h.sends.answered) (in_map (answer_of job) x (groups_arrived h.arrived) came);
    profile = λ row there. all_answered (after_all row there);
    profile_front = λ others none asked. front_of job.profile h.arrives.profile others asked;
    finish = λ there.
        let over = h.sends.over (finish_said there) in (
          all_answered over.0,
          subst (λ (rs : List ProfileRow). IsAskedProfile job.profile (groups_arrived h.arrived) rs)
              (sym (h.sends.rows_put ∙ ap (λ (k : ℕ). take k rows) over.1 ∙ take_all (length rows) rows (omega arith))) h.arrives.profile,
        );
  }

  -- where no mark is due, nothing is held back
  pub rested : is_mark_due (least_of_links n taken) mark ≡ false → ProcessorSendsAll job shape taken put
  rested none = record {
    answers = λ g x hg there.
        let own : IsIn (g, x) h.arrived = of_number g x h.arrived (subst (λ xs. IsIn x xs) (sym (h.arrives.from_links g hg)) there) in
        subst (λ as'. IsIn (answer_of job x) as') (sym h.sends.answered)
        (in_map (answer_of job) x (groups_arrived h.arrived) (in_map (λ (e : ℕ × Copies). e.1) (g, x) h.arrived own));
    marks = λ l is.
        let not_over : finished ≡ false = sending.goes_on job h.arrived (least_of_links n taken) l count put rows mark next finished is h.sends in
        let low = h.sends.low l is in
        h.sends.bound not_over ∙ ap (λ (k : ℕ). Some k) (reached (least_of_links n taken) l is none low);
  }
    where
      reached : (o : Option ℕ) (l : ℕ) → o ≡ Some l → is_mark_due o mark ≡ false → mark ≤ l → mark ≡ l
      reached None l e due low = absurd (cc)
      reached (Some m) l e due low = let same : m ≡ l = cc in let not_less : nat_lt mark m ≡ false = due in let other : nat_lt mark l ≡ false = rw same at not_less in grind (arith, nat_tests)

  -- the frames put are few
  pub few_put : length rows ≤ 4096 → length put ≤ 2 * count + 4097
  few_put few =
      let put_few = h.sends.few in
      let within = h.sends.within in
      omega (arith, put_few, within, few, one_most finished)
    where
      one_most : (b : Bool) → one_if b ≤ 1
      one_most true = omega arith
      one_most false = omega arith

-- nothing was taken
pub starts : (job : Declared) (n : ℕ) (taken : ℕ → List Frame) → ((g : ℕ) → taken g ≡ []) → StateStands job n 0 taken [] [] 0 0 false
starts job n taken none = record {
  arrived = [];
  arrives = record {
    lawful = λ g less. subst (λ fs. AreLawfulGroups job fs) (sym (none g)) tt;
    of_links = tt;
    from_links = λ g less. sym (ap groups_in (none g));
    profile = no_profile job.profile;
    among = tt;
  };
  sends = record {
    lawful = tt;
    answered = refl;
    counted = refl;
    rows_put = refl;
    within = omega arith;
    told = λ m there. absurd there;
    low = λ l e. omega arith;
    bound = λ e. refl;
    begun_rows = λ less. absurd (omega (arith, less));
    over = λ e. absurd (cc);
    ends = refl;
    few = let no_mark : one_if (is_mark_due (least_of_links n taken) 0) ≡ 0 = ap one_if (none_due (below n)) in omega (arith, no_mark);
  };
}
  where
    no_profile : (p : Bool) → IsAskedProfile p [] []
    no_profile true = record { rising = tt; each = λ from to. refl }
    no_profile false = refl

    none_due : (ks : List ℕ) → is_mark_due (least_mark (map (λ i. bound_in of_firsts (taken i)) ks)) 0 ≡ false
    none_due [] = refl
    none_due (k ∷ ks) =
        let own : bound_in of_firsts (taken k) ≡ Some 0 = ap (bound_in of_firsts) (none k) in
        ap (λ (o : Option ℕ). is_mark_due (lesser o (least_mark (map (λ i. bound_in of_firsts (taken i)) ks))) 0) own
        ∙ at_zero (least_mark (map (λ i. bound_in of_firsts (taken i)) ks))
      where
        at_zero : (o : Option ℕ) → is_mark_due (lesser (Some 0) o) 0 ≡ false
        at_zero None = grind (arith, nat_tests)
        at_zero (Some m) = grind (arith, nat_tests)
