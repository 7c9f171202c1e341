-- What a processor has put, one frame more at a time.
use Rattle.std.proofs.Common.{ℕ, Bool, true, false, List, [], ◌∷◌, ◌++◌, ◌≡◌, ◌<◌, ◌≤◌, ◌+◌, ◌*◌, ◌^◌, ◌⊎◌, Option, Some, None, inl, inr, refl, sym, ap, subst, ◌∙◌, ⊎_elim, arith, map, length, take, drop, get_or, length-append}
use Rattle.std.specs.Prelude.{nat_lt, slice_get, ◌||◌}
use Rattle.std.specs.List.{AllByRecursion}
use Rattle.std.proofs.lemmas.Bool.{both_ways, cases_lt, lt-ltb, ltb-true}
use Rattle.std.proofs.lemmas.Bool.Decides.{nat_tests}
use Rattle.std.proofs.lemmas.List.{append-nil, map-append, take_more, drop_more, take-append-drop}
use Rattle.std.proofs.lemmas.Option.{slice_get_cases}
use Rattle.central_report.specs.Progress.{AreRowsAmong}
use Rattle.credit_link.specs.Frames.{has_finish}
use Rattle.ds_base.specs.Copies.{Copies}
use Rattle.ds_base.specs.Fronts.{IsIn}
use Rattle.ds_base.specs.declared.profile_row.ProfileRow.{ProfileRow}
use Rattle.ds_base.specs.declared.verdict.Answer.{Answer}
use Rattle.node_frames.specs.declared.frame.Frame.{Frame}
use Rattle.node_frames.specs.declared.frame.Frame.TheVariants.{GroupMark, AnswerRow, Profile, Finish}
use Rattle.profiles.specs.Profile.{IsProfile}
use Rattle.profiles.specs.Rows.{IsSound, AreRising}
use Rattle.profiles.proofs.Windows.{few_delays}
use Rattle.summary_spec.specs.Declaration.{Declared}
use Rattle.summary_spec.specs.Lawful.{IsLawful}
use Rattle.window_grouper.specs.Groups.{members_in}
use Rattle.run_law.specs.Links.{Permits, MayFollow, AreLawfulAnswers, AnswerRule, IsTime, IsAnswerOf, IsRowOf, members_answered}
use Rattle.run_law.specs.Nodes.{began, answer_of, answers_of, groups_arrived, IsAskedProfile}
use Rattle.run_law.specs.Sent.{answers_in, rows_in, of_firsts, bound_in, bound_after}
use Rattle.run_law.proofs.Lists.{all_in}
use Rattle.query_state.specs.States.{Sends, is_mark_due, one_if}
use Rattle.query_state.proofs.Lawful.{is_row}
use Rattle.query_state.proofs.Putting.{lawful_push, answers_push, rows_push, told_push, bound_push, finish_push, in_push, none_finish, in_rows, rising_each, answer_permitted, mark_permitted, row_permitted, end_permitted}
use Rattle.query_state.proofs.Whole.{IsWhole}

at_most_one : (b : Bool) → one_if b ≤ 1
at_most_one true = omega arith
at_most_one false = omega arith

-- a number that is not above 0 is 0
no_rows_yet : (next : ℕ) (l : ℕ) (least : Option ℕ) → least ≡ Some l → (0 < next → least ≡ None) → next ≡ 0
no_rows_yet next l least e begun =
    ⊎_elim
    (λ (less : 0 < next). absurd (let none = begun less in cc))
    (λ (le : next ≤ 0). omega (arith, le))
    (cases_lt 0 next)

not_over : (finished : Bool) (l : ℕ) (least : Option ℕ) → least ≡ Some l → (finished ≡ true → least ≡ None) → finished ≡ false
not_over true l least e over = absurd (let none = over refl in cc)
not_over false l least e over = refl

-- where a link goes on
module _ (job : Declared) (arrived : List (ℕ × Copies)) (least : Option ℕ) (l count : ℕ) (put : List Frame) (rows : List ProfileRow) (mark next : ℕ) (finished : Bool)
    (is : least ≡ Some l) (h : Sends job arrived least count put rows mark next finished) where
  pub none_next : next ≡ 0
  none_next = no_rows_yet next l least is h.begun_rows

  pub goes_on : finished ≡ false
  goes_on = not_over finished l least is (λ e. (h.over e).0)

  none_put : rows_in put ≡ []
  none_put = h.rows_put ∙ ap (λ (k : ℕ). take k rows) none_next

  pub no_row : (row : ProfileRow) → IsIn (Profile row) put → ⊥
  no_row row there = let here : IsIn row [] = subst (λ rs. IsIn row rs) none_put (in_rows row put there) in here

  pub no_end : IsIn Finish put → ⊥
  no_end = none_finish put (h.ends ∙ goes_on)

  -- one frame more was taken, and nothing became whole
  pub takes : (least' : Option ℕ) → ((m : ℕ) → least' ≡ Some m → l ≤ m) → Sends job arrived least' (count + 1) put rows mark next finished
  takes least' rises = record {
    lawful = h.lawful;
    answered = h.answered;
    counted = h.counted;
    rows_put = h.rows_put;
    within = h.within;
    told = h.told;
    low = λ m e. let up = rises m e in let low = h.low l is in omega (arith, up, low);
    bound = h.bound;
    begun_rows = λ less. absurd (omega (arith, less, none_next));
    over = λ e. absurd (let no = goes_on in cc);
    ends = h.ends;
    few = let few = h.few in omega (arith, few, at_most_one (is_mark_due least' mark));
  }

  -- a group became whole
  pub answers : (g : ℕ) (x : Copies) (new : List ProfileRow) → IsAnswerOf job (answer_of job x) → mark ≤ began x
      → members_in (groups_arrived arrived) + length x.members ≤ 2 ^ 50
      → members_in (groups_arrived (arrived ++ (g, x) ∷ [])) ≡ members_in (groups_arrived arrived) + length x.members
      → Sends job (arrived ++ (g, x) ∷ []) least (count + 1) (put ++ AnswerRow (answer_of job x) ∷ []) new mark next finished
  answers g x new own begins few more = record {
    lawful = lawful_push (AnswerRule job) put (AnswerRow (answer_of job x)) h.lawful (record {
      own = (own, omega (arith, h.counted, few));
      permitted = answer_permitted put (answer_of job x) (λ m there. let low = h.told m there in omega (arith, low, begins)) no_row no_end;
    });
    answered = answers_push put (AnswerRow (answer_of job x)) ∙ ap (λ (as' : List Answer). as' ++ answer_of job x ∷ []) h.answered
        ∙ sym (ap (answers_of job) (map-append (λ (e : ℕ × Copies). e.1) arrived ((g, x) ∷ [])) ∙ map-append (answer_of job) (groups_arrived arrived) (x ∷ []));
    counted = told_push put (AnswerRow (answer_of job x)) ∙ ap (λ (k : ℕ). k + length x.members) h.counted ∙ sym more;
    rows_put = rows_push put (AnswerRow (answer_of job x)) ∙ append-nil (rows_in put) ∙ none_put ∙ sym (ap (λ (k : ℕ). take k new) none_next);
    within = omega (arith, none_next);
    told = λ m there.
        ⊎_elim
        (λ (early : IsIn (GroupMark m) put). h.told m early)
        (λ (e : GroupMark m ≡ AnswerRow (answer_of job x)). absurd (cc))
        (in_push (GroupMark m) put (AnswerRow (answer_of job x)) there);
    low = h.low;
    bound = λ e. bound_push of_firsts put (AnswerRow (answer_of job x)) ∙ ap (λ (b : Option ℕ). bound_after b None) (h.bound e);
    begun_rows = h.begun_rows;
    over = λ e. absurd (let no = goes_on in cc);
    ends = finish_push put (AnswerRow (answer_of job x)) ∙ or_false (has_finish put) ∙ h.ends;
    few = let few = h.few in omega (arith, few, length-append put (AnswerRow (answer_of job x) ∷ []));
  }
    where
      or_false : (b : Bool) → b || false ≡ b
      or_false true = refl
      or_false false = refl

  -- the least mark rose
  pub marks : IsTime l → is_mark_due least mark ≡ true → Sends job arrived least count (put ++ GroupMark l ∷ []) rows l next finished
  marks time due = record {
    lawful = lawful_push (AnswerRule job) put (GroupMark l) h.lawful (record {
      own = time;
      permitted = mark_permitted put l (λ m there. let told = h.told m there in omega (arith, told, below)) no_row no_end;
    });
    answered = answers_push put (GroupMark l) ∙ append-nil (answers_in put) ∙ h.answered;
    counted = told_push put (GroupMark l) ∙ zero_more (members_answered put) ∙ h.counted;
    rows_put = rows_push put (GroupMark l) ∙ append-nil (rows_in put) ∙ h.rows_put;
    within = h.within;
    told = λ m there.
        ⊎_elim
        (λ (early : IsIn (GroupMark m) put). let told = h.told m early in omega (arith, told, below))
        (λ (e : GroupMark m ≡ GroupMark l). let same : m ≡ l = cc in omega (arith, same))
        (in_push (GroupMark m) put (GroupMark l) there);
    low = λ m e. let same : l ≡ m = cc in omega (arith, same);
    bound = λ e. bound_push of_firsts put (GroupMark l) ∙ ap (λ (b : Option ℕ). bound_after b (Some (Some l))) (h.bound e);
    begun_rows = h.begun_rows;
    over = h.over;
    ends = finish_push put (GroupMark l) ∙ or_false (has_finish put) ∙ h.ends;
    few =
        let few = h.few in
        let own : one_if (is_mark_due least mark) ≡ 1 = ap one_if due in
        let none : one_if (is_mark_due least l) ≡ 0 = ap (λ (o : Option ℕ). one_if (is_mark_due o l)) is ∙ ap one_if (not_less l) in
        omega (arith, few, own, none, length-append put (GroupMark l ∷ []));
  }
    where
      or_false : (b : Bool) → b || false ≡ b
      or_false true = refl
      or_false false = refl

      zero_more : (k : ℕ) → k + 0 ≡ k
      zero_more k = omega arith

      not_less : (k : ℕ) → nat_lt k k ≡ false
      not_less k = grind (arith, nat_tests)

      rising : (o : Option ℕ) → o ≡ Some l → is_mark_due o mark ≡ true → mark ≤ l
      rising None e due = absurd (cc)
      rising (Some m) e due = let same : m ≡ l = cc in let less = ltb-true mark m due in omega (arith, less, same)

      below : mark ≤ l
      below = rising least is due

-- where no link goes on
module _ (job : Declared) (arrived : List (ℕ × Copies)) (least : Option ℕ) (count : ℕ) (put : List Frame) (rows : List ProfileRow) (mark next : ℕ)
    (none : least ≡ None) (h : Sends job arrived least count put rows mark next false) where
  no_end_yet : IsIn Finish put → ⊥
  no_end_yet = none_finish put h.ends

  -- the next row of the profile
  pub tells : (row : ProfileRow) → slice_get rows next ≡ Some row → IsSound row → IsAskedProfile job.profile (groups_arrived arrived) rows
      → AreRowsAmong (length job.captures) rows → members_in (groups_arrived arrived) ≤ 2 ^ 50
      → Sends job arrived least count (put ++ Profile row ∷ []) rows mark (next + 1) false
  tells row at sound asked among few = record {
    lawful = lawful_push (AnswerRule job) put (Profile row) h.lawful (record {
      own = is_lawful job.profile refl asked;
      permitted = row_permitted put row (λ earlier there. all_in _ earlier (take next rows) before (subst (λ rs. IsIn earlier rs) h.rows_put (in_rows earlier put there))) no_end_yet;
    });
    answered = answers_push put (Profile row) ∙ append-nil (answers_in put) ∙ h.answered;
    counted = told_push put (Profile row) ∙ zero_more (members_answered put) ∙ h.counted;
    rows_put = rows_push put (Profile row) ∙ ap (λ (rs : List ProfileRow). rs ++ row ∷ []) h.rows_put ∙ sym taken_more;
    within = omega (arith, inside);
    told = λ m there.
        ⊎_elim
        (λ (early : IsIn (GroupMark m) put). h.told m early)
        (λ (e : GroupMark m ≡ Profile row). absurd (cc))
        (in_push (GroupMark m) put (Profile row) there);
    low = h.low;
    bound = λ e. bound_push of_firsts put (Profile row) ∙ ap (λ (b : Option ℕ). bound_after b None) (h.bound refl);
    begun_rows = λ less. none;
    over = λ e. absurd (cc);
    ends = finish_push put (Profile row) ∙ ap (λ (b : Bool). b || false) h.ends;
    few = let few = h.few in omega (arith, few, length-append put (Profile row ∷ []));
  }
    where
      zero_more : (k : ℕ) → k + 0 ≡ k
      zero_more k = omega arith

      inside : next < length rows
      inside = by_place (slice_get_cases rows next).1
        where
          by_place : ((x : ProfileRow) × (next < length rows) × (slice_get rows next ≡ Some x) × (get_or rows next x ≡ x)) ⊎ ((length rows ≤ next) × (slice_get rows next ≡ None)) → next < length rows
          by_place (inl found) = found.1
          by_place (inr past) = absurd (let no = past.1 in cc)

      here : get_or rows next row ≡ row
      here = by_place (slice_get_cases rows next).1
        where
          by_place : ((x : ProfileRow) × (next < length rows) × (slice_get rows next ≡ Some x) × (get_or rows next x ≡ x)) ⊎ ((length rows ≤ next) × (slice_get rows next ≡ None)) → get_or rows next row ≡ row
          by_place (inl found) = let x = found.0 in let e = found.2 in let same : x ≡ row = cc in subst (λ (z : ProfileRow). get_or rows next z ≡ z) same found.3
          by_place (inr past) = absurd (let no = past.1 in cc)

      taken_more : take (next + 1) rows ≡ take next rows ++ row ∷ []
      taken_more = take_more rows next row inside ∙ ap (λ (z : ProfileRow). take next rows ++ z ∷ []) here

      split : rows ≡ take next rows ++ row ∷ drop (next + 1) rows
      split = sym (take-append-drop next rows) ∙ ap (λ (zs : List ProfileRow). take next rows ++ zs)
          (drop_more rows next row inside ∙ ap (λ (z : ProfileRow). z ∷ drop (next + 1) rows) here)

      before : AllByRecursion (λ (e : ProfileRow). Permits (Profile e) (Profile row)) (take next rows)
      before = by_asked job.profile asked
        where
          by_asked : (p : Bool) → IsAskedProfile p (groups_arrived arrived) rows → AllByRecursion (λ (e : ProfileRow). Permits (Profile e) (Profile row)) (take next rows)
          by_asked true profile = rising_each (take next rows) (drop (next + 1) rows) row (subst AreRising split profile.rising)
          by_asked false empty = absurd (let less = inside in let long : length rows ≡ 0 = ap length empty in omega (arith, less, long))

      is_lawful : (p : Bool) → job.profile ≡ p → IsAskedProfile p (groups_arrived arrived) rows → IsRowOf job row
      is_lawful true e profile = is_row job (groups_arrived arrived) rows (take next rows) (drop (next + 1) rows) row split e profile among few sound
      is_lawful false e empty = absurd (let less = inside in let long : length rows ≡ 0 = ap length empty in omega (arith, less, long))

  -- the end
  pub finishes : next ≡ length rows → Sends job arrived least count (put ++ Finish ∷ []) rows mark next true
  finishes all = record {
    lawful = lawful_push (AnswerRule job) put Finish h.lawful (record { own = tt; permitted = end_permitted put no_end_yet });
    answered = answers_push put Finish ∙ append-nil (answers_in put) ∙ h.answered;
    counted = told_push put Finish ∙ zero_more (members_answered put) ∙ h.counted;
    rows_put = rows_push put Finish ∙ append-nil (rows_in put) ∙ h.rows_put;
    within = h.within;
    told = λ m there.
        ⊎_elim
        (λ (early : IsIn (GroupMark m) put). h.told m early)
        (λ (e : GroupMark m ≡ Finish). absurd (cc))
        (in_push (GroupMark m) put Finish there);
    low = h.low;
    bound = λ e. absurd (cc);
    begun_rows = h.begun_rows;
    over = λ e. (none, all);
    ends = finish_push put Finish ∙ or_true (has_finish put);
    few = let few = h.few in omega (arith, few, length-append put (Finish ∷ []));
  }
    where
      zero_more : (k : ℕ) → k + 0 ≡ k
      zero_more k = omega arith

      or_true : (b : Bool) → b || true ≡ true
      or_true true = refl
      or_true false = refl
