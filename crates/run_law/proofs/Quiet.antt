-- A run of captures without records: a moment at which all is done.
use Rattle.std.proofs.Common.{ℕ, Bool, true, false, List, [], ◌∷◌, ◌++◌, ◌≡◌, ◌≢◌, ◌⊎◌, ◌%◌, Some, None, inl, inr, refl, sym, ap, subst, ◌∙◌, ⊎_elim, arith, map, length}
use Rattle.std.specs.Prelude.{flat_map, ◌==◌}
use Rattle.std.proofs.lemmas.Bool.{eqb-true, eq-eqb}
use Rattle.std.proofs.lemmas.List.{append-nil, map-append}
use Rattle.central_report.specs.Report.{report}
use Rattle.ds_base.specs.Fronts.{IsIn, upto}
use Rattle.ds_base.specs.declared.summary.Summary.{Summary}
use Rattle.ds_base.specs.declared.verdict.Answer.{Answer}
use Rattle.key_select.specs.Fates.{counts_of}
use Rattle.node_frames.specs.declared.frame.Frame.{Frame}
use Rattle.node_frames.specs.declared.frame.Frame.TheVariants.{Mark, CaptureEnd, GroupMark, Profile, CountsRow, Finish}
use Rattle.summary_spec.specs.Declaration.{Declared}
use Rattle.watermarks.specs.Least.{under}
use Rattle.window_grouper.specs.Closed.{is_closed}
use Rattle.window_grouper.specs.Groups.{groups_of}
use Rattle.window_grouper.specs.Sorted.{by_stamp}
use Rattle.run_law.specs.Laws.{IsRun, HasNoRecord, RunWithoutRecordsEnds, captures_of}
use Rattle.run_law.specs.Links.{Permits, AreLawfulBehind, ItemRule, CountsRule}
use Rattle.run_law.specs.Nodes.{Reading, IsWhole, ParserKeeps, GrouperKeeps, ProcessorKeeps, MergeKeeps, IsAskedProfile, below, summaries_taken, least_of_captures, groups_closed, answers_taken, AreInOrder, least_of_links, lines_due}
use Rattle.run_law.specs.Sent.{item_in, items_in, of_items, bound_in}
use Rattle.run_law.specs.Shapes.{Shape, IsCaptureOf, IsFront, of_capture}
use Rattle.run_law.specs.Snapshot.{Link, Lists, Snapshot, IsInStep, AreDone, file_of}
use Rattle.key_select.specs.Wanted.{good_of}
use Rattle.run_law.proofs.Ended.{ended, least_none, all_ended, due_is_report}
use Rattle.run_law.proofs.Lists.{From, in_all, in_left, in_right, in_either, in_map, of_map, in_filter, of_filter, in_below, of_below, front_self}
use Rattle.run_law.proofs.Rows.{AreDifferent, different_range}
use Rattle.run_law.proofs.Starting.{none_front}

-- ---- a link with one frame for each capture, and the end

abbrev one_each : (ℕ → Frame) → List ℕ → List Frame
one_each make cs = map make cs ++ Finish ∷ []

module _ (Own : List Frame → Frame → Type 0) (make : ℕ → Frame) (Is : ℕ → Type 0)
    (own : (before : List Frame) (c : ℕ) → Is c → Own before (make c))
    (permits : (d c : ℕ) → d ≢ c → Permits (make d) (make c))
    (to_end : (d : ℕ) → Permits (make d) Finish)
    (end : (before : List Frame) → ((c : ℕ) → Is c → IsIn (make c) before) → Own before Finish) where
  each_lawful : (ds cs : List ℕ) → ((c : ℕ) → IsIn c cs → Is c) → AreDifferent cs → ((d c : ℕ) → IsIn d ds → IsIn c cs → d ≢ c)
      → ((c : ℕ) → Is c → IsIn c ds ⊎ IsIn c cs) → AreLawfulBehind Own (map make ds) (one_each make cs)
  each_lawful ds [] is differ apart all = (
    record {
      own = end (map make ds) (λ c h. in_map make c ds (⊎_elim (λ (l : IsIn c ds). l) (λ (r : IsIn c []). absurd r) (all c h)));
      permitted = in_all (λ f. Permits f Finish) (map make ds) (λ f l.
          let from = of_map make f ds l in subst (λ (z : Frame). Permits z Finish) (sym from.is) (to_end from.item));
    },
    tt,
  )
  each_lawful ds (c ∷ cs) is differ apart all = (
    record {
      own = own (map make ds) c (is c (inl refl));
      permitted = in_all (λ f. Permits f (make c)) (map make ds) (λ f l.
          let from = of_map make f ds l in
          subst (λ (z : Frame). Permits z (make c)) (sym from.is) (permits from.item c (apart from.item c from.there (inl refl))));
    },
    subst (λ before. AreLawfulBehind Own before (one_each make cs)) (map-append make ds (c ∷ []))
        (each_lawful (ds ++ c ∷ []) cs (λ k l. is k (inr l)) differ.1
        (λ d k l m. ⊎_elim
        (λ (early : IsIn d ds). apart d k early (inr m))
        (λ (here : IsIn d (c ∷ [])). last d k here m)
        (in_either d ds (c ∷ []) l))
        (λ k h. moved k (all k h))),
  )
    where
      last : (d k : ℕ) → IsIn d (c ∷ []) → IsIn k cs → d ≢ k
      last d k (inl e) m = λ same. differ.0 (subst (λ (z : ℕ). IsIn z cs) (sym same ∙ e) m)
      last d k (inr l) m = absurd l

      moved : (k : ℕ) → IsIn k ds ⊎ IsIn k (c ∷ cs) → IsIn k (ds ++ c ∷ []) ⊎ IsIn k cs
      moved k (inl l) = inl (in_left k ds (c ∷ []) l)
      moved k (inr (inl e)) = inl (in_right k ds (c ∷ []) (inl e))
      moved k (inr (inr l)) = inr l

-- ---- what such links say

no_items : (make : ℕ → Frame) (cs : List ℕ) → ((c : ℕ) → item_in (make c) ≡ []) → items_in (one_each make cs) ≡ []
no_items make [] none = refl
no_items make (c ∷ cs) none = ap (λ (ss : List Summary). ss ++ items_in (one_each make cs)) (none c) ∙ no_items make cs none

end_there : (make : ℕ → Frame) (cs : List ℕ) → IsIn Finish (one_each make cs)
end_there make cs = in_right Finish (map make cs) (Finish ∷ []) (inl refl)

-- a frame of such a link is one of those made, or the end
of_each : (make : ℕ → Frame) (cs : List ℕ) (f : Frame) → IsIn f (one_each make cs) → From (λ c. f ≡ make c) cs ⊎ (f ≡ Finish)
of_each make cs f h =
    ⊎_elim
    (λ (early : IsIn f (map make cs)). inl (of_map make f cs early))
    (λ (late : IsIn f (Finish ∷ [])). inr (only late))
    (in_either f (map make cs) (Finish ∷ []) h)
  where
    only : IsIn f (Finish ∷ []) → f ≡ Finish
    only (inl e) = e
    only (inr l) = absurd l

none_flat : {K X : Type 0} (f : K → List X) (ks : List K) → ((k : K) → f k ≡ []) → flat_map f ks ≡ []
none_flat f [] none = refl
none_flat {X = X} f (k ∷ ks) none = ap (λ (xs : List X). xs ++ flat_map f ks) (none k) ∙ none_flat f ks none

abbrev all_of : List Frame → Link
all_of frames = record { put = frames; sent = frames; taken = frames }

all_step : (frames : List Frame) → IsInStep (all_of frames)
all_step frames = record { sent = front_self frames; taken = front_self frames }

module _ (job : Declared) (files : List (List ℕ)) (shape : Shape) (run : IsRun job files shape) (empty : HasNoRecord job files) where
  abbrev own : ℕ → List ℕ
  own p = captures_of job shape p

  abbrev all_read : ℕ → Reading
  all_read c = record { bytes = file_of files c; ended = true; records = [] }

  abbrev row : ℕ → Frame
  row c = CountsRow c (counts_of job c [] (good_of job c (file_of files c)).cut)

  abbrev ends_of : ℕ → List Frame
  ends_of p = one_each CaptureEnd (own p)

  abbrev rows_of : ℕ → List Frame
  rows_of p = one_each row (own p)

  is_own : (p c : ℕ) → IsIn c (own p) → IsCaptureOf (length job.captures) shape p c
  is_own p c h =
      let parts = of_filter (λ (k : ℕ). k % shape.parsers == p) c (below (length job.captures)) h in
      (of_below (length job.captures) c parts.0, eqb-true (c % shape.parsers) p parts.1)

  own_is : (p c : ℕ) → IsCaptureOf (length job.captures) shape p c → IsIn c (own p)
  own_is p c h =
      in_filter (λ (k : ℕ). k % shape.parsers == p) c (below (length job.captures)) (eq-eqb (c % shape.parsers) p h.1) (in_below (length job.captures) c h.0)

  own_differ : (p : ℕ) → AreDifferent (own p)
  own_differ p = different_range (λ (c : ℕ). c % shape.parsers == p) 0 (length job.captures)

  whole : (p c : ℕ) → IsIn c (own p) → IsWhole job c (all_read c)
  whole p c h =
      let e = empty c (is_own p c h).0 in
      record { ended = refl; sound = e.0; records = e.1 }

  parser_kept : (p : ℕ) → ParserKeeps job shape p all_read (λ g. ends_of p) (rows_of p)
  parser_kept p = record {
    lawful = λ g less. each_lawful (ItemRule job shape p g) CaptureEnd (IsCaptureOf (length job.captures) shape p)
        (λ before c h. h) (λ d c apart. apart) (λ d. tt) (λ before h. h)
        [] (own p) (is_own p) (own_differ p) (λ d c l m. absurd l) (λ c h. inr (own_is p c h));
    lawful_counts = each_lawful (CountsRule job shape p) row (IsCaptureOf (length job.captures) shape p)
        (λ before c h. (h, record { few = omega arith; parts = omega arith })) (λ d c apart. apart) (λ d. tt)
        (λ before h c is. (counts_of job c [] (good_of job c (file_of files c)).cut, h c is))
        [] (own p) (is_own p) (own_differ p) (λ d c l m. absurd l) (λ c h. inr (own_is p c h));
    first = λ c is more. ((good_of job c (file_of files c ++ more)).records, refl);
    summaries = λ g c less is. ap (of_capture c) (no_items CaptureEnd (own p) (λ k. refl));
    marks = λ g c mark less h. ⊎_elim
        (λ (from : From (λ k. Mark c mark ≡ CaptureEnd k) (own p)). absurd (let e = from.is in cc))
        (λ (e : Mark c mark ≡ Finish). absurd (cc))
        (of_each CaptureEnd (own p) (Mark c mark) h);
    ends = λ g c less h. ⊎_elim
        (λ (from : From (λ k. CaptureEnd c ≡ CaptureEnd k) (own p)).
        let e = from.is in
        let same : from.item ≡ c = cc in
        whole p c (subst (λ (k : ℕ). IsIn k (own p)) same from.there))
        (λ (e : CaptureEnd c ≡ Finish). absurd (cc))
        (of_each CaptureEnd (own p) (CaptureEnd c) h);
    rows = λ c k h. ⊎_elim
        (λ (from : From (λ d. CountsRow c k ≡ row d) (own p)).
        let e = from.is in
        let same : from.item ≡ c = cc in
        let counts : k ≡ counts_of job from.item [] (good_of job from.item (file_of files from.item)).cut = cc in (
          whole p c (subst (λ (d : ℕ). IsIn d (own p)) same from.there),
          counts ∙ ap (λ (d : ℕ). counts_of job d [] (good_of job d (file_of files d)).cut) same,
        ))
        (λ (e : CountsRow c k ≡ Finish). absurd (cc))
        (of_each row (own p) (CountsRow c k) h);
  }

  -- no grouper has a summary
  none_taken : summaries_taken shape ends_of ≡ []
  none_taken = ap by_stamp (none_flat (λ p. items_in (ends_of p)) (below shape.parsers) (λ p. no_items CaptureEnd (own p) (λ k. refl)))

  none_closed : groups_closed job shape ends_of ≡ []
  none_closed = ap (λ (ss : List Summary). upto (is_closed (under (least_of_captures job shape ends_of)) job.window) (groups_of job.window ss)) none_taken

  no_mark : least_of_captures job shape ends_of ≡ None
  no_mark =
      least_none (λ c. bound_in (of_items c) (ends_of (c % shape.parsers))) (below (length job.captures))
      (λ c l. ended (of_items c) (Some 0) (ends_of (c % shape.parsers)) refl (end_there CaptureEnd (own (c % shape.parsers))))

  grouper_kept : (g : ℕ) → GrouperKeeps job shape g ends_of (λ q. Finish ∷ [])
  grouper_kept g = record {
    lawful = λ q less. (record { own = refl; permitted = tt }, tt);
    sent = [];
    closed = none_front (groups_closed job shape ends_of);
    in_turn = λ q less. refl;
    marks = λ q mark least less h. absurd (only_end (GroupMark mark) h (λ e. cc));
    whole = λ q mark x less h. absurd (only_end (GroupMark mark) h (λ e. cc));
    finish = λ q less h. (no_mark, sym none_closed);
  }
    where
      only_end : (f : Frame) → IsIn f (Finish ∷ []) → (f ≡ Finish → ⊥) → ⊥
      only_end f (inl e) other = other e
      only_end f (inr l) other = absurd l

  no_profile : (asked : Bool) → IsAskedProfile asked [] []
  no_profile false = refl
  no_profile true = record { rising = tt; each = λ from to. refl }

  links_ended : least_of_links shape.groupers (λ g. Finish ∷ []) ≡ None
  links_ended = all_ended shape.groupers (λ g. Finish ∷ []) (λ g less. inl refl)

  processor_kept : ProcessorKeeps job shape (λ g. Finish ∷ []) (Finish ∷ [])
  processor_kept = record {
    lawful = (record { own = tt; permitted = tt }, tt);
    arrived = [];
    of_groupers = tt;
    from_links = λ g less. refl;
    answers = none_front [];
    marks = λ mark least h. absurd (only_end (GroupMark mark) h (λ e. cc));
    answered = λ mark x h. absurd (only_end (GroupMark mark) h (λ e. cc));
    profile = λ r h. absurd (only_end (Profile r) h (λ e. cc));
    profile_front = λ rows none asked. none_front rows;
    finish = λ h. (record { finished = links_ended; answers = refl }, no_profile job.profile);
  }
    where
      only_end : (f : Frame) → IsIn f (Finish ∷ []) → (f ≡ Finish → ⊥) → ⊥
      only_end f (inl e) other = other e
      only_end f (inr l) other = absurd l

  -- ---- the moment

  abbrev lists_with : List ℕ → Lists
  lists_with written = record {
    read = all_read;
    items = λ p g. all_of (ends_of p);
    counts = λ p. all_of (rows_of p);
    groups = λ g q. all_of (Finish ∷ []);
    answers = λ q. all_of (Finish ∷ []);
    written = written;
  }

  moment : (start written : List ℕ) → MergeKeeps job shape rows_of (λ q. Finish ∷ []) start written → Snapshot job files shape start (lists_with written)
  moment start written merge = record {
    read = λ c less. record { front = front_self (file_of files c); whole = λ e. refl };
    items_step = λ p g a b. all_step (ends_of p);
    counts_step = λ p a. all_step (rows_of p);
    groups_step = λ g q a b. all_step (Finish ∷ []);
    answers_step = λ q a. all_step (Finish ∷ []);
    parsers = λ p less. parser_kept p;
    groupers = λ g less h. grouper_kept g;
    processors = λ q less h. processor_kept;
    merge = λ h k. merge;
  }

  before : (start : List ℕ) → Snapshot job files shape start (lists_with start)
  before start = moment start start (record {
    gained = [];
    since = sym (append-nil start);
    due = λ ordered h. none_front (lines_due job shape rows_of (λ q. Finish ∷ []) ordered);
  })

  due_is : (start : List ℕ) (ordered : List Answer) → AreInOrder (answers_taken shape (λ q. Finish ∷ [])) ordered
      → lines_due job shape rows_of (λ q. Finish ∷ []) ordered ≡ report job files
  due_is start ordered h =
      due_is_report job files shape start (lists_with start) run (before start) (λ p less. end_there row (own p)) (λ q less. inl refl) ordered h

  after : (start : List ℕ) → Snapshot job files shape start (lists_with (start ++ report job files))
  after start = moment start (start ++ report job files) (record {
    gained = report job files;
    since = refl;
    due = λ ordered h. subst (λ t. IsFront (report job files) t) (sym (due_is start ordered h)) (front_self (report job files));
  })

  is_done : (start : List ℕ) → AreDone job shape start (lists_with (start ++ report job files))
  is_done start = record {
    items = λ p g a b. end_there CaptureEnd (own p);
    counts = λ p a. end_there row (own p);
    groups = λ g q a b. inl refl;
    answers = λ q a. inl refl;
    written = λ ordered h. ap (λ (t : List ℕ). start ++ t) (sym (due_is start ordered h));
  }

pub run_without_records_ends : RunWithoutRecordsEnds
run_without_records_ends job files shape start run empty =
    (lists_with job files shape run empty (start ++ report job files), after job files shape run empty start, is_done job files shape run empty start)
