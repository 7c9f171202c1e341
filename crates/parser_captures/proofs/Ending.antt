-- The parser's promise when it puts marks, the end of a capture, and the end of its links.
use Rattle.std.proofs.Common.{ℕ, Bool, true, false, List, [], ◌∷◌, ◌++◌, ◌≡◌, ◌≢◌, ◌<◌, ◌≤◌, ◌+◌, ◌-◌, Option, Some, None, inl, inr, refl, sym, ap, subst, ◌∙◌, ⊎_elim, arith, length, append_assoc, cond}
use Rattle.std.specs.Prelude.{◌==◌, ◌⊎◌, ◌^◌, count_by}
use Rattle.std.specs.List.{AllByRecursion}
use Rattle.std.proofs.lemmas.List.{append-nil}
use Rattle.std.proofs.lemmas.List.Sums.{sum_by-append}
use Rattle.ds_base.specs.Fronts.{IsIn}
use Rattle.ds_base.specs.declared.capture.Counts.{Counts}
use Rattle.ds_base.specs.declared.summary.Summary.{Summary}
use Rattle.key_select.specs.Fates.{Fate, Unmatched, Late, Accepted, fate_of, fates_of, fates_after, is_unmatched, is_too_late, summaries_of, counts_of, accepted_of}
use Rattle.key_select.specs.Late.{mark_by, mark_of, greatest_time}
use Rattle.key_select.specs.Tally.{newest_after}
use Rattle.key_select.specs.Times.{capture_skew, record_time}
use Rattle.key_select.specs.Wanted.{wanted_of, good_of}
use Rattle.key_select.proofs.Tallying.{greatest_time-append}
use Rattle.node_frames.specs.declared.frame.Frame.{Frame}
use Rattle.node_frames.specs.declared.frame.Frame.TheVariants.{Item, Mark, CaptureEnd, GroupHead, Member, GroupMark, AnswerRow, Profile, CountsRow, Finish}
use Rattle.pcap_reader.specs.Captured.{Captured}
use Rattle.pcap_reader.specs.Lent.{AreFirst}
use Rattle.summary_spec.specs.Declaration.{Declared}
use Rattle.run_law.specs.Links.{Permits, MayFollow, AreLawful, ItemRule, CountsRule, AreCounts, AreLawfulItems, AreLawfulCounts, HasEnded, HasRow}
use Rattle.run_law.specs.Nodes.{Reading, IsWhole, IsMarkOf, ParserKeeps}
use Rattle.run_law.specs.Sent.{items_in, item_in}
use Rattle.run_law.specs.Shapes.{Shape, IsCaptureOf, IsFront, of_capture, summaries_of_shard}
use Rattle.run_law.proofs.Lists.{in_all, in_either, in_left, in_right}
use Rattle.parser_captures.proofs.Framing.{lawful_more, before_one, no_item_in}
use Rattle.parser_captures.proofs.Keeping.{same_or_not, no_end, no_finish, no_row, no_counts_finish}
use Rattle.parser_captures.proofs.Taking.{untold}

-- ---- the mark does not fall

rises : (time skew : ℕ) (newest : Option ℕ) → mark_by skew newest ≤ mark_by skew (newest_after time newest)
rises time skew None = omega arith
rises time skew (Some n) = omega arith

pub marks_rise : (job : Declared) (c : ℕ) (rs more : List Captured) → mark_of job c rs ≤ mark_of job c (rs ++ more)
marks_rise job c rs [] = subst (λ (xs : List Captured). mark_of job c rs ≤ mark_of job c xs) (sym (append-nil rs)) (omega arith)
marks_rise job c rs (r ∷ more) =
    let one : mark_of job c rs ≤ mark_of job c (rs ++ r ∷ []) =
    subst (λ (newest : Option ℕ). mark_of job c rs ≤ mark_by (capture_skew job c) newest) (sym (greatest_time-append job c rs r))
    (rises (record_time job c r) (capture_skew job c) (greatest_time job c rs)) in
    let rest : mark_of job c (rs ++ r ∷ []) ≤ mark_of job c (rs ++ r ∷ more) =
    subst (λ (xs : List Captured). mark_of job c (rs ++ r ∷ []) ≤ mark_of job c xs) (append_assoc rs (r ∷ []) more) (marks_rise job c (rs ++ r ∷ []) more) in
    omega (arith, one, rest)

-- ---- kinds of frames

abbrev capture_in : Frame → ℕ
capture_in (Mark c mark) = c
capture_in (CaptureEnd c) = c
capture_in (CountsRow c k) = c
capture_in _ = 0

abbrev mark_in : Frame → ℕ
mark_in (Mark c mark) = mark
mark_in _ = 0

abbrev none_counted : Counts
none_counted = record { records = 0; unmatched = 0; late = 0; accepted = 0; cut = false }

abbrev counts_at : Frame → Counts
counts_at (CountsRow c k) = k
counts_at _ = none_counted

abbrev is_mark : Frame → Bool
is_mark (Mark c mark) = true
is_mark _ = false

abbrev is_end : Frame → Bool
is_end (CaptureEnd c) = true
is_end _ = false

abbrev is_row : Frame → Bool
is_row (CountsRow c k) = true
is_row _ = false

-- ---- how the records fared

one_more : (test : Fate → Bool) (fate : Fate) (fates : List Fate) → count_by test (fate ∷ fates) ≡ count_by test (fate ∷ []) + count_by test fates
one_more test fate fates = sum_by-append (λ x. cond (test x) 1 0) (fate ∷ []) fates

counted : (fates : List Fate) → length fates ≡ count_by is_unmatched fates + count_by is_too_late fates + length (summaries_of fates)
counted [] = refl
counted (Unmatched ∷ fates) = omega (arith, counted fates, one_more is_unmatched Unmatched fates, one_more is_too_late Unmatched fates)
counted (Late ∷ fates) = omega (arith, counted fates, one_more is_unmatched Late fates, one_more is_too_late Late fates)
counted (Accepted s ∷ fates) = omega (arith, counted fates, one_more is_unmatched (Accepted s) fates, one_more is_too_late (Accepted s) fates)

as_many_fates : (job : Declared) (c : ℕ) (earlier rs : List Captured) → length (fates_after job c earlier rs) ≡ length rs
as_many_fates job c earlier [] = refl
as_many_fates job c earlier (r ∷ rs) = omega (arith, as_many_fates job c (earlier ++ r ∷ []) rs)

pub are_counts : (job : Declared) (c : ℕ) (rs : List Captured) (cut : Bool) → length rs ≤ 2 ^ 40 → AreCounts (counts_of job c rs cut)
are_counts job c rs cut few = record { few = few; parts = sym (as_many_fates job c [] rs) ∙ counted (fates_of job c rs) }

-- ---- a mark on every link to a grouper

module _ (job : Declared) (shape : Shape) (p : ℕ) (read : ℕ → Reading) (items put : ℕ → List Frame) (counts : List Frame)
    (kept : ParserKeeps job shape p read items counts) (c : ℕ) (own : IsCaptureOf (length job.captures) shape p c) (going : (read c).ended ≡ false) (mark : ℕ)
    (is : mark ≡ mark_of job c (read c).records) (early : mark < 2 ^ 63) (frames : (g : ℕ) → g < shape.groupers → put g ≡ items g ++ Mark c mark ∷ []) where
  no_lower : (g old : ℕ) → g < shape.groupers → IsIn (Mark c old) (items g) → old ≤ mark
  no_lower g old below h =
      let m = kept.marks g c old below h in
      let le : mark_of job c m.front ≤ mark_of job c (read c).records =
      subst (λ (rs : List Captured). mark_of job c m.front ≤ mark_of job c rs) (sym m.taken.joined) (marks_rise job c m.front m.taken.rest) in
      omega (arith, le, is, m.is)

  permits : (g : ℕ) (f : Frame) → g < shape.groupers → IsIn f (items g) → Permits f (Mark c mark)
  permits g (Item t) below h = tt
  permits g (Mark d old) below h = λ e. no_lower g old below (subst (λ (k : ℕ). IsIn (Mark k old) (items g)) e h)
  permits g (CaptureEnd d) below h = λ e. no_end job shape p read items counts kept c own going g below (subst (λ (k : ℕ). IsIn (CaptureEnd k) (items g)) e h)
  permits g (GroupHead first members key) below h = tt
  permits g (Member at vals) below h = tt
  permits g (GroupMark m) below h = tt
  permits g (AnswerRow a) below h = tt
  permits g (Profile row) below h = tt
  permits g (CountsRow d k) below h = tt
  permits g Finish below h = absurd (no_finish job shape p read items counts kept c own going g below h)

  lawful_marked : (g : ℕ) → g < shape.groupers → AreLawfulItems job shape p g (put g)
  lawful_marked g below =
      subst (AreLawful (ItemRule job shape p g)) (sym (frames g below))
      (lawful_more (ItemRule job shape p g) (items g) (Mark c mark) (kept.lawful g below)
      (record { own = (own, early); permitted = in_all (λ f. Permits f (Mark c mark)) (items g) (λ f h. permits g f below h) }))

  marks_marked : (g d m : ℕ) → g < shape.groupers → IsIn (Mark d m) (put g) → IsMarkOf job d (read d).records m
  marks_marked g d m below h = by_place (in_either (Mark d m) (items g) (Mark c mark ∷ []) (subst (λ fs. IsIn (Mark d m) fs) (frames g below) h))
    where
      by_place : IsIn (Mark d m) (items g) ⊎ IsIn (Mark d m) (Mark c mark ∷ []) → IsMarkOf job d (read d).records m
      by_place (inl old) = kept.marks g d m below old
      by_place (inr (inl e)) =
          subst (λ (k : ℕ). IsMarkOf job k (read k).records m) (sym (ap capture_in e))
          (record { front = (read c).records; taken = record { rest = []; joined = sym (append-nil (read c).records) }; is = ap mark_in e ∙ is })
      by_place (inr (inr l)) = absurd l

  pub marked : ParserKeeps job shape p read put counts
  marked = record {
    lawful = lawful_marked;
    lawful_counts = kept.lawful_counts;
    first = kept.first;
    summaries = λ g d below own.
        ap (λ (fs : List Frame). of_capture d (items_in fs)) (frames g below) ∙ ap (of_capture d) (no_item_in (Mark c mark) (items g) refl) ∙ kept.summaries g d below own;
    marks = marks_marked;
    ends = λ g d below h. kept.ends g d below (before_one is_end (CaptureEnd d) (Mark c mark) (items g) refl refl (subst (λ fs. IsIn (CaptureEnd d) fs) (frames g below) h));
    rows = kept.rows;
  }

-- ---- the end of a capture, and its row

module _ (job : Declared) (shape : Shape) (p : ℕ) (read now : ℕ → Reading) (items put : ℕ → List Frame) (counts longer : List Frame)
    (kept : ParserKeeps job shape p read items counts) (c : ℕ) (own : IsCaptureOf (length job.captures) shape p c) (going : (read c).ended ≡ false)
    (is : now c ≡ record (read c) { ended = true }) (others : (d : ℕ) → d ≢ c → now d ≡ read d) (whole : IsWhole job c (now c)) (few : length (read c).records ≤ 2 ^ 40)
    (k : Counts) (fared : k ≡ counts_of job c (now c).records (good_of job c (now c).bytes).cut)
    (frames : (g : ℕ) → g < shape.groupers → put g ≡ items g ++ CaptureEnd c ∷ []) (row : longer ≡ counts ++ CountsRow c k ∷ []) where
  permits_end : (g : ℕ) (f : Frame) → g < shape.groupers → IsIn f (items g) → Permits f (CaptureEnd c)
  permits_end g (Item t) below h = tt
  permits_end g (Mark d old) below h = tt
  permits_end g (CaptureEnd d) below h = λ e. no_end job shape p read items counts kept c own going g below (subst (λ (k : ℕ). IsIn (CaptureEnd k) (items g)) e h)
  permits_end g (GroupHead first members key) below h = tt
  permits_end g (Member at vals) below h = tt
  permits_end g (GroupMark m) below h = tt
  permits_end g (AnswerRow a) below h = tt
  permits_end g (Profile row) below h = tt
  permits_end g (CountsRow d k) below h = tt
  permits_end g Finish below h = absurd (no_finish job shape p read items counts kept c own going g below h)

  permits_row : (f : Frame) → IsIn f counts → Permits f (CountsRow c k)
  permits_row (Item t) h = tt
  permits_row (Mark d old) h = tt
  permits_row (CaptureEnd d) h = tt
  permits_row (GroupHead first members key) h = tt
  permits_row (Member at vals) h = tt
  permits_row (GroupMark m) h = tt
  permits_row (AnswerRow a) h = tt
  permits_row (Profile row) h = tt
  permits_row (CountsRow d l) h = λ e. no_row job shape p read items counts kept c own going l (subst (λ (n : ℕ). IsIn (CountsRow n l) counts) e h)
  permits_row Finish h = absurd (no_counts_finish job shape p read items counts kept c own going h)

  -- what holds of a capture that goes on or has ended holds of it now
  stays : (P : Reading → Type 0) (d : ℕ) → (d ≡ c → P (now c)) → P (read d) → P (now d)
  stays P d here h =
      ⊎_elim
      (λ (e : d ≡ c). subst (λ (n : ℕ). P (now n)) (sym e) (here e))
      (λ (differ : d ≢ c). subst P (sym (others d differ)) h)
      (same_or_not d c)

  same_records : (d : ℕ) → (now d).records ≡ (read d).records
  same_records d = stays (λ (r : Reading). r.records ≡ (read d).records) d (λ e. ap (λ (r : Reading). r.records) is ∙ ap (λ (n : ℕ). (read n).records) (sym e)) refl

  same_bytes : (d : ℕ) → (now d).bytes ≡ (read d).bytes
  same_bytes d = stays (λ (r : Reading). r.bytes ≡ (read d).bytes) d (λ e. ap (λ (r : Reading). r.bytes) is ∙ ap (λ (n : ℕ). (read n).bytes) (sym e)) refl

  ends_ended : (g d : ℕ) → g < shape.groupers → IsIn (CaptureEnd d) (put g) → IsWhole job d (now d)
  ends_ended g d below h = by_place (in_either (CaptureEnd d) (items g) (CaptureEnd c ∷ []) (subst (λ fs. IsIn (CaptureEnd d) fs) (frames g below) h))
    where
      by_place : IsIn (CaptureEnd d) (items g) ⊎ IsIn (CaptureEnd d) (CaptureEnd c ∷ []) → IsWhole job d (now d)
      by_place (inl old) = stays (IsWhole job d) d (λ e. subst (λ (n : ℕ). IsWhole job n (now c)) (sym e) whole) (kept.ends g d below old)
      by_place (inr (inl e)) = subst (λ (n : ℕ). IsWhole job n (now n)) (sym (ap capture_in e)) whole
      by_place (inr (inr l)) = absurd l

  abbrev Fared : ℕ → Counts → Type 0
  Fared d l = IsWhole job d (now d) × (l ≡ counts_of job d (now d).records (good_of job d (now d).bytes).cut)

  rows_ended : (d : ℕ) (l : Counts) → IsIn (CountsRow d l) longer → Fared d l
  rows_ended d l h = by_place (in_either (CountsRow d l) counts (CountsRow c k ∷ []) (subst (λ fs. IsIn (CountsRow d l) fs) row h))
    where
      by_place : IsIn (CountsRow d l) counts ⊎ IsIn (CountsRow d l) (CountsRow c k ∷ []) → Fared d l
      by_place (inl old) =
          let was = kept.rows d l old in (
            stays (IsWhole job d) d (λ e. subst (λ (n : ℕ). IsWhole job n (now c)) (sym e) whole) was.0,
            was.1 ∙ ap (λ (rs : List Captured). counts_of job d rs (good_of job d (read d).bytes).cut) (sym (same_records d))
                ∙ ap (λ (bytes : List ℕ). counts_of job d (now d).records (good_of job d bytes).cut) (sym (same_bytes d)),
          )
      by_place (inr (inl e)) =
          subst (λ (m : Counts). Fared d m) (sym (ap counts_at e)) (subst (λ (n : ℕ). Fared n k) (sym (ap capture_in e)) (whole, fared))
      by_place (inr (inr l)) = absurd l

  pub ended : ParserKeeps job shape p now put longer
  ended = record {
    lawful = λ g below.
        subst (AreLawful (ItemRule job shape p g)) (sym (frames g below))
        (lawful_more (ItemRule job shape p g) (items g) (CaptureEnd c) (kept.lawful g below)
        (record { own = own; permitted = in_all (λ f. Permits f (CaptureEnd c)) (items g) (λ f h. permits_end g f below h) }));
    lawful_counts =
        subst (AreLawful (CountsRule job shape p)) (sym row)
        (lawful_more (CountsRule job shape p) counts (CountsRow c k) kept.lawful_counts
        (record {
          own = (own, subst AreCounts (sym fared) (are_counts job c (now c).records (good_of job c (now c).bytes).cut (omega (arith, few, ap length (same_records c)))));
          permitted = in_all (λ f. Permits f (CountsRow c k)) counts (λ f h. permits_row f h);
        }));
    first = λ d own.
        subst (λ (bytes : List ℕ). AreFirst (wanted_of job d) bytes (now d).records) (sym (same_bytes d))
        (subst (λ (rs : List Captured). AreFirst (wanted_of job d) (read d).bytes rs) (sym (same_records d)) (kept.first d own));
    summaries = λ g d below own.
        ap (λ (fs : List Frame). of_capture d (items_in fs)) (frames g below) ∙ ap (of_capture d) (no_item_in (CaptureEnd c) (items g) refl) ∙ kept.summaries g d below own
        ∙ ap (λ (rs : List Captured). summaries_of_shard g shape.groupers (accepted_of job d rs)) (sym (same_records d));
    marks = λ g d m below h.
        subst (λ (rs : List Captured). IsMarkOf job d rs m) (sym (same_records d))
        (kept.marks g d m below (before_one is_mark (Mark d m) (CaptureEnd c) (items g) refl refl (subst (λ fs. IsIn (Mark d m) fs) (frames g below) h)));
    ends = ends_ended;
    rows = rows_ended;
  }

-- ---- the end of every link

module _ (job : Declared) (shape : Shape) (p : ℕ) (read : ℕ → Reading) (items put : ℕ → List Frame) (counts longer : List Frame)
    (kept : ParserKeeps job shape p read items counts)
    (all_ended : (g c : ℕ) → g < shape.groupers → IsCaptureOf (length job.captures) shape p c → HasEnded c (items g))
    (all_rows : (c : ℕ) → IsCaptureOf (length job.captures) shape p c → HasRow c counts)
    (unfinished : (g : ℕ) → g < shape.groupers → IsIn Finish (items g) → ⊥) (unfinished_counts : IsIn Finish counts → ⊥)
    (frames : (g : ℕ) → g < shape.groupers → put g ≡ items g ++ Finish ∷ []) (row : longer ≡ counts ++ Finish ∷ []) where
  permits_finish : (f : Frame) (fs : List Frame) → (IsIn Finish fs → ⊥) → IsIn f fs → Permits f Finish
  permits_finish (Item t) fs none h = tt
  permits_finish (Mark d old) fs none h = tt
  permits_finish (CaptureEnd d) fs none h = tt
  permits_finish (GroupHead first members key) fs none h = tt
  permits_finish (Member at vals) fs none h = tt
  permits_finish (GroupMark m) fs none h = tt
  permits_finish (AnswerRow a) fs none h = tt
  permits_finish (Profile row) fs none h = tt
  permits_finish (CountsRow d k) fs none h = tt
  permits_finish Finish fs none h = none h

  pub finished : ParserKeeps job shape p read put longer
  finished = record {
    lawful = λ g below.
        subst (AreLawful (ItemRule job shape p g)) (sym (frames g below))
        (lawful_more (ItemRule job shape p g) (items g) Finish (kept.lawful g below)
        (record { own = λ c own. all_ended g c below own; permitted = in_all (λ f. Permits f Finish) (items g) (λ f h. permits_finish f (items g) (unfinished g below) h) }));
    lawful_counts =
        subst (AreLawful (CountsRule job shape p)) (sym row)
        (lawful_more (CountsRule job shape p) counts Finish kept.lawful_counts
        (record { own = all_rows; permitted = in_all (λ f. Permits f Finish) counts (λ f h. permits_finish f counts unfinished_counts h) }));
    first = kept.first;
    summaries = λ g d below own.
        ap (λ (fs : List Frame). of_capture d (items_in fs)) (frames g below) ∙ ap (of_capture d) (no_item_in Finish (items g) refl) ∙ kept.summaries g d below own;
    marks = λ g d m below h. kept.marks g d m below (before_one is_mark (Mark d m) Finish (items g) refl refl (subst (λ fs. IsIn (Mark d m) fs) (frames g below) h));
    ends = λ g d below h. kept.ends g d below (before_one is_end (CaptureEnd d) Finish (items g) refl refl (subst (λ fs. IsIn (CaptureEnd d) fs) (frames g below) h));
    rows = λ d l h. kept.rows d l (before_one is_row (CountsRow d l) Finish counts refl refl (subst (λ fs. IsIn (CountsRow d l) fs) row h));
  }
