-- What is written: a front of the report, and at the end the report.
use Rattle.std.proofs.Common.{ℕ, Bool, true, false, List, [], ◌∷◌, ◌++◌, ◌≡◌, ◌<◌, ◌+◌, ◌%◌, Option, Some, None, inl, inr, refl, sym, ap, subst, ◌∙◌, arith, map, length, append_assoc, get_or}
use Rattle.std.specs.Prelude.{flat_map}
use Rattle.std.specs.List.{range_with_len}
use Rattle.std.specs.List.Sorted.{IsPermutation}
use Rattle.std.proofs.lemmas.List.{length-map}
use Rattle.std.proofs.lemmas.List.Sorted.{IsPermutation-trans}
use Rattle.answer_text.specs.Lines.{answer_text, end_text}
use Rattle.central_report.specs.Report.{accepted, accepted_from, groups, counts_from, group_texts, profile_texts, capture_texts, row_texts, names_of, report}
use Rattle.central_report.proofs.Sorting.{length-by_stamp}
use Rattle.ds_base.specs.Copies.{Copies}
use Rattle.ds_base.specs.Fronts.{IsIn, upto}
use Rattle.ds_base.specs.declared.capture.Counts.{Counts}
use Rattle.ds_base.specs.declared.profile_row.ProfileRow.{ProfileRow}
use Rattle.ds_base.specs.declared.summary.Summary.{Summary}
use Rattle.ds_base.specs.declared.verdict.Answer.{Answer}
use Rattle.key_select.specs.Fates.{counts_of}
use Rattle.node_frames.specs.declared.frame.Frame.{Frame}
use Rattle.node_frames.specs.declared.frame.Frame.TheVariants.{Item, Mark, CaptureEnd, GroupHead, Member, GroupMark, AnswerRow, Profile, CountsRow, Finish}
use Rattle.key_select.specs.Wanted.{good_of}
use Rattle.profiles.proofs.Orders.{in_any_order}
use Rattle.summary_spec.specs.Declaration.{Declared}
use Rattle.watermarks.specs.Least.{under}
use Rattle.window_grouper.specs.Closed.{is_closed, ends_by}
use Rattle.run_law.specs.Laws.{IsRun, shard_run, HasWrittenFront, WrittenIsFront}
use Rattle.run_law.specs.Links.{CountsRule, GroupRule, AnswerRule, AreLawfulCounts}
use Rattle.run_law.specs.Nodes.{below, answer_of, answer_texts, groups_arrived, least_of_links, AreInOrder, IsAskedProfile, rows_taken, capture_lines, counts_taken, lines_by, lines_due}
use Rattle.run_law.specs.Sent.{rows_in, counts_in, groups_in, of_firsts, bound_behind, bound_in}
use Rattle.run_law.specs.Shapes.{Shape, IsFront, dealt}
use Rattle.run_law.specs.Snapshot.{Lists, Snapshot, file_of}
use Rattle.run_law.proofs.Added.{profile_lines}
use Rattle.run_law.proofs.Answered.{texts_of_groups, going_to, going_all, arrived_perm, all_taken, all_answers, ordered_taken, taken_ordered, fronts_same}
use Rattle.run_law.proofs.Bounds.{none_below}
use Rattle.run_law.proofs.Coming.{all_groups, groups_front, kept, answers_front, answered_by, answers_lawful}
use Rattle.run_law.proofs.Counted.{counts_frame, AreGiven, all_lines, lines_front, given_from}
use Rattle.run_law.proofs.Lists.{in_front, of_below, front_trans, upto_front, flat-append}
use Rattle.run_law.proofs.Parts.{perm_equal, perm_flat}
use Rattle.run_law.proofs.Sharded.{step_front, closed_of_shard, parser_of}
use Rattle.run_law.proofs.Standing.{lawful_front, whole_with_end}

-- ---- the end of a link

end_behind : (mark : ℕ) (frames : List Frame) → bound_behind of_firsts (Some mark) frames ≡ None → IsIn Finish frames
end_behind mark [] h = absurd (cc)
end_behind mark (Finish ∷ fs) h = inl refl
end_behind mark (GroupMark m ∷ fs) h = inr (end_behind m fs h)
end_behind mark (Item s ∷ fs) h = inr (end_behind mark fs h)
end_behind mark (Mark c m ∷ fs) h = inr (end_behind mark fs h)
end_behind mark (CaptureEnd c ∷ fs) h = inr (end_behind mark fs h)
end_behind mark (GroupHead first members key ∷ fs) h = inr (end_behind mark fs h)
end_behind mark (Member at vals ∷ fs) h = inr (end_behind mark fs h)
end_behind mark (AnswerRow a ∷ fs) h = inr (end_behind mark fs h)
end_behind mark (Profile row ∷ fs) h = inr (end_behind mark fs h)
end_behind mark (CountsRow c k ∷ fs) h = inr (end_behind mark fs h)

-- of links without a mark the end came
pub ended_links : (n : ℕ) (taken : ℕ → List Frame) (i : ℕ) → i < n → least_of_links n taken ≡ None → IsIn Finish (taken i)
ended_links n taken i less h = end_behind 0 (taken i) (none_below n i (λ k. bound_in of_firsts (taken k)) less h)

-- ---- fronts

pub upto_always : {X : Type 0} (p : X → Bool) (xs : List X) → ((x : X) → p x ≡ true) → upto p xs ≡ xs
upto_always p [] h = refl
upto_always {X} p (x ∷ xs) h = rw (h x) (ap (λ (ys : List X). x ∷ ys) (upto_always p xs h))

pub texts_front : (job : Declared) (xs ys : List Answer) → IsFront xs ys → IsFront (answer_texts job xs) (answer_texts job ys)
texts_front job xs ys f = record {
  rest = answer_texts job f.rest;
  joined = ap (answer_texts job) f.joined ∙ flat-append (answer_text (names_of job)) xs f.rest;
}

pub front_more : {X : Type 0} (xs ys more : List X) → IsFront xs ys → IsFront xs (ys ++ more)
front_more xs ys more f = record { rest = f.rest ++ more; joined = ap (λ zs. zs ++ more) f.joined ∙ append_assoc xs f.rest more }

pub front_behind : {X : Type 0} (before xs ys : List X) → IsFront xs ys → IsFront (before ++ xs) (before ++ ys)
front_behind before xs ys f = record { rest = f.rest; joined = ap (λ zs. before ++ zs) f.joined ∙ sym (append_assoc before xs f.rest) }

always_closed : (window : ℕ) (x : Copies) → is_closed (under None) window x ≡ true
always_closed window x = by_members x.members
  where
    by_members : (ms : List Summary) → ends_by (under None) window ms ≡ true
    by_members [] = refl
    by_members (m ∷ ms) = refl

module _ (job : Declared) (files : List (List ℕ)) (shape : Shape) (start : List ℕ) (lists : Lists)
    (run : IsRun job files shape) (snap : Snapshot job files shape start lists) where
  -- ---- once every processor has finished

  abbrev pub merge_bound : Option ℕ
  merge_bound = least_of_links shape.processors (λ q. (lists.answers q).taken)

  answers_whole : (q : ℕ) → (hq : q < shape.processors) → merge_bound ≡ None → (lists.answers q).taken ≡ (lists.answers q).put
  answers_whole q hq none =
      whole_with_end (AnswerRule job) (lists.answers q).taken (lists.answers q).put (answers_front job files shape start lists run snap q hq)
      (answered_by job files shape start lists run snap q hq).lawful (ended_links shape.processors (λ k. (lists.answers k).taken) q hq none)

  end_put : (q : ℕ) → (hq : q < shape.processors) → merge_bound ≡ None → IsIn Finish (lists.answers q).put
  end_put q hq none =
      in_front Finish (lists.answers q).taken (lists.answers q).put (answers_front job files shape start lists run snap q hq)
      (ended_links shape.processors (λ k. (lists.answers k).taken) q hq none)

  -- each group that goes to q was taken there
  groups_whole : (g q : ℕ) → (hg : g < shape.groupers) → (hq : q < shape.processors) → merge_bound ≡ None
      → groups_in (lists.groups g q).taken ≡ dealt shape.processors g q (shard_run job files g shape.groupers)
  groups_whole g q hg hq none =
      let finished = ((answered_by job files shape start lists run snap q hq).finish (end_put q hq none)).0.finished in
      let end : IsIn Finish (lists.groups g q).taken = ended_links shape.groupers (λ k. (lists.groups k q).taken) g hg finished in
      let is = kept job files shape start lists run snap g hg in
      let f = groups_front job files shape start lists run snap g q hg hq in
      let all = is.finish q hq (in_front Finish (lists.groups g q).taken (lists.groups g q).put f end) in
      ap groups_in (whole_with_end (GroupRule job) (lists.groups g q).taken (lists.groups g q).put f (is.lawful q hq) end)
      ∙ is.in_turn q hq
      ∙ ap (dealt shape.processors g q) (all.1 ∙ closed_of_shard job files shape start lists run snap g hg
      ∙ ap (λ (b : Option ℕ). upto (is_closed (under b) job.window) (shard_run job files g shape.groupers)) all.0
      ∙ upto_always (is_closed (under None) job.window) (shard_run job files g shape.groupers) (always_closed job.window))

  profile_of : (q : ℕ) → (hq : q < shape.processors) → merge_bound ≡ None
      → IsAskedProfile job.profile (going_to job files shape start lists run snap q) (rows_in (lists.answers q).taken)
  profile_of q hq none =
      let is = answered_by job files shape start lists run snap q hq in
      let same : IsPermutation (groups_arrived is.arrived) (going_to job files shape start lists run snap q) =
      IsPermutation-trans (groups_arrived is.arrived) (flat_map (λ g. groups_in (lists.groups g q).taken) (below shape.groupers)) (going_to job files shape start lists run snap q)
      (arrived_perm job files shape start lists run snap q hq)
      (perm_flat (λ g. groups_in (lists.groups g q).taken) (λ g. dealt shape.processors g q (shard_run job files g shape.groupers)) (below shape.groupers)
      (λ g l. perm_equal (groups_in (lists.groups g q).taken) (dealt shape.processors g q (shard_run job files g shape.groupers)) (groups_whole g q (of_below shape.groupers g l) hq none))) in
      by_asked job.profile (groups_arrived is.arrived) (going_to job files shape start lists run snap q) (rows_in (lists.answers q).taken) same
      (subst (λ fs. IsAskedProfile job.profile (groups_arrived is.arrived) (rows_in fs)) (sym (answers_whole q hq none)) (is.finish (end_put q hq none)).1)
    where
      by_asked : (asked : Bool) (xs ys : List Copies) (rows : List ProfileRow) → IsPermutation xs ys → IsAskedProfile asked xs rows → IsAskedProfile asked ys rows
      by_asked false xs ys rows same h = h
      by_asked true xs ys rows same h = in_any_order xs ys rows same h

  rows_lines : merge_bound ≡ None
      → row_texts (names_of job) (rows_taken shape (λ q. (lists.answers q).taken)) ≡ profile_texts (names_of job) job.profile (groups job files)
  rows_lines none =
      profile_lines job files shape run (going_to job files shape start lists run snap) (λ q. rows_in (lists.answers q).taken) (below shape.processors)
      (going_all job files shape start lists run snap) (λ q l. profile_of q (of_below shape.processors q l) none)

  -- ---- the captures

  pub counts_front : (p : ℕ) → p < shape.parsers → IsFront (lists.counts p).taken (lists.counts p).put
  counts_front p hp = step_front job files shape start lists run snap (lists.counts p) (snap.counts_step p hp)

  pub counts_lawful : (p : ℕ) → p < shape.parsers → AreLawfulCounts job shape p (lists.counts p).taken
  counts_lawful p hp = lawful_front (CountsRule job shape p) (lists.counts p).taken (lists.counts p).put (counts_front p hp) (snap.parsers p hp).lawful_counts

  abbrev pub found : ℕ → Option Counts
  found c = counts_in c (lists.counts (c % shape.parsers)).taken

  -- the counts of a capture are those of its file
  found_is : (c : ℕ) (k : Counts) → c < length job.captures → found c ≡ Some k
      → k ≡ counts_of job c (good_of job c (file_of files c)).records (good_of job c (file_of files c)).cut
  found_is c k less e =
      let own = parser_of job files shape start lists run snap c less in
      let p : ℕ = c % shape.parsers in
      let put : IsIn (CountsRow c k) (lists.counts p).put =
      in_front (CountsRow c k) (lists.counts p).taken (lists.counts p).put (counts_front p own.0) (counts_frame c k (lists.counts p).taken e) in
      let row = (snap.parsers p own.0).rows c k put in
      let file : (lists.read c).bytes ≡ file_of files c = (snap.read c less).whole row.0.ended in
      row.1
      ∙ ap (λ rs. counts_of job c rs (good_of job c (lists.read c).bytes).cut) (sym row.0.records)
      ∙ ap (λ (bytes : List ℕ). counts_of job c (good_of job c bytes).records (good_of job c bytes).cut) file

  pub given : AreGiven job 0 (counts_taken job shape (λ p. (lists.counts p).taken)) files
  given =
      subst (λ (n : ℕ). AreGiven job 0 (map found (range_with_len 0 n)) files) run.files_are
      (given_from job found 0 files (λ c k less e. at_zero c k less e))
    where
      at_zero : (c : ℕ) (k : Counts) → c < length files → found (0 + c) ≡ Some k
          → k ≡ counts_of job (0 + c) (good_of job (0 + c) (get_or files c [])).records (good_of job (0 + c) (get_or files c [])).cut
      at_zero c k less e =
          let place : 0 + c ≡ c = omega arith in
          let within : c < length job.captures = omega (arith, run.files_are) in
          subst (λ (n : ℕ). k ≡ counts_of job n (good_of job n (get_or files c [])).records (good_of job n (get_or files c [])).cut) (sym place)
          (found_is c k within (ap found (sym place) ∙ e))

  -- ---- the report, and the lines that are due

  abbrev pub all_texts : List ℕ
  all_texts = answer_texts job (all_answers job files shape start lists run snap)

  abbrev pub lines_after : List ℕ
  lines_after = all_lines (names_of job) 0 (length (groups job files)) 0 (counts_from job 0 files) (length (accepted_from job 0 files))

  pub report_is : report job files ≡ all_texts ++ (profile_texts (names_of job) job.profile (groups job files) ++ lines_after)
  report_is =
      let texts = texts_of_groups job (groups job files) (all_groups job files shape start lists run snap) in
      let number : length (accepted job files) ≡ 0 + length (accepted_from job 0 files) = omega (arith, length-by_stamp (accepted_from job 0 files)) in
      let a : List ℕ = group_texts (names_of job) job.query (groups job files) in
      let b : List ℕ = profile_texts (names_of job) job.profile (groups job files) in
      let c : List ℕ = capture_texts (names_of job) 0 (counts_from job 0 files) in
      let d : ℕ → List ℕ = λ n. end_text (length (groups job files)) n in
      append_assoc (a ++ b) c (d (length (accepted job files)))
      ∙ append_assoc a b (c ++ d (length (accepted job files)))
      ∙ ap (λ (n : ℕ). a ++ (b ++ (c ++ d n))) number
      ∙ ap (λ (t : List ℕ). t ++ (b ++ (c ++ d (0 + length (accepted_from job 0 files))))) texts

  -- once all have finished, the answers in their order are all answers
  pub ordered_all : (ordered : List Answer) → AreInOrder (all_taken job files shape start lists run snap) ordered → merge_bound ≡ None
      → ordered ≡ all_answers job files shape start lists run snap
  ordered_all ordered h none =
      sym (upto_always (λ a. under None a.first.time) ordered (λ a. refl))
      ∙ ap (λ (b : Option ℕ). upto (λ a. under b a.first.time) ordered) (sym none)
      ∙ fronts_same job files shape start lists run snap ordered h
      ∙ ap (λ (b : Option ℕ). upto (λ a. under b a.first.time) (all_answers job files shape start lists run snap)) none
      ∙ upto_always (λ a. under None a.first.time) (all_answers job files shape start lists run snap) (λ a. refl)

  -- the lines once all have finished
  abbrev pub lines_then : List Answer → List ℕ
  lines_then ordered = lines_by job shape None (λ p. (lists.counts p).taken) (λ q. (lists.answers q).taken) ordered

  pub lines_then_are : (ordered : List Answer) → AreInOrder (all_taken job files shape start lists run snap) ordered → merge_bound ≡ None
      → lines_then ordered ≡ all_texts ++ (profile_texts (names_of job) job.profile (groups job files)
      ++ capture_lines (names_of job) 0 (length (groups job files)) 0 (counts_taken job shape (λ p. (lists.counts p).taken)))
  lines_then_are ordered h none =
      let all = ordered_all ordered h none in
      let rows : List ℕ = row_texts (names_of job) (rows_taken shape (λ q. (lists.answers q).taken)) in
      let ks = counts_taken job shape (λ p. (lists.counts p).taken) in
      let size : length ordered ≡ length (groups job files) = ap length all ∙ length-map (groups job files) (answer_of job) in
      append_assoc (answer_texts job ordered) rows (capture_lines (names_of job) 0 (length ordered) 0 ks)
      ∙ ap (λ (n : ℕ). answer_texts job ordered ++ (rows ++ capture_lines (names_of job) 0 n 0 ks)) size
      ∙ ap (λ (t : List Answer). answer_texts job t ++ (rows ++ capture_lines (names_of job) 0 (length (groups job files)) 0 ks)) all
      ∙ ap (λ (t : List ℕ). all_texts ++ (t ++ capture_lines (names_of job) 0 (length (groups job files)) 0 ks)) (rows_lines none)

  by_bound : (bound : Option ℕ) (ordered : List Answer) → AreInOrder (all_taken job files shape start lists run snap) ordered → merge_bound ≡ bound
      → IsFront (lines_by job shape bound (λ p. (lists.counts p).taken) (λ q. (lists.answers q).taken) ordered) (report job files)
  by_bound (Some mark) ordered h e =
      let all : List Answer = all_answers job files shape start lists run snap in
      let same : upto (λ a. under (Some mark) a.first.time) ordered ≡ upto (λ a. under (Some mark) a.first.time) all =
      subst (λ (b : Option ℕ). upto (λ a. under b a.first.time) ordered ≡ upto (λ a. under b a.first.time) all) e (fronts_same job files shape start lists run snap ordered h) in
      subst (λ t. IsFront (answer_texts job (upto (λ a. under (Some mark) a.first.time) ordered)) t) (sym report_is)
      (front_more (answer_texts job (upto (λ a. under (Some mark) a.first.time) ordered)) all_texts
      (profile_texts (names_of job) job.profile (groups job files) ++ lines_after)
      (subst (λ xs. IsFront (answer_texts job xs) all_texts) (sym same)
      (texts_front job (upto (λ a. under (Some mark) a.first.time) all) all (upto_front (λ a. under (Some mark) a.first.time) all))))
  by_bound None ordered h e =
      let ks = counts_taken job shape (λ p. (lists.counts p).taken) in
      let profile : List ℕ = profile_texts (names_of job) job.profile (groups job files) in
      let captures : List ℕ = capture_lines (names_of job) 0 (length (groups job files)) 0 ks in
      subst (λ t. IsFront t (report job files)) (sym (lines_then_are ordered h e))
      (subst (λ t. IsFront (all_texts ++ (profile ++ captures)) t) (sym report_is)
      (front_behind all_texts (profile ++ captures) (profile ++ lines_after)
      (front_behind profile captures lines_after
      (lines_front job (names_of job) 0 (length (groups job files)) 0 ks files given))))

  pub due_front : (ordered : List Answer) → AreInOrder (all_taken job files shape start lists run snap) ordered
      → IsFront (lines_due job shape (λ p. (lists.counts p).taken) (λ q. (lists.answers q).taken) ordered) (report job files)
  due_front ordered h = by_bound merge_bound ordered h refl

  pub written_front : HasWrittenFront job files start lists.written
  written_front =
      let m = snap.merge counts_lawful (λ q hq. answers_lawful job files shape start lists run snap q hq) in
      let ordered : List Answer = ordered_taken job files shape start lists run snap in
      let h = taken_ordered job files shape start lists run snap in
      record {
        gained = m.gained;
        since = m.since;
        front = front_trans m.gained (lines_due job shape (λ p. (lists.counts p).taken) (λ q. (lists.answers q).taken) ordered) (report job files)
            (m.due ordered h) (due_front ordered h);
      }

pub written_is_front : WrittenIsFront
written_is_front job files shape start lists run snap = written_front job files shape start lists run snap
