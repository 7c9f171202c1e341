-- The end of a run: the report is written, and every link is settled.
use Rattle.std.proofs.Common.{ℕ, List, [], ◌∷◌, ◌++◌, ◌≡◌, ◌<◌, ◌%◌, Option, Some, None, inl, inr, refl, sym, ap, ◌∙◌, arith, map, length}
use Rattle.central_report.specs.Report.{groups, names_of, profile_texts, report}
use Rattle.ds_base.specs.Fronts.{IsIn}
use Rattle.ds_base.specs.declared.verdict.Answer.{Answer}
use Rattle.node_frames.specs.declared.frame.Frame.{Frame}
use Rattle.node_frames.specs.declared.frame.Frame.TheVariants.{CountsRow, Finish}
use Rattle.summary_spec.specs.Declaration.{Declared}
use Rattle.watermarks.specs.Least.{lesser, least_mark}
use Rattle.run_law.specs.Laws.{IsRun, DoneIsWhole}
use Rattle.run_law.specs.Links.{AreLawful, ItemRule, CountsRule, GroupRule, AnswerRule}
use Rattle.run_law.specs.Nodes.{AreInOrder, below, least_of_links, counts_taken, lines_by, lines_due}
use Rattle.run_law.specs.Sent.{Saying, of_firsts, bound_after, bound_behind, bound_in}
use Rattle.run_law.specs.Shapes.{Shape}
use Rattle.run_law.specs.Snapshot.{Link, Lists, Snapshot, AreDone, IsInStep, IsSettled}
use Rattle.run_law.proofs.Answered.{all_taken, ordered_taken, taken_ordered}
use Rattle.run_law.proofs.Coming.{kept, answered_by}
use Rattle.run_law.proofs.Counted.{row_counts, AreThere, lines_all, there_from}
use Rattle.run_law.proofs.Lists.{in_front, of_below, front_trans}
use Rattle.run_law.proofs.Sharded.{parser_of}
use Rattle.run_law.proofs.Standing.{stands, whole_with_end}
use Rattle.run_law.proofs.Written.{merge_bound, counts_lawful, found, given, all_texts, report_is, lines_then_are}

-- ---- no mark

pub none_stays : (says : Frame → Saying) (frames : List Frame) → bound_behind says None frames ≡ None
none_stays says [] = refl
none_stays says (f ∷ fs) = none_stays says fs

pub none_after_end : (bound : Option ℕ) → bound_after bound (Some None) ≡ None
none_after_end None = refl
none_after_end (Some m) = refl

-- the end leaves no mark
pub ended : (says : Frame → Saying) (bound : Option ℕ) (frames : List Frame) → says Finish ≡ Some None → IsIn Finish frames → bound_behind says bound frames ≡ None
ended says bound [] is h = absurd h
ended says bound (f ∷ fs) is (inl e) =
    ap (λ (z : Frame). bound_behind says (bound_after bound (says z)) fs) (sym e)
    ∙ ap (λ (o : Saying). bound_behind says (bound_after bound o) fs) is
    ∙ ap (λ (b : Option ℕ). bound_behind says b fs) (none_after_end bound)
    ∙ none_stays says fs
ended says bound (f ∷ fs) is (inr l) = ended says (bound_after bound (says f)) fs is l

pub least_none : (f : ℕ → Option ℕ) (ks : List ℕ) → ((k : ℕ) → IsIn k ks → f k ≡ None) → least_mark (map f ks) ≡ None
least_none f [] h = refl
least_none f (k ∷ ks) h = ap (λ (m : Option ℕ). lesser m (least_mark (map f ks))) (h k (inl refl)) ∙ least_none f ks (λ j l. h j (inr l))

pub all_ended : (n : ℕ) (taken : ℕ → List Frame) → ((i : ℕ) → i < n → IsIn Finish (taken i)) → least_of_links n taken ≡ None
all_ended n taken h = least_none (λ i. bound_in of_firsts (taken i)) (below n) (λ i l. ended of_firsts (Some 0) (taken i) refl (h i (of_below n i l)))

-- ---- links

pub settled : (Own : List Frame → Frame → Type 0) (link : Link) → IsInStep link → AreLawful Own link.put → IsIn Finish link.taken → IsSettled link
settled Own link step lawful end =
    let sent : link.sent ≡ link.put = whole_with_end Own link.sent link.put step.sent lawful (in_front Finish link.taken link.sent step.taken end) in
    let taken : link.taken ≡ link.put =
    whole_with_end Own link.taken link.put (front_trans link.taken link.sent link.put step.taken step.sent) lawful end in
    record { sent = sent; taken = taken ∙ sym sent }

-- ---- the lines that are due once the ends came

module _ (job : Declared) (files : List (List ℕ)) (shape : Shape) (start : List ℕ) (lists : Lists)
    (run : IsRun job files shape) (snap : Snapshot job files shape start lists)
    (counts_end : (p : ℕ) → p < shape.parsers → IsIn Finish (lists.counts p).taken)
    (answers_end : (q : ℕ) → q < shape.processors → IsIn Finish (lists.answers q).taken) where
  -- each capture has its row
  row_there : (c : ℕ) → c < length job.captures → found job files shape start lists run snap c ≡ None → ⊥
  row_there c less none =
      let own = parser_of job files shape start lists run snap c less in
      let p : ℕ = c % shape.parsers in
      let end = stands (CountsRule job shape p) (lists.counts p).taken Finish (counts_lawful job files shape start lists run snap p own.0) (counts_end p own.0) in
      let row = end.own c own.1 in
      row_counts c row.0 (lists.counts p).taken (in_front (CountsRow c row.0) end.before (lists.counts p).taken end.front row.1) none

  all_there : AreThere (counts_taken job shape (λ p. (lists.counts p).taken))
  all_there =
      there_from (found job files shape start lists run snap) 0 (length job.captures) (λ c low high. row_there c (omega (arith, high)))

  pub due_is_report : (ordered : List Answer) → AreInOrder (all_taken job files shape start lists run snap) ordered
      → lines_due job shape (λ p. (lists.counts p).taken) (λ q. (lists.answers q).taken) ordered ≡ report job files
  due_is_report ordered h =
      let none : merge_bound job files shape start lists run snap ≡ None = all_ended shape.processors (λ q. (lists.answers q).taken) answers_end in
      let ks = counts_taken job shape (λ p. (lists.counts p).taken) in
      let texts : List ℕ = all_texts job files shape start lists run snap in
      let profile : List ℕ = profile_texts (names_of job) job.profile (groups job files) in
      ap (λ (b : Option ℕ). lines_by job shape b (λ p. (lists.counts p).taken) (λ q. (lists.answers q).taken) ordered) none
      ∙ lines_then_are job files shape start lists run snap ordered h none
      ∙ ap (λ (t : List ℕ). texts ++ (profile ++ t))
      (lines_all job (names_of job) 0 (length (groups job files)) 0 ks files (given job files shape start lists run snap) all_there)
      ∙ sym (report_is job files shape start lists run snap)

-- ---- all links

module _ (job : Declared) (files : List (List ℕ)) (shape : Shape) (start : List ℕ) (lists : Lists)
    (run : IsRun job files shape) (snap : Snapshot job files shape start lists) (done : AreDone job shape start lists) where
  pub items_settled : (p g : ℕ) → p < shape.parsers → g < shape.groupers → IsSettled (lists.items p g)
  items_settled p g hp hg = settled (ItemRule job shape p g) (lists.items p g) (snap.items_step p g hp hg) ((snap.parsers p hp).lawful g hg) (done.items p g hp hg)

  pub counts_settled : (p : ℕ) → p < shape.parsers → IsSettled (lists.counts p)
  counts_settled p hp = settled (CountsRule job shape p) (lists.counts p) (snap.counts_step p hp) (snap.parsers p hp).lawful_counts (done.counts p hp)

  pub groups_settled : (g q : ℕ) → g < shape.groupers → q < shape.processors → IsSettled (lists.groups g q)
  groups_settled g q hg hq =
      settled (GroupRule job) (lists.groups g q) (snap.groups_step g q hg hq) ((kept job files shape start lists run snap g hg).lawful q hq) (done.groups g q hg hq)

  pub answers_settled : (q : ℕ) → q < shape.processors → IsSettled (lists.answers q)
  answers_settled q hq =
      settled (AnswerRule job) (lists.answers q) (snap.answers_step q hq) (answered_by job files shape start lists run snap q hq).lawful (done.answers q hq)

  pub written_whole : lists.written ≡ start ++ report job files
  written_whole =
      let ordered : List Answer = ordered_taken job files shape start lists run snap in
      let h = taken_ordered job files shape start lists run snap in
      done.written ordered h ∙ ap (λ (t : List ℕ). start ++ t) (due_is_report job files shape start lists run snap done.counts done.answers ordered h)

pub done_is_whole : DoneIsWhole
done_is_whole job files shape start lists run snap done = record {
  written = written_whole job files shape start lists run snap done;
  items = items_settled job files shape start lists run snap done;
  counts = counts_settled job files shape start lists run snap done;
  groups = groups_settled job files shape start lists run snap done;
  answers = answers_settled job files shape start lists run snap done;
}
