-- A state stands for what was taken and pushed, one frame or one line more.
use Rattle.std.proofs.Common.{ℕ, zero, suc, true, false, List, [], ◌∷◌, ◌++◌, ◌≡◌, ◌≤◌, ◌<◌, ◌+◌, ◌-◌, ◌%◌, ◌^◌, Option, Some, None, Result, Ok, Err, Bool, refl, sym, ap, subst, ◌∙◌, ⊎_elim, arith, map, length, set, get_or, drop, replicate, length-set}
use Rattle.std.specs.Prelude.{flat_map, sum_by, slice_get, OnOk, OnErr, IfOk}
use Rattle.std.specs.List.{AllByRecursion, range_with_len}
use Rattle.std.proofs.lemmas.List.{append-nil, get_or-replicate, length-replicate}
use Rattle.std.proofs.lemmas.Option.{slice_get_cases}
use Rattle.std.proofs.lemmas.List.Concat.{length-flat_map}
use Rattle.std.proofs.lemmas.List.Sorted.{length_permutation}
use Rattle.answer_text.specs.Lines.{answer_text, capture_text, end_text, profile_text}
use Rattle.central_report.specs.Report.{names_of}
use Rattle.ds_base.specs.Fronts.{upto}
use Rattle.ds_base.specs.declared.capture.Counts.{Counts}
use Rattle.ds_base.specs.declared.profile_row.ProfileRow.{ProfileRow}
use Rattle.ds_base.specs.declared.verdict.Answer.{Answer}
use Rattle.node_frames.specs.declared.frame.Frame.{Frame}
use Rattle.node_frames.specs.declared.frame.Frame.TheVariants.{AnswerRow, CountsRow, Finish, GroupMark, Profile}
use Rattle.profiles.specs.Put.{put}
use Rattle.profiles.specs.Rows.{AreJoined, count_of}
use Rattle.summary_spec.specs.Declaration.{Declared}
use Rattle.summary_spec.specs.Lawful.{IsLawful}
use Rattle.watermarks.specs.Least.{least_mark, under}
use Rattle.watermarks.specs.Raised.{raised_to}
use Rattle.run_law.specs.Links.{IsAnswerOf, members_answered}
use Rattle.run_law.specs.Nodes.{below, least_of_links, rows_added, AreInOrder, HasWrittenDue, MergeKeeps}
use Rattle.run_law.specs.Sent.{answers_in, rows_in, counts_in, of_firsts, bound_after, bound_in}
use Rattle.run_law.specs.Shapes.{Shape}
use Rattle.merge_state.specs.Queues.{put_in}
use Rattle.merge_state.specs.States.{AnswersKept, CountsKept, IsOver, IsPlain, RowsKept, StateIs, StateStands, TailIs, TakesAnswers, TakesCounts, answers_over, rows_over}
use Rattle.merge_state.specs.Promised.{AgreeBelow, left_at}
use Rattle.merge_state.specs.declared.stage.Stage.{Stage}
use Rattle.merge_state.specs.declared.stage.Stage.TheVariants.{Answers, Rows, Captures, Ended}
use Rattle.merge_state.proofs.Captures as captures
use Rattle.merge_state.proofs.Lines as lines
use Rattle.merge_state.proofs.Links.{flat_below, map_below, sum_few, sum_range}
use Rattle.merge_state.proofs.Marks.{goes_on, least_is, mark_ended, mark_kept, mark_raised, mark_same}
use Rattle.merge_state.proofs.Ordered.{takes_answer, takes_other}
use Rattle.merge_state.proofs.Totals.{room_for, rows_same, takes_row}

-- ---- the start

pub starts : (job : Declared) (shape : Shape) (marks : List (Option ℕ)) (rows : List ProfileRow) (came : List (Option Counts)) (n : ℕ) → IsLawful job → 0 < shape.parsers → shape.processors ≡ n → n ≤ 16
    → marks ≡ replicate n (Some 0) → rows ≡ [] → came ≡ replicate (length job.captures) None
    → StateIs job shape.parsers shape.processors (λ parser. []) (λ processor. []) [] [] marks rows came 0 Answers
starts job shape marks rows came n lawful some e few marked none empty = record {
  job_is = lawful;
  some_parsers = some;
  few_links = omega (arith, e, few);
  marks_each = ap length marked ∙ length-replicate n (Some 0) ∙ sym e;
  marks_are = λ q less. ap (λ (ms : List (Option ℕ)). get_or ms q None) marked ∙ get_or-replicate n q (Some 0) None (omega (arith, less, e));
  rows_kept = record {
    are = none ∙ sym (no_rows shape.processors);
    plain = λ q less. tt;
    few = λ q from to less. omega arith;
    counted = λ from to. ap (count_of from to) none ∙ sym (zeros 0 shape.processors);
    among = subst (AllByRecursion (λ row. (row.from < length job.captures) × (row.to < length job.captures))) (sym none) tt;
  };
  counts_kept = record {
    each = ap length empty ∙ length-replicate (length job.captures) None;
    are = λ c less. ap (λ (ks : List (Option Counts)). get_or ks c None) empty ∙ get_or-replicate (length job.captures) c None None less;
    few = λ c k is. absurd (none_there c k (sym (ap (λ (ks : List (Option Counts)). get_or ks c None) empty) ∙ is));
  };
  stands = record {
    given = [];
    answers = record {
      in_order = λ ordered h. nothing ordered h;
      passed = tt;
      of_job = tt;
      few = omega arith;
      told = λ q less. omega arith;
      within = λ q less. omega arith;
    };
    number = refl;
    tail = [];
    lines = refl;
    tail_is = refl;
    over = tt;
  };
}
  where
    no_rows : (m : ℕ) → rows_over m (λ processor. []) ≡ []
    no_rows m = from 0 m
      where
        from : (a m : ℕ) → rows_added (map (λ q. []) (range_with_len a m)) ≡ []
        from a zero = refl
        from a (suc m) = from (a + 1) m

    zeros : (a m : ℕ) → sum_by (λ q. 0) (range_with_len a m) ≡ 0
    zeros a zero = refl
    zeros a (suc m) = zeros (a + 1) m

    none_there : (c : ℕ) (k : Counts) → get_or (replicate (length job.captures) None) c None ≡ Some k → ⊥
    none_there c k is = among (length job.captures) c is
      where
        among : (m c : ℕ) → get_or (replicate m None) c None ≡ Some k → ⊥
        among zero c is = absurd (cc)
        among (suc m) zero is = absurd (cc)
        among (suc m) (suc c) is = among m c is

    no_answers : (a m : ℕ) → flat_map (λ (q : ℕ). answers_in []) (range_with_len a m) ≡ []
    no_answers a zero = refl
    no_answers a (suc m) = no_answers (a + 1) m

    nothing : (ordered : List Answer) → AreInOrder (answers_over shape.processors (λ processor. [])) ordered → ordered ≡ []
    nothing ordered h = none_of ordered (length_permutation (answers_over shape.processors (λ processor. [])) ordered h.same ∙ ap length (no_answers 0 shape.processors))
      where
        none_of : (xs : List Answer) → length xs ≡ 0 → xs ≡ []
        none_of [] e = refl
        none_of (x ∷ xs) e = absurd (omega (arith, e))

-- ---- frames of the processors

module _ (job : Declared) (shape : Shape) (counts taken more : ℕ → List Frame) (gained : List ℕ) (waiting : List Answer) (marks : List (Option ℕ)) (rows : List ProfileRow)
    (came : List (Option Counts)) (groups : ℕ) (stage : Stage) (q : ℕ) (h : StateIs job shape.parsers shape.processors counts taken gained waiting marks rows came groups stage) where
  -- as long as a processor goes on, what comes changes nothing of the lines that were pushed
  stands_after : (f : Frame) → TakesAnswers job shape taken more q f → (newer : List Answer) (new : List ProfileRow) → AnswersKept job shape.processors more h.stands.given newer
      → StateStands job shape.processors more gained newer new came groups stage
  stands_after f takes newer new kept = record {
    given = h.stands.given;
    answers = kept;
    number = h.stands.number;
    tail = h.stands.tail;
    lines = h.stands.lines;
    tail_is = tail_more stage h.stands.over h.stands.tail_is;
    over = over_more stage h.stands.over;
  }
    where
      going : least_of_links shape.processors taken ≡ None → ⊥
      going = goes_on job shape.processors taken more q f takes.takes takes.may

      tail_more : (x : Stage) → IsOver x (least_of_links shape.processors taken) waiting → TailIs (names_of job) groups rows came x h.stands.tail → TailIs (names_of job) groups new came x h.stands.tail
      tail_more Answers o t = t
      tail_more (Rows next) o t = absurd (going o.0)
      tail_more (Captures next summaries) o t = absurd (going o.0)
      tail_more Ended o t = absurd (going o.0)

      over_more : (x : Stage) → IsOver x (least_of_links shape.processors taken) waiting → IsOver x (least_of_links shape.processors more) newer
      over_more Answers o = tt
      over_more (Rows next) o = absurd (going o.0)
      over_more (Captures next summaries) o = absurd (going o.0)
      over_more Ended o = absurd (going o.0)

  pub answer_taken : (a : Answer) → TakesAnswers job shape taken more q (AnswerRow a)
      → StateIs job shape.parsers shape.processors counts more gained (put_in a waiting) marks rows came groups stage
  answer_taken a takes = record {
    job_is = h.job_is;
    some_parsers = h.some_parsers;
    few_links = h.few_links;
    marks_each = h.marks_each;
    marks_are = mark_same job shape.processors taken more q (AnswerRow a) takes.takes takes.may marks refl h.marks_are;
    rows_kept = rows_same job shape.processors taken more q (AnswerRow a) takes.takes rows h.rows_kept refl;
    counts_kept = h.counts_kept;
    stands = stands_after (AnswerRow a) takes (put_in a waiting) rows (takes_answer job shape.processors taken more q a takes.takes takes.may h.stands.given waiting h.stands.answers);
  }

  mark_set : (f : Frame) → TakesAnswers job shape taken more q f → (b : Option ℕ) → b ≡ bound_after (bound_in of_firsts (taken q)) (of_firsts f)
      → AnswersKept job shape.processors more h.stands.given waiting → RowsKept (length job.captures) shape.processors more rows
      → StateIs job shape.parsers shape.processors counts more gained waiting (set marks q b) rows came groups stage
  mark_set f takes b is kept kept_rows = record {
    job_is = h.job_is;
    some_parsers = h.some_parsers;
    few_links = h.few_links;
    marks_each = length-set marks q b ∙ h.marks_each;
    marks_are = mark_kept job shape.processors taken more q f takes.takes takes.may marks b h.marks_each h.marks_are is;
    rows_kept = kept_rows;
    counts_kept = h.counts_kept;
    stands = stands_after f takes waiting rows kept;
  }

  pub mark_taken : (m : ℕ) → TakesAnswers job shape taken more q (GroupMark m)
      → StateIs job shape.parsers shape.processors counts more gained waiting (set marks q (raised_to m (get_or marks q None))) rows came groups stage
  mark_taken m takes =
      mark_set (GroupMark m) takes (raised_to m (get_or marks q None))
      (ap (raised_to m) (h.marks_are q takes.takes.there) ∙ mark_raised job (taken q) m takes.may)
      (takes_other job shape.processors taken more q (GroupMark m) takes.takes takes.may h.stands.given waiting h.stands.answers refl refl)
      (rows_same job shape.processors taken more q (GroupMark m) takes.takes rows h.rows_kept refl)

  pub end_taken : TakesAnswers job shape taken more q Finish → StateIs job shape.parsers shape.processors counts more gained waiting (set marks q None) rows came groups stage
  end_taken takes =
      mark_set Finish takes None (mark_ended (bound_in of_firsts (taken q)))
      (takes_other job shape.processors taken more q Finish takes.takes takes.may h.stands.given waiting h.stands.answers refl refl)
      (rows_same job shape.processors taken more q Finish takes.takes rows h.rows_kept refl)

  pub row_taken : (row : ProfileRow) (new : List ProfileRow) → TakesAnswers job shape taken more q (Profile row) → length row.classes ≡ 64 → new ≡ put row rows → AreJoined rows (row ∷ []) new
      → StateIs job shape.parsers shape.processors counts more gained waiting marks new came groups stage
  row_taken row new takes width is joins = record {
    job_is = h.job_is;
    some_parsers = h.some_parsers;
    few_links = h.few_links;
    marks_each = h.marks_each;
    marks_are = mark_same job shape.processors taken more q (Profile row) takes.takes takes.may marks refl h.marks_are;
    rows_kept = takes_row job shape.processors taken more q row takes.takes takes.may h.job_is.captures.1 width rows new is joins h.rows_kept;
    counts_kept = h.counts_kept;
    stands = stands_after (Profile row) takes waiting new (takes_other job shape.processors taken more q (Profile row) takes.takes takes.may h.stands.given waiting h.stands.answers refl refl);
  }

  pub row_room : (row : ProfileRow) → TakesAnswers job shape taken more q (Profile row) → count_of row.from row.to rows + row.count < 2 ^ 55
  row_room row takes = room_for (length job.captures) shape.processors taken rows row h.rows_kept h.few_links takes.may.own.few

  pub link_there : (f : Frame) → TakesAnswers job shape taken more q f → q < length marks
  link_there f takes = omega (arith, takes.takes.there, h.marks_each)

-- ---- frames of the parsers

module _ (job : Declared) (shape : Shape) (counts more taken : ℕ → List Frame) (gained : List ℕ) (waiting : List Answer) (marks : List (Option ℕ)) (rows : List ProfileRow)
    (came : List (Option Counts)) (groups : ℕ) (stage : Stage) (p : ℕ) (h : StateIs job shape.parsers shape.processors counts taken gained waiting marks rows came groups stage) where
  counts_changed : (newer : List (Option Counts)) → CountsKept (length job.captures) shape.parsers more newer
      → ((tail : List ℕ) → TailIs (names_of job) groups rows came stage tail → TailIs (names_of job) groups rows newer stage tail)
      → StateIs job shape.parsers shape.processors more taken gained waiting marks rows newer groups stage
  counts_changed newer kept stays = record {
    job_is = h.job_is;
    some_parsers = h.some_parsers;
    few_links = h.few_links;
    marks_each = h.marks_each;
    marks_are = h.marks_are;
    rows_kept = h.rows_kept;
    counts_kept = kept;
    stands = record {
      given = h.stands.given;
      answers = h.stands.answers;
      number = h.stands.number;
      tail = h.stands.tail;
      lines = h.stands.lines;
      tail_is = stays h.stands.tail h.stands.tail_is;
      over = h.stands.over;
    };
  }

  pub counts_taken : (c : ℕ) (k : Counts) → TakesCounts job shape counts more p (CountsRow c k)
      → StateIs job shape.parsers shape.processors more taken gained waiting marks rows (set came c (Some k)) groups stage
  counts_taken c k takes =
      counts_changed (set came c (Some k)) (captures.takes_counts job shape counts more p c k came h.some_parsers takes.takes takes.may h.counts_kept)
      (captures.tail_stays job shape counts more p c k came h.some_parsers takes.takes takes.may h.counts_kept (names_of job) groups rows stage)

  pub capture_there : (c : ℕ) (k : Counts) → TakesCounts job shape counts more p (CountsRow c k) → c < length came
  capture_there c k takes = captures.is_capture job shape counts more p c k came h.some_parsers takes.takes takes.may h.counts_kept

  pub nothing_counted : (f : Frame) → TakesCounts job shape counts more p f → ((c : ℕ) → counts_in c (f ∷ []) ≡ None)
      → StateIs job shape.parsers shape.processors more taken gained waiting marks rows came groups stage
  nothing_counted f takes silent =
      counts_changed came (captures.counts_same (length job.captures) shape.parsers counts more p f came h.some_parsers takes.takes silent h.counts_kept) (λ tail t. t)

-- ---- the promise

module _ (job : Declared) (shape : Shape) (counts taken : ℕ → List Frame) (gained : List ℕ) (waiting : List Answer) (marks : List (Option ℕ)) (rows : List ProfileRow)
    (came : List (Option Counts)) (groups : ℕ) (stage : Stage) (h : StateIs job shape.parsers shape.processors counts taken gained waiting marks rows came groups stage) where
  pub keeps : MergeKeeps job shape counts taken [] gained
  keeps = record {
    gained = gained;
    since = refl;
    due = λ ordered o.
        lines.due_front job shape counts taken gained waiting rows came groups stage h.rows_kept.are (lines.counts_are job shape counts came h.counts_kept) h.stands ordered
        (h.stands.answers.in_order ordered o);
  }

  pub least_kept : least_of_links shape.processors taken ≡ least_mark marks
  least_kept = least_is shape.processors taken marks h.marks_each h.marks_are

  pub answers_rest : stage ≡ Answers → upto (λ a. under (least_mark marks) a.first.time) waiting ≡ [] → ((least_mark marks ≡ None) × (waiting ≡ []) → ⊥) → HasWrittenDue job shape counts taken [] gained
  answers_rest is none going = λ ordered o.
      lines.no_answer_due job shape counts taken gained waiting rows came groups stage h.rows_kept.are (lines.counts_are job shape counts came h.counts_kept) h.stands ordered
      (h.stands.answers.in_order ordered o) is
      (subst (λ (b : Option ℕ). upto (λ a. under b a.first.time) waiting ≡ []) (sym least_kept) none)
      (subst (λ (b : Option ℕ). (b ≡ None) × (waiting ≡ []) → ⊥) (sym least_kept) going)

  pub capture_rests : (next summaries : ℕ) → stage ≡ Captures next summaries → next < length came → get_or came next None ≡ None → HasWrittenDue job shape counts taken [] gained
  capture_rests next summaries is less none = λ ordered o.
      let over : (least_of_links shape.processors taken ≡ None) × (waiting ≡ []) = subst (λ (x : Stage). IsOver x (least_of_links shape.processors taken) waiting) is h.stands.over in
      lines.no_line_due job shape counts taken gained waiting rows came groups stage h.rows_kept.are (lines.counts_are job shape counts came h.counts_kept) h.stands ordered
      (h.stands.answers.in_order ordered o) over.0 over.1
      (lines.no_capture_due (names_of job) groups rows came next summaries h.stands.tail (subst (λ (x : Stage). TailIs (names_of job) groups rows came x h.stands.tail) is h.stands.tail_is) less none)

  pub end_rests : stage ≡ Ended → HasWrittenDue job shape counts taken [] gained
  end_rests is = λ ordered o.
      let over : (least_of_links shape.processors taken ≡ None) × (waiting ≡ []) = subst (λ (x : Stage). IsOver x (least_of_links shape.processors taken) waiting) is h.stands.over in
      lines.no_line_due job shape counts taken gained waiting rows came groups stage h.rows_kept.are (lines.counts_are job shape counts came h.counts_kept) h.stands ordered
      (h.stands.answers.in_order ordered o) over.0 over.1
      (subst (λ (x : Stage). TailIs (names_of job) groups rows came x h.stands.tail) is h.stands.tail_is).lines

  -- the same with another stage, other answers that wait, and another text
  pub stands_so : (longer : List ℕ) (newer : List Answer) (more : ℕ) (next : Stage) → StateStands job shape.processors taken longer newer rows came more next
      → StateIs job shape.parsers shape.processors counts taken longer newer marks rows came more next
  stands_so longer newer more next s = record {
    job_is = h.job_is;
    some_parsers = h.some_parsers;
    few_links = h.few_links;
    marks_each = h.marks_each;
    marks_are = h.marks_are;
    rows_kept = h.rows_kept;
    counts_kept = h.counts_kept;
    stands = s;
  }

  -- there are few answers
  pub few_groups : groups ≤ 2 ^ 54
  few_groups =
      let each = sum_few (λ q. length (answers_in (taken q))) (2 ^ 50) 0 shape.processors
      (λ q low high. let less : q < shape.processors = omega (arith, high) in omega (arith, h.stands.answers.told q less, h.stands.answers.within q less)) in
      omega (arith, h.stands.number, h.stands.answers.few, length-flat_map (λ q. answers_in (taken q)) (below shape.processors), each, h.few_links)

-- the first of a list
first_is : (xs : List Answer) (a : Answer) → slice_get xs 0 ≡ Some a → xs ≡ a ∷ drop 1 xs
first_is [] a h = absurd (cc)
first_is (x ∷ xs) a h = let same : x ≡ a = cc in ap (λ (y : Answer). y ∷ xs) same

-- ---- one line more

module _ (job : Declared) (shape : Shape) (counts taken : ℕ → List Frame) (gained : List ℕ) (waiting : List Answer) (marks : List (Option ℕ)) (rows : List ProfileRow)
    (came : List (Option Counts)) (groups : ℕ) (stage : Stage) (h : StateIs job shape.parsers shape.processors counts taken gained waiting marks rows came groups stage) where
  abbrev StateAt : (longer : List ℕ) → Stage → Type 0
  StateAt longer next = StateIs job shape.parsers shape.processors counts taken longer waiting marks rows came groups next

  goes : (line : List ℕ) (next : Stage) → TailIs (names_of job) groups rows came next (h.stands.tail ++ line) → IsOver next (least_of_links shape.processors taken) waiting → StateAt (gained ++ line) next
  goes line next t over =
      stands_so job shape counts taken gained waiting marks rows came groups stage h (gained ++ line) waiting groups next
      (lines.stands_step job shape.processors taken gained line waiting rows came groups stage next h.stands t over)

  tail_at : (now : Stage) → stage ≡ now → TailIs (names_of job) groups rows came now h.stands.tail
  tail_at now is = subst (λ (x : Stage). TailIs (names_of job) groups rows came x h.stands.tail) is h.stands.tail_is

  over_at : (now : Stage) → stage ≡ now → IsOver now (least_of_links shape.processors taken) waiting
  over_at now is = subst (λ (x : Stage). IsOver x (least_of_links shape.processors taken) waiting) is h.stands.over

  pub goes_to_rows : stage ≡ Answers → least_mark marks ≡ None → waiting ≡ [] → StateAt gained (Rows 0)
  goes_to_rows is over none =
      subst (λ (text : List ℕ). StateAt text (Rows 0)) (append-nil gained)
      (goes [] (Rows 0) (lines.rows_begin (names_of job) groups rows came h.stands.tail (tail_at Answers is))
      (least_kept job shape counts taken gained waiting marks rows came groups stage h ∙ over, none))

  pub pushes_row : (next : ℕ) (row : ProfileRow) → stage ≡ Rows next → slice_get rows next ≡ Some row → next < length rows
      → StateAt (gained ++ profile_text (names_of job) row) (Rows (next + 1))
  pushes_row next row is at less =
      goes (profile_text (names_of job) row) (Rows (next + 1)) (lines.row_pushed (names_of job) groups rows came h.stands.tail next row at less (tail_at (Rows next) is)) (over_at (Rows next) is)

  pub goes_to_captures : (next : ℕ) → stage ≡ Rows next → length rows ≤ next → StateAt gained (Captures 0 0)
  goes_to_captures next is le =
      subst (λ (text : List ℕ). StateAt text (Captures 0 0)) (append-nil gained)
      (goes [] (Captures 0 0) (lines.captures_begin (names_of job) groups rows came h.stands.tail next le (tail_at (Rows next) is)) (over_at (Rows next) is))

  pub pushes_capture : (next summaries : ℕ) (k : Counts) → stage ≡ Captures next summaries → next < length came → get_or came next None ≡ Some k
      → StateAt (gained ++ capture_text (names_of job) next k) (Captures (next + 1) (summaries + k.accepted))
  pushes_capture next summaries k is less at =
      goes (capture_text (names_of job) next k) (Captures (next + 1) (summaries + k.accepted))
      (lines.capture_pushed (names_of job) groups rows came h.stands.tail next summaries k less at (h.counts_kept.few next k at) (tail_at (Captures next summaries) is)) (over_at (Captures next summaries) is)

  pub pushes_end : (next summaries : ℕ) → stage ≡ Captures next summaries → length came ≤ next → StateAt (gained ++ end_text groups summaries) Ended
  pushes_end next summaries is le =
      goes (end_text groups summaries) Ended (lines.end_pushed (names_of job) groups rows came h.stands.tail next summaries le (tail_at (Captures next summaries) is)) (over_at (Captures next summaries) is)

  -- the captures have few accepted summaries
  pub few_summaries : (next summaries : ℕ) (k : Counts) → stage ≡ Captures next summaries → next < length came → get_or came next None ≡ Some k → summaries + k.accepted < 2 ^ 47
  few_summaries next summaries k is less at =
      let t = tail_at (Captures next summaries) is in
      let most : next ≤ 64 = omega (arith, less, h.counts_kept.each, h.job_is.captures.1) in
      omega (arith, t.few, most, h.counts_kept.few next k at)

  pub pushes_answer : (a : Answer) (rest : List Answer) → stage ≡ Answers → slice_get waiting 0 ≡ Some a → rest ≡ drop 1 waiting → under (least_mark marks) a.first.time ≡ true
      → StateIs job shape.parsers shape.processors counts taken (gained ++ answer_text (names_of job) a) rest marks rows came (groups + 1) stage
  pushes_answer a rest is at others pass =
      let line : List ℕ = answer_text (names_of job) a in
      let whole : waiting ≡ a ∷ rest = first_is waiting a at ∙ ap (λ (xs : List Answer). a ∷ xs) (sym others) in
      let s : StateStands job shape.processors taken gained (a ∷ rest) rows came groups Answers =
      subst (λ (x : Stage). StateStands job shape.processors taken gained (a ∷ rest) rows came groups x) is
      (subst (λ (xs : List Answer). StateStands job shape.processors taken gained xs rows came groups stage) whole h.stands) in
      let below : under (least_of_links shape.processors taken) a.first.time ≡ true =
      ap (λ (b : Option ℕ). under b a.first.time) (least_kept job shape counts taken gained waiting marks rows came groups stage h) ∙ pass in
      stands_so job shape counts taken gained waiting marks rows came groups stage h (gained ++ line) rest (groups + 1) stage
      (subst (λ (x : Stage). StateStands job shape.processors taken (gained ++ line) rest rows came (groups + 1) x) (sym is)
      (lines.stands_answer job shape.processors taken gained a rest rows came groups below s))

  -- the first answer that waits names captures of the job
  pub first_of_job : (a : Answer) → slice_get waiting 0 ≡ Some a → IsAnswerOf job a
  first_of_job a at = (subst (AllByRecursion (IsAnswerOf job)) (first_is waiting a at) h.stands.answers.of_job).0

-- the first that waits is late
pub none_under : (p : Answer → Bool) (waiting : List Answer) (a : Answer) → slice_get waiting 0 ≡ Some a → p a ≡ false → upto p waiting ≡ []
none_under p waiting a at late = ap (upto p) (first_is waiting a at) ∙ none a (drop 1 waiting) late
  where
    none : (x : Answer) (xs : List Answer) → p x ≡ false → upto p (x ∷ xs) ≡ []
    none x xs f = rw f refl

-- what is there has a place
pub some_less : (rows : List ProfileRow) (i : ℕ) (row : ProfileRow) → slice_get rows i ≡ Some row → i < length rows
some_less rows i row at =
    ⊎_elim
    (λ (y : (x : ProfileRow) × (i < length rows) × (slice_get rows i ≡ Some x) × (get_or rows i x ≡ x)). y.1)
    (λ (n : (length rows ≤ i) × (slice_get rows i ≡ None)). let never : None ≡ Some row = sym n.1 ∙ at in absurd (cc))
    (slice_get_cases rows i).1

-- ---- how many lines are left

pub shorter : (waiting : List Answer) (a : Answer) → slice_get waiting 0 ≡ Some a → length (drop 1 waiting) + 1 ≡ length waiting
shorter waiting a at = let whole = ap length (first_is waiting a at) in omega (arith, whole)

pub left_answers : (stage : Stage) (rows captures : ℕ) → stage ≡ Answers → left_at stage rows captures ≡ rows + captures + 3
left_answers stage rows captures is = ap (λ (x : Stage). left_at x rows captures) is

pub left_rows : (stage : Stage) (rows captures next : ℕ) → stage ≡ Rows next → left_at stage rows captures ≡ (rows - next) + captures + 2
left_rows stage rows captures next is = ap (λ (x : Stage). left_at x rows captures) is

pub left_captures : (stage : Stage) (rows captures next summaries : ℕ) → stage ≡ Captures next summaries → left_at stage rows captures ≡ (captures - next) + 1
left_captures stage rows captures next summaries is = ap (λ (x : Stage). left_at x rows captures) is

-- ---- results

pub if_ok : {X E : Type 0} (r : Result X E) (P Q : X → Type 0) → ((x : X) → P x → Q x) → IfOk r P → IfOk r Q
if_ok (Ok x) P Q f h = f x h
if_ok (Err e) P Q f h = tt

pub on_err : {X E : Type 0} (r : Result X E) (P Q : Type 0) → (P → Q) → OnErr r P → OnErr r Q
on_err (Ok x) P Q f h = tt
on_err (Err e) P Q f h = f h

pub on_ok : {X E : Type 0} (r : Result X E) (P Q : Type 0) → (P → Q) → OnOk r P → OnOk r Q
on_ok (Ok x) P Q f h = f h
on_ok (Err e) P Q f h = tt

pub on_both : {X E : Type 0} (r : Result X E) (P Q R : Type 0) → (P → Q → R) → OnOk r P → OnOk r Q → OnOk r R
on_both (Ok x) P Q R f h k = f h k
on_both (Err e) P Q R f h k = tt

-- ---- other lists, the same on each link

pub agrees : (job : Declared) (shape : Shape) (counts others taken more : ℕ → List Frame) (gained : List ℕ) (waiting : List Answer) (marks : List (Option ℕ)) (rows : List ProfileRow)
    (came : List (Option Counts)) (groups : ℕ) (stage : Stage) → AgreeBelow shape.parsers counts others → AgreeBelow shape.processors taken more
    → StateIs job shape.parsers shape.processors counts taken gained waiting marks rows came groups stage → StateIs job shape.parsers shape.processors others more gained waiting marks rows came groups stage
agrees job shape counts others taken more gained waiting marks rows came groups stage of_parsers same h =
    let answers : answers_over shape.processors more ≡ answers_over shape.processors taken =
    flat_below (λ q. answers_in (taken q)) (λ q. answers_in (more q)) shape.processors (λ q less. ap answers_in (same q less)) in
    let least : least_of_links shape.processors more ≡ least_of_links shape.processors taken =
    ap least_mark (map_below (λ q. bound_in of_firsts (taken q)) (λ q. bound_in of_firsts (more q)) shape.processors (λ q less. ap (bound_in of_firsts) (same q less))) in
    record {
      job_is = h.job_is;
      some_parsers = h.some_parsers;
      few_links = h.few_links;
      marks_each = h.marks_each;
      marks_are = λ q less. h.marks_are q less ∙ sym (ap (bound_in of_firsts) (same q less));
      rows_kept = record {
        are = h.rows_kept.are ∙ sym (ap rows_added (map_below (λ q. rows_in (taken q)) (λ q. rows_in (more q)) shape.processors (λ q less. ap rows_in (same q less))));
        plain = λ q less. subst (λ (fs : List Frame). AllByRecursion IsPlain (rows_in fs)) (sym (same q less)) (h.rows_kept.plain q less);
        few = λ q from to less. subst (λ (fs : List Frame). count_of from to (rows_in fs) ≤ 2 ^ 50) (sym (same q less)) (h.rows_kept.few q from to less);
        counted = λ from to.
            h.rows_kept.counted from to
            ∙ sym (sum_range (λ q. count_of from to (rows_in (taken q))) (λ q. count_of from to (rows_in (more q))) 0 shape.processors
            (λ q low high. ap (λ (fs : List Frame). count_of from to (rows_in fs)) (same q (omega (arith, high)))));
        among = h.rows_kept.among;
      };
      counts_kept = record {
        each = h.counts_kept.each;
        are = λ c less.
            let link : c % shape.parsers < shape.parsers = omega (arith, h.some_parsers) in
            h.counts_kept.are c less ∙ sym (ap (counts_in c) (of_parsers (c % shape.parsers) link));
        few = h.counts_kept.few;
      };
      stands = record {
        given = h.stands.given;
        answers = record {
          in_order = λ ordered o. h.stands.answers.in_order ordered (subst (λ (xs : List Answer). AreInOrder xs ordered) answers o);
          passed = subst (λ (b : Option ℕ). AllByRecursion (λ a. under b a.first.time ≡ true) h.stands.given) (sym least) h.stands.answers.passed;
          of_job = h.stands.answers.of_job;
          few = omega (arith, h.stands.answers.few, ap length answers);
          told = λ q less. subst (λ (fs : List Frame). length (answers_in fs) ≤ members_answered fs) (sym (same q less)) (h.stands.answers.told q less);
          within = λ q less. subst (λ (fs : List Frame). members_answered fs ≤ 2 ^ 50) (sym (same q less)) (h.stands.answers.within q less);
        };
        number = h.stands.number;
        tail = h.stands.tail;
        lines = h.stands.lines;
        tail_is = h.stands.tail_is;
        over = subst (λ (b : Option ℕ). IsOver stage b waiting) (sym least) h.stands.over;
      };
    }
