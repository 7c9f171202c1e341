-- The text that was pushed is a front of the lines that are due, one line more, and where none is due all of them.
use Rattle.std.proofs.Common.{ℕ, true, false, List, [], ◌∷◌, ◌++◌, ◌≡◌, ◌≤◌, ◌<◌, ◌+◌, ◌^◌, ◌%◌, Option, Some, None, Bool, refl, sym, ap, subst, ◌∙◌, ⊎_elim, arith, map, length, take, drop, get_or, append_assoc, length-append}
use Rattle.std.specs.Prelude.{slice_get, ◌==◌}
use Rattle.std.specs.List.{AllByRecursion}
use Rattle.std.proofs.lemmas.Bool.{cases_Bool, both_ways, eq-eqb, eqb-true}
use Rattle.std.proofs.lemmas.List.{append-nil, drop_more, take-append-drop, take_all, take_more}
use Rattle.std.proofs.lemmas.Option.{get_or_from_slice_get}
use Rattle.answer_text.specs.Lines.{answer_text, capture_text, end_text, profile_text}
use Rattle.central_report.specs.Report.{names_of, row_texts}
use Rattle.ds_base.specs.Fronts.{upto}
use Rattle.ds_base.specs.Items.{Items}
use Rattle.ds_base.specs.declared.capture.Counts.{Counts}
use Rattle.ds_base.specs.declared.profile_row.ProfileRow.{ProfileRow}
use Rattle.ds_base.specs.declared.verdict.Answer.{Answer}
use Rattle.node_frames.specs.declared.frame.Frame.{Frame}
use Rattle.summary_spec.specs.Declaration.{Declared}
use Rattle.watermarks.specs.Least.{under}
use Rattle.run_law.specs.Nodes.{below, answer_texts, capture_lines, counts_taken, least_of_links, lines_by}
use Rattle.run_law.specs.Sent.{counts_in}
use Rattle.run_law.specs.Shapes.{IsFront, Shape}
use Rattle.run_law.proofs.Lists.{flat-append}
use Rattle.run_law.proofs.Written.{front_behind, front_more, texts_front}
use Rattle.merge_state.specs.States.{CapturesPushed, CountsKept, IsOver, StateStands, TailIs, rows_over}
use Rattle.merge_state.specs.declared.stage.Stage.{Stage}
use Rattle.merge_state.specs.declared.stage.Stage.TheVariants.{Answers, Rows, Captures, Ended}
use Rattle.merge_state.proofs.Links.{listed}

-- ---- the answers below a bound

upto_given : (p : Answer → Bool) (given waiting : List Answer) → AllByRecursion (λ g. p g ≡ true) given → upto p (given ++ waiting) ≡ given ++ upto p waiting
upto_given p [] waiting h = refl
upto_given p (g ∷ gs) waiting h = rw h.0 (ap (λ (xs : List Answer). g ∷ xs) (upto_given p gs waiting h.1))

texts_joined : (job : Declared) (xs ys : List Answer) → answer_texts job (xs ++ ys) ≡ answer_texts job xs ++ answer_texts job ys
texts_joined job xs ys = flat-append (answer_text (names_of job)) xs ys

pub counts_are : (job : Declared) (shape : Shape) (counts : ℕ → List Frame) (came : List (Option Counts)) → CountsKept (length job.captures) shape.parsers counts came
    → came ≡ counts_taken job shape counts
counts_are job shape counts came h =
    let f : ℕ → Option Counts = λ c. counts_in c (counts (c % shape.parsers)) in
    let at : (c : ℕ) → c < length came → get_or came c None ≡ f (0 + c) = λ c less. let same : c ≡ 0 + c = omega arith in h.are c (omega (arith, less, h.each)) ∙ ap f same in
    listed came None f 0 at ∙ ap (λ (n : ℕ). map f (below n)) h.each

-- ---- what was pushed behind the answers

rows_parted : (names : List (Items ℕ)) (rows : List ProfileRow) (next : ℕ) → row_texts names rows ≡ row_texts names (take next rows) ++ row_texts names (drop next rows)
rows_parted names rows next = ap (row_texts names) (sym (take-append-drop next rows)) ∙ flat-append (profile_text names) (take next rows) (drop next rows)

captures_parted : (names : List (Items ℕ)) (groups : ℕ) (rows : List ProfileRow) (came : List (Option Counts)) (next summaries : ℕ) (tail : List ℕ)
    → (t : CapturesPushed names rows came next summaries tail) → capture_lines names 0 groups 0 came ≡ t.text ++ capture_lines names next groups summaries (drop next came)
captures_parted names groups rows came next summaries tail t =
    ap (capture_lines names 0 groups 0) (sym (take-append-drop next came)) ∙ t.front groups (drop next came)

-- behind all answers: these lines are those pushed, and then what is left of the rows and the captures
tail_front : (names : List (Items ℕ)) (groups : ℕ) (rows : List ProfileRow) (came : List (Option Counts)) (stage : Stage) (tail : List ℕ) → TailIs names groups rows came stage tail
    → IsFront tail (row_texts names rows ++ capture_lines names 0 groups 0 came)
tail_front names groups rows came Answers tail t = record { rest = row_texts names rows ++ capture_lines names 0 groups 0 came; joined = ap (λ (xs : List ℕ). xs ++ (row_texts names rows ++ capture_lines names 0 groups 0 came)) (sym t) }
tail_front names groups rows came (Rows next) tail t =
    subst (λ (xs : List ℕ). IsFront xs (row_texts names rows ++ capture_lines names 0 groups 0 came)) (sym t.1)
    (front_more (row_texts names (take next rows)) (row_texts names rows) (capture_lines names 0 groups 0 came)
    (record { rest = row_texts names (drop next rows); joined = rows_parted names rows next }))
tail_front names groups rows came (Captures next summaries) tail t =
    subst (λ (xs : List ℕ). IsFront xs (row_texts names rows ++ capture_lines names 0 groups 0 came)) (sym t.lines)
    (front_behind (row_texts names rows) t.text (capture_lines names 0 groups 0 came)
    (record { rest = capture_lines names next groups summaries (drop next came); joined = captures_parted names groups rows came next summaries tail t }))
tail_front names groups rows came Ended tail t = record { rest = []; joined = sym t.lines ∙ sym (append-nil tail) }

-- ---- the promise

module _ (job : Declared) (shape : Shape) (counts taken : ℕ → List Frame) (gained : List ℕ) (waiting : List Answer) (rows : List ProfileRow) (came : List (Option Counts)) (groups : ℕ) (stage : Stage)
    (rows_are : rows ≡ rows_over shape.processors taken) (came_are : came ≡ counts_taken job shape counts)
    (s : StateStands job shape.processors taken gained waiting rows came groups stage) (ordered : List Answer) (all : ordered ≡ s.given ++ waiting) where
  -- the lines where every processor has finished
  abbrev all_lines : List ℕ
  all_lines = lines_by job shape None counts taken ordered

  all_lines_are : waiting ≡ [] → all_lines ≡ answer_texts job s.given ++ (row_texts (names_of job) rows ++ capture_lines (names_of job) 0 groups 0 came)
  all_lines_are none =
      let whole : ordered ≡ s.given = all ∙ ap (λ (xs : List Answer). s.given ++ xs) none ∙ append-nil s.given in
      let many : length ordered ≡ groups = ap length whole ∙ sym s.number in
      ap (λ (xs : List Answer). (answer_texts job xs ++ row_texts (names_of job) (rows_over shape.processors taken)) ++ capture_lines (names_of job) 0 (length ordered) 0 (counts_taken job shape counts)) whole
      ∙ ap (λ (rs : List ProfileRow). (answer_texts job s.given ++ row_texts (names_of job) rs) ++ capture_lines (names_of job) 0 (length ordered) 0 (counts_taken job shape counts)) (sym rows_are)
      ∙ ap (λ (ks : List (Option Counts)). (answer_texts job s.given ++ row_texts (names_of job) rows) ++ capture_lines (names_of job) 0 (length ordered) 0 ks) (sym came_are)
      ∙ ap (λ (n : ℕ). (answer_texts job s.given ++ row_texts (names_of job) rows) ++ capture_lines (names_of job) 0 n 0 came) many
      ∙ append_assoc (answer_texts job s.given) (row_texts (names_of job) rows) (capture_lines (names_of job) 0 groups 0 came)

  given_front : IsFront (answer_texts job s.given) (answer_texts job ordered)
  given_front = texts_front job s.given ordered (record { rest = waiting; joined = all })

  -- the answers' lines alone
  only_answers : stage ≡ Answers → gained ≡ answer_texts job s.given
  only_answers e =
      let none : s.tail ≡ [] = subst (λ (x : Stage). TailIs (names_of job) groups rows came x s.tail) e s.tail_is in
      s.lines ∙ ap (λ (xs : List ℕ). answer_texts job s.given ++ xs) none ∙ append-nil (answer_texts job s.given)

  below_mark : (m : ℕ) → least_of_links shape.processors taken ≡ Some m
      → answer_texts job (upto (λ a. under (Some m) a.first.time) ordered) ≡ answer_texts job s.given ++ answer_texts job (upto (λ a. under (Some m) a.first.time) waiting)
  below_mark m e =
      let pass : AllByRecursion (λ g. under (Some m) g.first.time ≡ true) s.given = subst (λ (b : Option ℕ). AllByRecursion (λ g. under b g.first.time ≡ true) s.given) e s.answers.passed in
      ap (λ (xs : List Answer). answer_texts job (upto (λ a. under (Some m) a.first.time) xs)) all
      ∙ ap (answer_texts job) (upto_given (λ a. under (Some m) a.first.time) s.given waiting pass)
      ∙ texts_joined job s.given (upto (λ a. under (Some m) a.first.time) waiting)

  -- a stage behind the answers, where a processor goes on
  not_over : (m : ℕ) → least_of_links shape.processors taken ≡ Some m → (x : Stage) → IsOver x (least_of_links shape.processors taken) waiting → stage ≡ x → stage ≡ Answers
  not_over m e Answers over is = is
  not_over m e (Rows next) over is = absurd (let never : Some m ≡ None = sym e ∙ over.0 in cc)
  not_over m e (Captures next summaries) over is = absurd (let never : Some m ≡ None = sym e ∙ over.0 in cc)
  not_over m e Ended over is = absurd (let never : Some m ≡ None = sym e ∙ over.0 in cc)

  behind_answers : (x : Stage) → TailIs (names_of job) groups rows came x s.tail → waiting ≡ [] → IsFront gained all_lines
  behind_answers x t none =
      subst (λ (xs : List ℕ). IsFront xs all_lines) (sym s.lines)
      (subst (IsFront (answer_texts job s.given ++ s.tail)) (sym (all_lines_are none))
      (front_behind (answer_texts job s.given) s.tail (row_texts (names_of job) rows ++ capture_lines (names_of job) 0 groups 0 came)
      (tail_front (names_of job) groups rows came x s.tail t)))

  front_by : (x : Stage) → stage ≡ x → TailIs (names_of job) groups rows came x s.tail → IsOver x (least_of_links shape.processors taken) waiting → IsFront gained all_lines
  front_by Answers is t over =
      subst (λ (xs : List ℕ). IsFront xs all_lines) (sym (only_answers is))
      (front_more (answer_texts job s.given) (answer_texts job ordered ++ row_texts (names_of job) (rows_over shape.processors taken)) (capture_lines (names_of job) 0 (length ordered) 0 (counts_taken job shape counts))
      (front_more (answer_texts job s.given) (answer_texts job ordered) (row_texts (names_of job) (rows_over shape.processors taken)) given_front))
  front_by (Rows next) is t over = behind_answers (Rows next) t over.1
  front_by (Captures next summaries) is t over = behind_answers (Captures next summaries) t over.1
  front_by Ended is t over = behind_answers Ended t over.1

  pub due_front : IsFront gained (lines_by job shape (least_of_links shape.processors taken) counts taken ordered)
  due_front = by_least (least_of_links shape.processors taken) refl
    where
      by_least : (least : Option ℕ) → least_of_links shape.processors taken ≡ least → IsFront gained (lines_by job shape least counts taken ordered)
      by_least (Some m) e =
          let is : stage ≡ Answers = not_over m e stage s.over refl in
          record { rest = answer_texts job (upto (λ a. under (Some m) a.first.time) waiting); joined = below_mark m e ∙ ap (λ (xs : List ℕ). xs ++ answer_texts job (upto (λ a. under (Some m) a.first.time) waiting)) (sym (only_answers is)) }
      by_least None e = front_by stage refl s.tail_is s.over

  -- ---- nothing is due

  -- no answer that waits is below the least mark, and a processor goes on or an answer waits
  pub no_answer_due : stage ≡ Answers → upto (λ a. under (least_of_links shape.processors taken) a.first.time) waiting ≡ []
      → ((least_of_links shape.processors taken ≡ None) × (waiting ≡ []) → ⊥) → gained ≡ lines_by job shape (least_of_links shape.processors taken) counts taken ordered
  no_answer_due is none going = by_least (least_of_links shape.processors taken) refl
    where
      by_least : (least : Option ℕ) → least_of_links shape.processors taken ≡ least → gained ≡ lines_by job shape least counts taken ordered
      by_least (Some m) e =
          let late : upto (λ a. under (Some m) a.first.time) waiting ≡ [] = subst (λ (b : Option ℕ). upto (λ a. under b a.first.time) waiting ≡ []) e none in
          only_answers is
          ∙ sym (below_mark m e ∙ ap (λ (xs : List Answer). answer_texts job s.given ++ answer_texts job xs) late ∙ append-nil (answer_texts job s.given))
      by_least None e =
          let all_pass : upto (λ a. under None a.first.time) waiting ≡ [] = subst (λ (b : Option ℕ). upto (λ a. under b a.first.time) waiting ≡ []) e none in
          absurd (going (e, none_waits waiting all_pass))
        where
          none_waits : (xs : List Answer) → upto (λ a. under None a.first.time) xs ≡ [] → xs ≡ []
          none_waits [] h = refl
          none_waits (x ∷ xs) h = absurd (cc)

  pub no_line_due : least_of_links shape.processors taken ≡ None → waiting ≡ [] → s.tail ≡ row_texts (names_of job) rows ++ capture_lines (names_of job) 0 groups 0 came
      → gained ≡ lines_by job shape (least_of_links shape.processors taken) counts taken ordered
  no_line_due over none is =
      s.lines ∙ ap (λ (xs : List ℕ). answer_texts job s.given ++ xs) is ∙ sym (all_lines_are none)
      ∙ ap (λ (b : Option ℕ). lines_by job shape b counts taken ordered) (sym over)

-- the next capture has no row
pub no_capture_due : (names : List (Items ℕ)) (groups : ℕ) (rows : List ProfileRow) (came : List (Option Counts)) (next summaries : ℕ) (tail : List ℕ)
    → CapturesPushed names rows came next summaries tail → next < length came → get_or came next None ≡ None
    → tail ≡ row_texts names rows ++ capture_lines names 0 groups 0 came
no_capture_due names groups rows came next summaries tail t less none =
    let rest : drop next came ≡ None ∷ drop (next + 1) came = drop_more came next None less ∙ ap (λ (o : Option Counts). o ∷ drop (next + 1) came) none in
    let nothing : capture_lines names next groups summaries (drop next came) ≡ [] = ap (capture_lines names next groups summaries) rest in
    let all : capture_lines names 0 groups 0 came ≡ t.text =
    captures_parted names groups rows came next summaries tail t ∙ ap (λ (xs : List ℕ). t.text ++ xs) nothing ∙ append-nil t.text in
    t.lines ∙ ap (λ (xs : List ℕ). row_texts names rows ++ xs) (sym all)

-- ---- one line more

-- the next stage, where the line stands behind those that were pushed
pub stands_step : (job : Declared) (n : ℕ) (taken : ℕ → List Frame) (gained line : List ℕ) (waiting : List Answer) (rows : List ProfileRow) (came : List (Option Counts)) (groups : ℕ) (old new : Stage)
    → (s : StateStands job n taken gained waiting rows came groups old) → TailIs (names_of job) groups rows came new (s.tail ++ line) → IsOver new (least_of_links n taken) waiting
    → StateStands job n taken (gained ++ line) waiting rows came groups new
stands_step job n taken gained line waiting rows came groups old new s t over = record {
  given = s.given;
  answers = s.answers;
  number = s.number;
  tail = s.tail ++ line;
  lines = ap (λ (xs : List ℕ). xs ++ line) s.lines ∙ append_assoc (answer_texts job s.given) s.tail line;
  tail_is = t;
  over = over;
}

-- the next answer
pub stands_answer : (job : Declared) (n : ℕ) (taken : ℕ → List Frame) (gained : List ℕ) (a : Answer) (rest : List Answer) (rows : List ProfileRow) (came : List (Option Counts)) (groups : ℕ)
    → under (least_of_links n taken) a.first.time ≡ true → StateStands job n taken gained (a ∷ rest) rows came groups Answers
    → StateStands job n taken (gained ++ answer_text (names_of job) a) rest rows came (groups + 1) Answers
stands_answer job n taken gained a rest rows came groups pass s =
    let line : List ℕ = answer_text (names_of job) a in
    let one : answer_texts job (s.given ++ a ∷ []) ≡ answer_texts job s.given ++ line = texts_joined job s.given (a ∷ []) ∙ ap (λ (xs : List ℕ). answer_texts job s.given ++ xs) (append-nil line) in
    record {
      given = s.given ++ a ∷ [];
      answers = record {
        in_order = λ ordered h. s.answers.in_order ordered h ∙ sym (append_assoc s.given (a ∷ []) rest);
        passed = all_push s.given s.answers.passed;
        of_job = s.answers.of_job.1;
        few = omega (arith, s.answers.few, length-append s.given (a ∷ []));
        told = s.answers.told;
        within = s.answers.within;
      };
      number = omega (arith, s.number, length-append s.given (a ∷ []));
      tail = [];
      lines =
          ap (λ (xs : List ℕ). xs ++ line) (s.lines ∙ ap (λ (xs : List ℕ). answer_texts job s.given ++ xs) s.tail_is ∙ append-nil (answer_texts job s.given))
          ∙ sym one ∙ sym (append-nil (answer_texts job (s.given ++ a ∷ [])));
      tail_is = refl;
      over = tt;
    }
  where
    all_push : (xs : List Answer) → AllByRecursion (λ g. under (least_of_links n taken) g.first.time ≡ true) xs → AllByRecursion (λ g. under (least_of_links n taken) g.first.time ≡ true) (xs ++ a ∷ [])
    all_push [] h = (pass, tt)
    all_push (x ∷ xs) h = (h.0, all_push xs h.1)

module _ (names : List (Items ℕ)) (groups : ℕ) (rows : List ProfileRow) (came : List (Option Counts)) (tail : List ℕ) where
  pub rows_begin : TailIs names groups rows came Answers tail → TailIs names groups rows came (Rows 0) (tail ++ [])
  rows_begin t = (omega arith, append-nil tail ∙ t)

  pub row_pushed : (next : ℕ) (row : ProfileRow) → slice_get rows next ≡ Some row → next < length rows → TailIs names groups rows came (Rows next) tail
      → TailIs names groups rows came (Rows (next + 1)) (tail ++ profile_text names row)
  row_pushed next row at less t =
      let more : take (next + 1) rows ≡ take next rows ++ row ∷ [] =
      take_more rows next row less ∙ ap (λ (x : ProfileRow). take next rows ++ x ∷ []) (get_or_from_slice_get rows next row row at) in (
        omega (arith, less),
        ap (λ (xs : List ℕ). xs ++ profile_text names row) t.1
            ∙ sym (ap (row_texts names) more ∙ flat-append (profile_text names) (take next rows) (row ∷ []) ∙ ap (λ (xs : List ℕ). row_texts names (take next rows) ++ xs) (append-nil (profile_text names row))),
      )

  pub captures_begin : (next : ℕ) → length rows ≤ next → TailIs names groups rows came (Rows next) tail → TailIs names groups rows came (Captures 0 0) (tail ++ [])
  captures_begin next le t = record {
    text = [];
    lines = ap (λ (xs : List ℕ). xs ++ []) (t.1 ∙ ap (row_texts names) (take_all next rows le));
    within = omega arith;
    front = λ g later. refl;
    there = λ c less none. absurd (omega (arith, less));
    few = omega arith;
  }

  pub capture_pushed : (next summaries : ℕ) (k : Counts) → next < length came → get_or came next None ≡ Some k → k.accepted ≤ 2 ^ 40 → TailIs names groups rows came (Captures next summaries) tail
      → TailIs names groups rows came (Captures (next + 1) (summaries + k.accepted)) (tail ++ capture_text names next k)
  capture_pushed next summaries k less is few t =
      let more : take (next + 1) came ≡ take next came ++ Some k ∷ [] = take_more came next None less ∙ ap (λ (o : Option Counts). take next came ++ o ∷ []) is in
      record {
        text = t.text ++ capture_text names next k;
        lines = ap (λ (xs : List ℕ). xs ++ capture_text names next k) t.lines ∙ append_assoc (row_texts names rows) t.text (capture_text names next k);
        within = omega (arith, less);
        front = λ g later.
            ap (λ (xs : List (Option Counts)). capture_lines names 0 g 0 (xs ++ later)) more
            ∙ ap (capture_lines names 0 g 0) (append_assoc (take next came) (Some k ∷ []) later)
            ∙ t.front g (Some k ∷ later)
            ∙ sym (append_assoc t.text (capture_text names next k) (capture_lines names (next + 1) g (summaries + k.accepted) later));
        there = there_more is t;
        few = omega (arith, t.few, few);
      }
    where
      there_more : get_or came next None ≡ Some k → CapturesPushed names rows came next summaries tail → (c : ℕ) → c < next + 1 → get_or came c None ≡ None → ⊥
      there_more is t c low none =
          ⊎_elim
          (λ (e : (c == next) ≡ true).
          let here : get_or came next None ≡ None = subst (λ (j : ℕ). get_or came j None ≡ None) (eqb-true c next e) none in
          let never : Some k ≡ None = sym is ∙ here in
          absurd (cc))
          (λ (u : (c == next) ≡ false).
          let other : c ≡ next → ⊥ = λ e. absurd (both_ways (c == next) u (eq-eqb c next e)) in
          t.there c (before c next low other) none)
          (cases_Bool (c == next))
        where
          before : (i j : ℕ) → i < j + 1 → (i ≡ j → ⊥) → i < j
          before i j low other = grind arith

  pub end_pushed : (next summaries : ℕ) → length came ≤ next → TailIs names groups rows came (Captures next summaries) tail → TailIs names groups rows came Ended (tail ++ end_text groups summaries)
  end_pushed next summaries le t =
      let whole : take next came ++ [] ≡ came = append-nil (take next came) ∙ take_all next came le in
      let all : capture_lines names 0 groups 0 came ≡ t.text ++ end_text groups summaries = ap (capture_lines names 0 groups 0) (sym whole) ∙ t.front groups [] in
      record {
        lines =
            ap (λ (xs : List ℕ). xs ++ end_text groups summaries) t.lines ∙ append_assoc (row_texts names rows) t.text (end_text groups summaries)
            ∙ ap (λ (xs : List ℕ). row_texts names rows ++ xs) (sym all);
        there = λ c less none. t.there c (omega (arith, less, le)) none;
      }
