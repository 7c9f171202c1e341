-- What the merge keeps between frames: of what was taken on its links, and of the text that was pushed.
use Rattle.std.specs.Prelude.{ℕ, ◌≡◌, ◌<◌, ◌≤◌, ◌+◌, ◌*◌, ◌^◌, ◌%◌, true, List, [], ◌∷◌, ◌++◌, Option, Some, None, length, map, take, get_or, sum_by}
use Rattle.std.specs.List.{AllByRecursion, flat_map}
use Rattle.central_report.specs.Report.{names_of, row_texts}
use Rattle.ds_base.specs.Items.{Items}
use Rattle.ds_base.specs.declared.capture.Counts.{Counts}
use Rattle.ds_base.specs.declared.profile_row.ProfileRow.{ProfileRow}
use Rattle.ds_base.specs.declared.verdict.Answer.{Answer}
use Rattle.node_frames.specs.declared.frame.Frame.{Frame}
use Rattle.profiles.specs.Rows.{count_of}
use Rattle.summary_spec.specs.Declaration.{Declared}
use Rattle.summary_spec.specs.Lawful.{IsLawful}
use Rattle.watermarks.specs.Least.{under}
use Rattle.run_law.specs.Links.{MayFollow, AnswerRule, CountsRule, IsAnswerOf, members_answered}
use Rattle.run_law.specs.Nodes.{below, answer_texts, capture_lines, least_of_links, rows_added, AreInOrder}
use Rattle.run_law.specs.Sent.{answers_in, rows_in, counts_in, of_firsts, bound_in}
use Rattle.run_law.specs.Shapes.{Shape}
use Rattle.merge_state.specs.declared.stage.Stage.{Stage}
use Rattle.merge_state.specs.declared.stage.Stage.TheVariants.{Answers, Rows, Captures, Ended}
use Rattle.merge_state.specs.declared.state.MergeState.{MergeState}

-- ---- what came of n processors

-- the answers
abbrev pub answers_over : (n : ℕ) → (taken : ℕ → List Frame) → List Answer
answers_over n taken = flat_map (λ q. answers_in (taken q)) (below n)

-- the rows of the profile, added up
abbrev pub rows_over : (n : ℕ) → (taken : ℕ → List Frame) → List ProfileRow
rows_over n taken = rows_added (map (λ q. rows_in (taken q)) (below n))

-- The answers of which the lines were pushed, and those that wait. If no firsts are equal these are all answers in
-- their order; those pushed are below the least mark. Each answer tells of a member at least.
pub record AnswersKept (job : Declared) (n : ℕ) (taken : ℕ → List Frame) (given waiting : List Answer) : Type 0 where
  pub in_order : (ordered : List Answer) → AreInOrder (answers_over n taken) ordered → ordered ≡ given ++ waiting
  pub passed : AllByRecursion (λ a. under (least_of_links n taken) a.first.time ≡ true) given
  pub of_job : AllByRecursion (IsAnswerOf job) waiting
  pub few : length given + length waiting ≤ length (answers_over n taken)
  pub told : (q : ℕ) → q < n → length (answers_in (taken q)) ≤ members_answered (taken q)
  pub within : (q : ℕ) → q < n → members_answered (taken q) ≤ 2 ^ 50

-- what is known of each row: its captures are among 64, and it has 64 classes
abbrev pub IsPlain : ProfileRow → Type 0
IsPlain row = (row.from < 64) × (row.to < 64) × (length row.classes ≡ 64)

-- The rows are those of all processors. No processor tells more than 2^50 delays of a pair, and the delays of a pair are
-- those that the processors tell together.
pub record RowsKept (captures n : ℕ) (taken : ℕ → List Frame) (rows : List ProfileRow) : Type 0 where
  pub are : rows ≡ rows_over n taken
  pub plain : (q : ℕ) → q < n → AllByRecursion IsPlain (rows_in (taken q))
  pub few : (q from to : ℕ) → q < n → count_of from to (rows_in (taken q)) ≤ 2 ^ 50
  pub counted : (from to : ℕ) → count_of from to rows ≡ sum_by (λ q. count_of from to (rows_in (taken q))) (below n)
  pub among : AllByRecursion (λ row. (row.from < captures) × (row.to < captures)) rows

-- ---- what came of the parsers

-- how the records of each capture fared, where its row came
pub record CountsKept (captures parsers : ℕ) (counts : ℕ → List Frame) (came : List (Option Counts)) : Type 0 where
  pub each : length came ≡ captures
  pub are : (c : ℕ) → c < captures → get_or came c None ≡ counts_in c (counts (c % parsers))
  pub few : (c : ℕ) (k : Counts) → get_or came c None ≡ Some k → k.accepted ≤ 2 ^ 40

-- ---- what was pushed behind the answers

-- The lines of all rows and of the first captures, which are all there: whatever comes of the others, these lines stand
-- before theirs. These captures have so many accepted summaries.
pub record CapturesPushed (names : List (Items ℕ)) (rows : List ProfileRow) (came : List (Option Counts)) (next summaries : ℕ) (tail : List ℕ) : Type 0 where
  pub text : List ℕ
  pub lines : tail ≡ row_texts names rows ++ text
  pub within : next ≤ length came
  pub front : (groups : ℕ) (later : List (Option Counts)) → capture_lines names 0 groups 0 (take next came ++ later) ≡ text ++ capture_lines names next groups summaries later
  pub there : (c : ℕ) → c < next → get_or came c None ≡ None → ⊥
  pub few : summaries ≤ next * 2 ^ 40

-- the lines of all rows and of all captures, which are all there, and the last one
pub record AllPushed (names : List (Items ℕ)) (groups : ℕ) (rows : List ProfileRow) (came : List (Option Counts)) (tail : List ℕ) : Type 0 where
  pub lines : tail ≡ row_texts names rows ++ capture_lines names 0 groups 0 came
  pub there : (c : ℕ) → c < length came → get_or came c None ≡ None → ⊥

abbrev pub TailIs : (names : List (Items ℕ)) (groups : ℕ) (rows : List ProfileRow) (came : List (Option Counts)) → Stage → (tail : List ℕ) → Type 0
TailIs names groups rows came Answers tail = tail ≡ []
TailIs names groups rows came (Rows next) tail = (next ≤ length rows) × (tail ≡ row_texts names (take next rows))
TailIs names groups rows came (Captures next summaries) tail = CapturesPushed names rows came next summaries tail
TailIs names groups rows came Ended tail = AllPushed names groups rows came tail

-- behind the answers every processor has finished, and no answer waits
abbrev pub IsOver : Stage → (least : Option ℕ) → (waiting : List Answer) → Type 0
IsOver Answers least waiting = Unit {0}
IsOver stage least waiting = (least ≡ None) × (waiting ≡ [])

-- ---- the state

pub record StateStands (job : Declared) (n : ℕ) (taken : ℕ → List Frame) (gained : List ℕ) (waiting : List Answer) (rows : List ProfileRow) (came : List (Option Counts)) (groups : ℕ) (stage : Stage) : Type 0 where
  pub given : List Answer
  pub answers : AnswersKept job n taken given waiting
  pub number : groups ≡ length given
  pub tail : List ℕ
  pub lines : gained ≡ answer_texts job given ++ tail
  pub tail_is : TailIs (names_of job) groups rows came stage tail
  pub over : IsOver stage (least_of_links n taken) waiting

-- A state, of which contracts see the answers that wait, the marks of the processors, the rows, the counts that came, how
-- many answers' lines were pushed, and what is pushed next: it stands for what was taken on the links of the parsers and
-- of n processors, and for the text that was pushed.
pub record StateIs (job : Declared) (parsers n : ℕ) (counts taken : ℕ → List Frame) (gained : List ℕ) (waiting : List Answer) (marks : List (Option ℕ))
    (rows : List ProfileRow) (came : List (Option Counts)) (groups : ℕ) (stage : Stage) : Type 0 where
  pub job_is : IsLawful job
  pub some_parsers : 0 < parsers
  pub few_links : n ≤ 16
  pub marks_each : length marks ≡ n
  pub marks_are : (q : ℕ) → q < n → get_or marks q None ≡ bound_in of_firsts (taken q)
  pub rows_kept : RowsKept (length job.captures) n taken rows
  pub counts_kept : CountsKept (length job.captures) parsers counts came
  pub stands : StateStands job n taken gained waiting rows came groups stage

abbrev pub state_is : (job : Declared) (shape : Shape) (counts taken : ℕ → List Frame) (gained : List ℕ) → MergeState → Type 0
state_is job shape counts taken gained d =
    StateIs job shape.parsers shape.processors counts taken gained d.waiting d.marks d.profile d.counts.items d.groups d.stage

-- ---- one frame more

-- of n links one frame more was taken on link g, and none on the others
pub record TakesOne (n : ℕ) (taken more : ℕ → List Frame) (g : ℕ) (frame : Frame) : Type 0 where
  pub there : g < n
  pub here : more g ≡ taken g ++ frame ∷ []
  pub others : (k : ℕ) → k < n → (k ≡ g → ⊥) → more k ≡ taken k

-- it may stand next on the link from the parser
pub record TakesCounts (job : Declared) (shape : Shape) (counts more : ℕ → List Frame) (parser : ℕ) (frame : Frame) : Type 0 where
  pub takes : TakesOne shape.parsers counts more parser frame
  pub may : MayFollow (CountsRule job shape parser) (counts parser) frame

-- it may stand next on the link from the processor
pub record TakesAnswers (job : Declared) (shape : Shape) (taken more : ℕ → List Frame) (processor : ℕ) (frame : Frame) : Type 0 where
  pub takes : TakesOne shape.processors taken more processor frame
  pub may : MayFollow (AnswerRule job) (taken processor) frame

-- of the job: some lists that the state stands for
pub record StandsFor (job : Declared) (d : MergeState) : Type 0 where
  pub shape : Shape
  pub counts : ℕ → List Frame
  pub taken : ℕ → List Frame
  pub gained : List ℕ
  pub is : state_is job shape counts taken gained d

-- the frame may stand next on the link from a parser, of what the state stands for
pub record CanTakeCounts (d : MergeState) (frame : Frame) : Type 0 where
  pub job : Declared
  pub stands : StandsFor job d
  pub more : ℕ → List Frame
  pub parser : ℕ
  pub takes : TakesCounts job stands.shape stands.counts more parser frame

-- the frame may stand next on the link from this processor, of what the state stands for
pub record CanTakeAnswers (d : MergeState) (processor : ℕ) (frame : Frame) : Type 0 where
  pub job : Declared
  pub stands : StandsFor job d
  pub more : ℕ → List Frame
  pub takes : TakesAnswers job stands.shape stands.taken more processor frame
