-- What each node promises of what it took and what it put on its links, whatever its turns were. Frames that it
-- put are all that it gave out for a link, whether they left already or wait.
use Rattle.std.specs.Prelude.{ℕ, ◌≡◌, ◌≤◌, ◌<◌, ◌+◌, ◌-◌, ◌%◌, Bool, true, false, List, [], ◌∷◌, ◌++◌, Option, Some, None, map, length, take}
use Rattle.std.specs.List.{AllByRecursion, flat_map, range_with_len}
use Rattle.std.specs.List.Sorted.{IsPermutation}
use Rattle.answer_text.specs.Lines.{answer_text, capture_text, end_text}
use Rattle.central_report.specs.Report.{answer_to, names_of, row_texts}
use Rattle.ds_base.specs.Copies.{Copies}
use Rattle.ds_base.specs.Fronts.{IsIn, InOrder, upto}
use Rattle.ds_base.specs.Items.{Items}
use Rattle.ds_base.specs.declared.capture.Counts.{Counts}
use Rattle.ds_base.specs.declared.profile_row.ProfileRow.{ProfileRow}
use Rattle.ds_base.specs.declared.summary.Summary.{Summary}
use Rattle.ds_base.specs.declared.verdict.Answer.{Answer}
use Rattle.key_select.specs.Fates.{accepted_of, counts_of}
use Rattle.key_select.specs.Late.{mark_of}
use Rattle.node_frames.specs.declared.frame.Frame.{Frame}
use Rattle.node_frames.specs.declared.frame.Frame.TheVariants.{Mark, CaptureEnd, GroupMark, Profile, CountsRow, Finish}
use Rattle.pcap_reader.specs.Captured.{Captured}
use Rattle.pcap_reader.specs.Lent.{AreFirst}
use Rattle.profiles.specs.Profile.{IsProfile}
use Rattle.profiles.specs.Put.{put_all}
use Rattle.summary_spec.specs.Declaration.{Declared}
use Rattle.watermarks.specs.Least.{least_mark, under}
use Rattle.window_grouper.specs.Closed.{is_closed}
use Rattle.window_grouper.specs.Groups.{groups_of}
use Rattle.window_grouper.specs.Sorted.{by_stamp}
use Rattle.run_law.specs.Links.{AreLawfulItems, AreLawfulCounts, AreLawfulGroups, AreLawfulAnswers}
use Rattle.run_law.specs.Sent.{items_in, answers_in, rows_in, counts_in, groups_in, of_items, of_firsts, bound_in}
use Rattle.key_select.specs.Wanted.{good_of, wanted_of}
use Rattle.run_law.specs.Shapes.{Shape, IsCaptureOf, of_capture, summaries_of_shard, with_number, dealt, IsFront}

-- the numbers below n
abbrev pub below : ℕ → List ℕ
below n = range_with_len 0 n

-- ---- parser

-- what a parser has of a capture: the bytes that it read, whether it read the file's end, and the records that
-- it took up
pub record Reading : Type 0 where
  pub bytes : List ℕ
  pub ended : Bool
  pub records : List Captured

-- the whole file was read, it is not malformed, and all its records were taken up
pub record IsWhole (job : Declared) (capture : ℕ) (reading : Reading) : Type 0 where
  pub ended : reading.ended ≡ true
  pub sound : (good_of job capture reading.bytes).bad ≡ None
  pub records : (good_of job capture reading.bytes).records ≡ reading.records

-- the newest time of some first records of the capture less its skew
pub record IsMarkOf (job : Declared) (capture : ℕ) (records : List Captured) (mark : ℕ) : Type 0 where
  pub front : List Captured
  pub taken : IsFront front records
  pub is : mark ≡ mark_of job capture front

-- Of each of its captures it has taken up the first records. For each grouper it put the accepted summaries of its
-- shard, capture by capture in the order of the records; each mark is the newest time less the skew; a capture's
-- end and its counts come once all its records were taken up.
pub record ParserKeeps (job : Declared) (shape : Shape) (parser : ℕ) (read : ℕ → Reading) (items : ℕ → List Frame) (counts : List Frame) : Type 0 where
  pub lawful : (g : ℕ) → g < shape.groupers → AreLawfulItems job shape parser g (items g)
  pub lawful_counts : AreLawfulCounts job shape parser counts
  pub first : (c : ℕ) → IsCaptureOf (length job.captures) shape parser c → AreFirst (wanted_of job c) (read c).bytes (read c).records
  pub summaries : (g c : ℕ) → g < shape.groupers → IsCaptureOf (length job.captures) shape parser c
      → of_capture c (items_in (items g)) ≡ summaries_of_shard g shape.groupers (accepted_of job c (read c).records)
  pub marks : (g c mark : ℕ) → g < shape.groupers → IsIn (Mark c mark) (items g) → IsMarkOf job c (read c).records mark
  pub ends : (g c : ℕ) → g < shape.groupers → IsIn (CaptureEnd c) (items g) → IsWhole job c (read c)
  pub rows : (c : ℕ) (k : Counts) → IsIn (CountsRow c k) counts
      → IsWhole job c (read c) × (k ≡ counts_of job c (read c).records (good_of job c (read c).bytes).cut)

-- the records taken up, but for the last few
abbrev pub but_last : ℕ → List Captured → List Captured
but_last few records = take (length records - few) records

-- After a turn the last mark of each capture, on each link where it goes on, is that of all records taken up but the
-- last `behind`, which are at most 32. A capture of which no mark was put counts as one whose last mark is 0.
pub record ParserMarks (job : Declared) (shape : Shape) (parser : ℕ) (behind : ℕ → ℕ) (read : ℕ → Reading) (items : ℕ → List Frame) : Type 0 where
  pub within : (c : ℕ) → IsCaptureOf (length job.captures) shape parser c → behind c ≤ length (read c).records
  pub few : (c : ℕ) → IsCaptureOf (length job.captures) shape parser c → behind c ≤ 32
  pub last : (g c : ℕ) → g < shape.groupers → IsCaptureOf (length job.captures) shape parser c → (IsIn (CaptureEnd c) (items g) → ⊥)
      → bound_in (of_items c) (items g) ≡ Some (mark_of job c (but_last (behind c) (read c).records))

-- ---- grouper

-- the summaries taken of all parsers, in the order of their stamps
abbrev pub summaries_taken : Shape → (taken : ℕ → List Frame) → List Summary
summaries_taken shape taken = by_stamp (flat_map (λ p. items_in (taken p)) (below shape.parsers))

-- the least of the last marks of the captures that have not ended
abbrev pub least_of_captures : Declared → Shape → (taken : ℕ → List Frame) → Option ℕ
least_of_captures job shape taken =
    least_mark (map (λ c. bound_in (of_items c) (taken (c % shape.parsers))) (below (length job.captures)))

-- the groups whose first's time plus the window is below that mark, up to the first that is not, and all groups
-- where every capture has ended
abbrev pub groups_closed : Declared → Shape → (taken : ℕ → List Frame) → List Copies
groups_closed job shape taken =
    upto (is_closed (under (least_of_captures job shape taken)) job.window) (groups_of job.window (summaries_taken shape taken))

-- the first member, if there is one
abbrev pub first_member : List Summary → Summary
first_member [] = record { at = record { time = 0; capture = 0; number = 0 }; key = []; vals = [] }
first_member (s ∷ ss) = s

-- the time of a group's first member
abbrev pub began : Copies → ℕ
began x = (first_member x.members).at.time

-- The groups sent are a front of the closed ones and went to the processors in turn. While a capture has not ended
-- a mark is at most the least mark less the window; each closed group that begins below a mark was sent whole
-- on that link; the end comes once every capture has ended and all groups were sent.
pub record GrouperKeeps (job : Declared) (shape : Shape) (grouper : ℕ) (taken put : ℕ → List Frame) : Type 0 where
  pub lawful : (q : ℕ) → q < shape.processors → AreLawfulGroups job (put q)
  pub sent : List Copies
  pub closed : IsFront sent (groups_closed job shape taken)
  pub in_turn : (q : ℕ) → q < shape.processors → groups_in (put q) ≡ dealt shape.processors grouper q sent
  pub marks : (q mark least : ℕ) → q < shape.processors → IsIn (GroupMark mark) (put q)
      → least_of_captures job shape taken ≡ Some least → mark ≤ least - job.window
  pub whole : (q mark : ℕ) (x : Copies) → q < shape.processors → IsIn (GroupMark mark) (put q)
      → IsIn x (dealt shape.processors grouper q (groups_closed job shape taken)) → began x < mark → IsIn x (groups_in (put q))
  pub finish : (q : ℕ) → q < shape.processors → IsIn Finish (put q)
      → (least_of_captures job shape taken ≡ None) × (sent ≡ groups_closed job shape taken)

-- A grouper holds nothing back: on each link it put all closed groups that go there, and, while a capture has not ended,
-- its last mark there is the least mark less the window.
pub record GrouperSendsAll (job : Declared) (shape : Shape) (grouper : ℕ) (taken put : ℕ → List Frame) : Type 0 where
  pub groups : (q : ℕ) → q < shape.processors → groups_in (put q) ≡ dealt shape.processors grouper q (groups_closed job shape taken)
  pub marks : (q least : ℕ) → q < shape.processors → least_of_captures job shape taken ≡ Some least
      → bound_in of_firsts (put q) ≡ Some (least - job.window)

-- ---- query processor

-- the answer to a group
abbrev pub answer_of : Declared → Copies → Answer
answer_of job x = answer_to job.query x (first_member x.members)

abbrev pub answers_of : Declared → List Copies → List Answer
answers_of job xs = map (answer_of job) xs

-- the least of the last marks of the links that have not finished, of n links
abbrev pub least_of_links : (n : ℕ) → (taken : ℕ → List Frame) → Option ℕ
least_of_links n taken = least_mark (map (λ i. bound_in of_firsts (taken i)) (below n))

-- whole groups, in the order in which they were taken, each with the number of its grouper
abbrev pub groups_arrived : List (ℕ × Copies) → List Copies
groups_arrived arrived = map (λ e. e.1) arrived

-- the profile of the groups, where the job asks for it
abbrev pub IsAskedProfile : (profile : Bool) → List Copies → List ProfileRow → Type 0
IsAskedProfile false xs rows = rows ≡ []
IsAskedProfile true xs rows = IsProfile xs rows

-- every link in has finished, and the answer of each group was put
pub record HasAnsweredAll (job : Declared) (shape : Shape) (arrived : List (ℕ × Copies)) (taken : ℕ → List Frame) (put : List Frame) : Type 0 where
  pub finished : least_of_links shape.groupers taken ≡ None
  pub answers : answers_in put ≡ answers_of job (groups_arrived arrived)

-- Each whole group taken gives one answer, in the order taken. A mark is at most the least mark of the groupers that
-- have not finished; the answer of each group that begins below a mark was put. Once every grouper has finished
-- and all answers were put come the profile, where it is asked for, and the end.
pub record ProcessorKeeps (job : Declared) (shape : Shape) (taken : ℕ → List Frame) (put : List Frame) : Type 0 where
  pub lawful : AreLawfulAnswers job put
  pub arrived : List (ℕ × Copies)
  pub of_groupers : AllByRecursion (λ e. e.0 < shape.groupers) arrived
  pub from_links : (g : ℕ) → g < shape.groupers → with_number g arrived ≡ groups_in (taken g)
  pub answers : IsFront (answers_in put) (answers_of job (groups_arrived arrived))
  pub marks : (mark least : ℕ) → IsIn (GroupMark mark) put → least_of_links shape.groupers taken ≡ Some least → mark ≤ least
  pub answered : (mark : ℕ) (x : Copies) → IsIn (GroupMark mark) put → IsIn x (groups_arrived arrived) → began x < mark
      → IsIn (answer_of job x) (answers_in put)
  pub profile : (row : ProfileRow) → IsIn (Profile row) put → HasAnsweredAll job shape arrived taken put
  pub profile_front : (rows : List ProfileRow) → least_of_links shape.groupers taken ≡ None
      → IsAskedProfile job.profile (groups_arrived arrived) rows → IsFront (rows_in put) rows
  pub finish : IsIn Finish put
      → HasAnsweredAll job shape arrived taken put × IsAskedProfile job.profile (groups_arrived arrived) (rows_in put)

-- A processor holds nothing back: the answer of each whole group taken was put, and, while a grouper has not finished, its
-- last mark is the least of theirs.
pub record ProcessorSendsAll (job : Declared) (shape : Shape) (taken : ℕ → List Frame) (put : List Frame) : Type 0 where
  pub answers : (g : ℕ) (x : Copies) → g < shape.groupers → IsIn x (groups_in (taken g)) → IsIn (answer_of job x) (answers_in put)
  pub marks : (least : ℕ) → least_of_links shape.groupers taken ≡ Some least → bound_in of_firsts put ≡ Some least

-- ---- merge

-- the answers taken of all processors
abbrev pub answers_taken : Shape → (taken : ℕ → List Frame) → List Answer
answers_taken shape taken = flat_map (λ q. answers_in (taken q)) (below shape.processors)

-- the answers in the order of their firsts' stamps, of which no two are equal
pub record AreInOrder (answers ordered : List Answer) : Type 0 where
  pub rises : InOrder (λ (a : Answer). a.first) ordered
  pub same : IsPermutation answers ordered

-- the lines of answers
abbrev pub answer_texts : Declared → List Answer → List ℕ
answer_texts job answers = flat_map (answer_text (names_of job)) answers

-- the rows of all processors, added up pair by pair
abbrev pub rows_added : List (List ProfileRow) → List ProfileRow
rows_added [] = []
rows_added (rows ∷ others) = put_all rows (rows_added others)

abbrev pub rows_taken : Shape → (taken : ℕ → List Frame) → List ProfileRow
rows_taken shape taken = rows_added (map (λ q. rows_in (taken q)) (below shape.processors))

-- the lines of the captures in the order of their numbers, up to the first that has no row, and, where each has one,
-- the last line
abbrev pub capture_lines : List (Items ℕ) → (capture groups summaries : ℕ) → List (Option Counts) → List ℕ
capture_lines names capture groups summaries [] = end_text groups summaries
capture_lines names capture groups summaries (None ∷ rows) = []
capture_lines names capture groups summaries (Some counts ∷ rows) =
    capture_text names capture counts ++ capture_lines names (capture + 1) groups (summaries + counts.accepted) rows

-- the counts of each capture, where they were taken
abbrev pub counts_taken : Declared → Shape → (counts : ℕ → List Frame) → List (Option Counts)
counts_taken job shape counts = map (λ c. counts_in c (counts (c % shape.parsers))) (below (length job.captures))

-- the lines of answers that may be written by this bound, and all lines once no processor goes on
abbrev pub lines_by : Declared → Shape → Option ℕ → (counts taken : ℕ → List Frame) → (ordered : List Answer) → List ℕ
lines_by job shape (Some mark) counts taken ordered = answer_texts job (upto (λ a. under (Some mark) a.first.time) ordered)
lines_by job shape None counts taken ordered =
    answer_texts job ordered
    ++ row_texts (names_of job) (rows_taken shape taken)
    ++ capture_lines (names_of job) 0 (length ordered) 0 (counts_taken job shape counts)

-- the lines that may be written
abbrev pub lines_due : Declared → Shape → (counts taken : ℕ → List Frame) → (ordered : List Answer) → List ℕ
lines_due job shape counts taken ordered = lines_by job shape (least_of_links shape.processors taken) counts taken ordered

-- Where the firsts of the answers taken differ, what was written since the start is a front of the lines that may be
-- written: those of answers below the least mark of the processors that have not finished, and once all have
-- finished those of all answers, of the profile and of the captures.
pub record MergeKeeps (job : Declared) (shape : Shape) (counts taken : ℕ → List Frame) (start written : List ℕ) : Type 0 where
  pub gained : List ℕ
  pub since : written ≡ start ++ gained
  pub due : (ordered : List Answer) → AreInOrder (answers_taken shape taken) ordered → IsFront gained (lines_due job shape counts taken ordered)

-- the merge holds nothing back: it has written all lines that may be written
abbrev pub HasWrittenDue : Declared → Shape → (counts taken : ℕ → List Frame) → (start written : List ℕ) → Type 0
HasWrittenDue job shape counts taken start written =
    (ordered : List Answer) → AreInOrder (answers_taken shape taken) ordered → written ≡ start ++ lines_due job shape counts taken ordered
