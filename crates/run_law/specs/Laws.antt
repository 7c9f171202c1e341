-- What is true at every moment of a run, of every job, its files and every shape.
use Rattle.std.specs.Prelude.{ℕ, ◌⊎◌, Some, None, [], ◌≡◌, ◌<◌, ◌≤◌, ◌+◌, ◌%◌, ◌==◌, List, ◌++◌, length, filter}
use Rattle.std.specs.List.{AllByRecursion}
use Rattle.central_report.specs.Report.{accepted, groups, report}
use Rattle.ds_base.specs.Copies.{Copies}
use Rattle.ds_base.specs.Fronts.{IsIn, upto}
use Rattle.ds_base.specs.Order.{Precedes}
use Rattle.ds_base.specs.declared.summary.Summary.{Summary}
use Rattle.ds_base.specs.declared.verdict.Answer.{Answer}
use Rattle.summary_spec.specs.Declaration.{Declared}
use Rattle.summary_spec.specs.Lawful.{IsLawful}
use Rattle.key_select.specs.Late.{mark_of}
use Rattle.watermarks.specs.Least.{under}
use Rattle.node_frames.specs.declared.frame.Frame.{Frame}
use Rattle.node_frames.specs.declared.frame.Frame.TheVariants.{CaptureEnd, Finish}
use Rattle.run_law.specs.Links.{AreLawfulItems, AreLawfulGroups, AreLawfulAnswers}
use Rattle.run_law.specs.Nodes.{below, first_member, began, answer_of, answer_texts, answers_taken, least_of_captures, least_of_links, AreInOrder, but_last, ParserMarks, GrouperKeeps, ProcessorKeeps, MergeKeeps}
use Rattle.run_law.specs.Sent.{groups_in}
use Rattle.run_law.specs.Shapes.{Shape, IsShape, groups_of_shard, summaries_of_shard, with_number, dealt, IsFront}
use Rattle.key_select.specs.Wanted.{good_of}
use Rattle.run_law.specs.Snapshot.{Link, Lists, Snapshot, AreDone, IsAtRest, IsSettled, at_start, file_of}

-- a job, with a file for each of its captures, and a shape
pub record IsRun (job : Declared) (files : List (List ℕ)) (shape : Shape) : Type 0 where
  pub job_is : IsLawful job
  pub files_are : length files ≡ length job.captures
  pub shape_is : IsShape shape

-- the groups of a shard, in their order
abbrev pub shard_run : Declared → List (List ℕ) → (g n : ℕ) → List Copies
shard_run job files g n = groups_of_shard g n (groups job files)

-- these are the whole groups that the grouper sent, in the order of their closing, over all its links
abbrev pub AreSentBy : Shape → Lists → (grouper : ℕ) → List Copies → Type 0
AreSentBy shape lists grouper sent = (q : ℕ) → q < shape.processors
    → groups_in (lists.groups grouper q).put ≡ dealt shape.processors grouper q sent

-- what a grouper sent is a front of the groups of its shard
pub record SendsShard (job : Declared) (files : List (List ℕ)) (shape : Shape) (lists : Lists) (grouper : ℕ) : Type 0 where
  pub sent : List Copies
  pub all : AreSentBy shape lists grouper sent
  pub front : IsFront sent (shard_run job files grouper shape.groupers)

abbrev pub GroupsSentAreFront : Type 0
GroupsSentAreFront = (job : Declared) (files : List (List ℕ)) (shape : Shape) (start : List ℕ) (lists : Lists)
    → IsRun job files shape → Snapshot job files shape start lists
    → (g : ℕ) → g < shape.groupers → SendsShard job files shape lists g

-- what was written is what was there and a front of the report
pub record HasWrittenFront (job : Declared) (files : List (List ℕ)) (start written : List ℕ) : Type 0 where
  pub gained : List ℕ
  pub since : written ≡ start ++ gained
  pub front : IsFront gained (report job files)

abbrev pub WrittenIsFront : Type 0
WrittenIsFront = (job : Declared) (files : List (List ℕ)) (shape : Shape) (start : List ℕ) (lists : Lists)
    → IsRun job files shape → Snapshot job files shape start lists → HasWrittenFront job files start lists.written

-- nothing read, put, sent, taken or written is such a moment
abbrev pub StartIsSnapshot : Type 0
StartIsSnapshot = (job : Declared) (files : List (List ℕ)) (shape : Shape) (start : List ℕ)
    → IsRun job files shape → Snapshot job files shape start (at_start start)

-- at this moment no mark is behind the records
abbrev pub StartIsMarked : Type 0
StartIsMarked = (job : Declared) (shape : Shape) (start : List ℕ) (parser : ℕ)
    → ParserMarks job shape parser (λ c. 0) (at_start start).read (λ g. ((at_start start).items parser g).put)

-- the summary is of the group's key, not before its first member, and within the window of that
pub record MayJoin (window : ℕ) (x : Copies) (s : Summary) : Type 0 where
  pub key : s.key ≡ x.key
  pub behind : Precedes s.at (first_member x.members).at → ⊥
  pub within : s.at.time ≤ began x + window

-- whatever is accepted of the files, a group that was sent has all members that it could have
abbrev pub NoGroupGains : Type 0
NoGroupGains = (job : Declared) (files : List (List ℕ)) (shape : Shape) (start : List ℕ) (lists : Lists)
    → IsRun job files shape → Snapshot job files shape start lists
    → (g q : ℕ) (x : Copies) (s : Summary) → g < shape.groupers → q < shape.processors → IsIn x (groups_in (lists.groups g q).put)
    → IsIn s (accepted job files) → MayJoin job.window x s → IsIn s x.members

-- the answers that the merge may write, of these in their order
abbrev pub answers_due : Shape → Lists → List Answer → List Answer
answers_due shape lists ordered = upto (λ a. under (least_of_links shape.processors (λ q. (lists.answers q).taken)) a.first.time) ordered

-- each answer that the merge may write stands before every answer that is still to come
abbrev pub AnswersToComeAreLater : Type 0
AnswersToComeAreLater = (job : Declared) (files : List (List ℕ)) (shape : Shape) (start : List ℕ) (lists : Lists)
    → IsRun job files shape → Snapshot job files shape start lists
    → (ordered : List Answer) → AreInOrder (answers_taken shape (λ q. (lists.answers q).taken)) ordered
    → (a : Answer) (x : Copies) → IsIn a (answers_due shape lists ordered) → IsIn x (groups job files)
    → IsIn (answer_of job x) (answers_taken shape (λ q. (lists.answers q).taken)) ⊎ Precedes a.first (answer_of job x).first

-- the marks of the captures that a grouper took have passed the group: its window ends before the least of them
pub record IsPassed (job : Declared) (shape : Shape) (lists : Lists) (grouper : ℕ) (x : Copies) : Type 0 where
  pub least : ℕ
  pub is : least_of_captures job shape (λ p. (lists.items p grouper).taken) ≡ Some least
  pub over : began x + job.window < least

-- the end was put on each of the grouper's links
abbrev pub HasPutEnds : Shape → Lists → (grouper : ℕ) → Type 0
HasPutEnds shape lists grouper = (q : ℕ) → q < shape.processors → IsIn Finish (lists.groups grouper q).put

-- the marks have passed the group at each grouper that goes on, and one does
pub record IsPassedByAll (job : Declared) (shape : Shape) (lists : Lists) (x : Copies) : Type 0 where
  pub one : ℕ
  pub grouper : one < shape.groupers
  pub passed : IsPassed job shape lists one x
  pub each : (g : ℕ) → g < shape.groupers → IsPassed job shape lists g x ⊎ HasPutEnds shape lists g

-- the answer of the group is among those that may be written, and exactly these are written
abbrev pub IsAnswered : Declared → Shape → (start : List ℕ) → Lists → List Answer → Copies → Type 0
IsAnswered job shape start lists ordered x = IsIn (answer_of job x) (answers_due shape lists ordered)
    × (lists.written ≡ start ++ answer_texts job (answers_due shape lists ordered))

-- where nothing is held back, the answer of each group that the marks have passed is among those that were written
abbrev pub NothingIsHeldBack : Type 0
NothingIsHeldBack = (job : Declared) (files : List (List ℕ)) (shape : Shape) (start : List ℕ) (lists : Lists)
    → IsRun job files shape → Snapshot job files shape start lists → IsAtRest job shape start lists
    → (ordered : List Answer) → AreInOrder (answers_taken shape (λ q. (lists.answers q).taken)) ordered
    → (x : Copies) → IsIn x (groups job files) → IsPassedByAll job shape lists x → IsAnswered job shape start lists ordered x

-- every frame of parsers was taken by the groupers, and the last marks are those of all records but the last few
pub record AreMarksTaken (job : Declared) (shape : Shape) (lists : Lists) (behind : ℕ → ℕ) : Type 0 where
  pub parsers : (p : ℕ) → p < shape.parsers → ParserMarks job shape p behind lists.read (λ g. (lists.items p g).put)
  pub taken : (p g : ℕ) → p < shape.parsers → g < shape.groupers → (lists.items p g).taken ≡ (lists.items p g).put

-- the end of the capture was not put for the grouper
abbrev pub GoesOn : Shape → Lists → (grouper capture : ℕ) → Type 0
GoesOn shape lists grouper capture = IsIn (CaptureEnd capture) (lists.items (capture % shape.parsers) grouper).put → ⊥

-- a capture goes on, and in each that goes on the newest time of all records taken up but the last few, less the skew,
-- is past the group and its window
pub record IsLeftBehind (job : Declared) (shape : Shape) (lists : Lists) (behind : ℕ → ℕ) (x : Copies) : Type 0 where
  pub one : ℕ
  pub capture : one < length job.captures
  pub goes_on : (g : ℕ) → g < shape.groupers → GoesOn shape lists g one
  pub over : (g c : ℕ) → g < shape.groupers → c < length job.captures → GoesOn shape lists g c
      → began x + job.window < mark_of job c (but_last (behind c) (lists.read c).records)

-- where nothing is held back, the answer of each group that the records taken up have left behind was written
abbrev pub LinesFollowRecords : Type 0
LinesFollowRecords = (job : Declared) (files : List (List ℕ)) (shape : Shape) (start : List ℕ) (lists : Lists) (behind : ℕ → ℕ)
    → IsRun job files shape → Snapshot job files shape start lists → IsAtRest job shape start lists → AreMarksTaken job shape lists behind
    → (ordered : List Answer) → AreInOrder (answers_taken shape (λ q. (lists.answers q).taken)) ordered
    → (x : Copies) → IsIn x (groups job files) → IsLeftBehind job shape lists behind x → IsAnswered job shape start lists ordered x

-- the report was written, and every link is settled
pub record HasEndedWhole (job : Declared) (files : List (List ℕ)) (shape : Shape) (start : List ℕ) (lists : Lists) : Type 0 where
  pub written : lists.written ≡ start ++ report job files
  pub items : (p g : ℕ) → p < shape.parsers → g < shape.groupers → IsSettled (lists.items p g)
  pub counts : (p : ℕ) → p < shape.parsers → IsSettled (lists.counts p)
  pub groups : (g q : ℕ) → g < shape.groupers → q < shape.processors → IsSettled (lists.groups g q)
  pub answers : (q : ℕ) → q < shape.processors → IsSettled (lists.answers q)

abbrev pub DoneIsWhole : Type 0
DoneIsWhole = (job : Declared) (files : List (List ℕ)) (shape : Shape) (start : List ℕ) (lists : Lists)
    → IsRun job files shape → Snapshot job files shape start lists → AreDone job shape start lists → HasEndedWhole job files shape start lists

-- ---- the rows of the links

-- a link whose end was taken: as many frames were sent as taken, and at least one
pub record IsRowOfDone (link : Link) : Type 0 where
  pub same : length link.sent ≡ length link.taken
  pub some : 1 ≤ length link.sent

-- the captures of a parser
abbrev pub captures_of : Declared → Shape → (parser : ℕ) → List ℕ
captures_of job shape parser = filter (λ c. c % shape.parsers == parser) (below (length job.captures))

-- the accepted summaries of a parser's captures whose keys are of a shard
abbrev pub accepted_between : Declared → List (List ℕ) → Shape → (parser grouper : ℕ) → List Summary
accepted_between job files shape parser grouper =
    filter (λ s. s.at.capture % shape.parsers == parser) (summaries_of_shard grouper shape.groupers (accepted job files))

pub record RowsOfDone (job : Declared) (files : List (List ℕ)) (shape : Shape) (lists : Lists) : Type 0 where
  pub items : (p g : ℕ) → p < shape.parsers → g < shape.groupers → IsRowOfDone (lists.items p g)
  pub counts : (p : ℕ) → p < shape.parsers → IsRowOfDone (lists.counts p)
  pub groups : (g q : ℕ) → g < shape.groupers → q < shape.processors → IsRowOfDone (lists.groups g q)
  pub answers : (q : ℕ) → q < shape.processors → IsRowOfDone (lists.answers q)
  pub least : (p g : ℕ) → p < shape.parsers → g < shape.groupers
      → length (accepted_between job files shape p g) + length (captures_of job shape p) + 1 ≤ length (lists.items p g).sent

abbrev pub RowsAreLawful : Type 0
RowsAreLawful = (job : Declared) (files : List (List ℕ)) (shape : Shape) (start : List ℕ) (lists : Lists)
    → IsRun job files shape → Snapshot job files shape start lists → AreDone job shape start lists → RowsOfDone job files shape lists

-- ---- runs that end

-- no capture's file is malformed, and none has a record
abbrev pub HasNoRecord : Declared → List (List ℕ) → Type 0
HasNoRecord job files = (c : ℕ) → c < length job.captures → ((good_of job c (file_of files c)).bad ≡ None) × ((good_of job c (file_of files c)).records ≡ [])

-- where no capture has a record there is a moment at which all is done
abbrev pub RunWithoutRecordsEnds : Type 0
RunWithoutRecordsEnds = (job : Declared) (files : List (List ℕ)) (shape : Shape) (start : List ℕ)
    → IsRun job files shape → HasNoRecord job files
    → (lists : Lists) × Snapshot job files shape start lists × AreDone job shape start lists

-- ---- as more comes

-- on each link to the grouper more was taken, and all of it is lawful
pub record TakesMore (job : Declared) (shape : Shape) (grouper : ℕ) (taken more : ℕ → List Frame) : Type 0 where
  pub front : (p : ℕ) → p < shape.parsers → IsFront (taken p) (more p)
  pub lawful : (p : ℕ) → p < shape.parsers → AreLawfulItems job shape p grouper (more p)

-- the promise of a grouper stands as more frames are taken, whatever they are
abbrev pub GrouperKeepsOn : Type 0
GrouperKeepsOn = (job : Declared) (shape : Shape) (grouper : ℕ) (taken more put : ℕ → List Frame) → 0 < shape.parsers
    → TakesMore job shape grouper taken more → GrouperKeeps job shape grouper taken put → GrouperKeeps job shape grouper more put

-- on each link to the processor more was taken, and all of it is lawful; the groups that became whole are these, in the
-- order in which they were taken, each with the number of its grouper
pub record TakesMoreGroups (job : Declared) (shape : Shape) (taken more : ℕ → List Frame) (later : List (ℕ × Copies)) : Type 0 where
  pub front : (g : ℕ) → g < shape.groupers → IsFront (taken g) (more g)
  pub lawful : (g : ℕ) → g < shape.groupers → AreLawfulGroups job (more g)
  pub of_groupers : AllByRecursion (λ e. e.0 < shape.groupers) later
  pub groups : (g : ℕ) → g < shape.groupers → groups_in (more g) ≡ groups_in (taken g) ++ with_number g later

-- the promise of a processor stands as more frames are taken, whatever they are
abbrev pub ProcessorKeepsOn : Type 0
ProcessorKeepsOn = (job : Declared) (shape : Shape) (taken more : ℕ → List Frame) (later : List (ℕ × Copies)) (put : List Frame)
    → TakesMoreGroups job shape taken more later → ProcessorKeeps job shape taken put → ProcessorKeeps job shape more put

-- on each link to the merge more was taken, and the answers' links are lawful
pub record MergeTakesMore (job : Declared) (shape : Shape) (counts more_counts taken more : ℕ → List Frame) : Type 0 where
  pub counts_front : (p : ℕ) → p < shape.parsers → IsFront (counts p) (more_counts p)
  pub front : (q : ℕ) → q < shape.processors → IsFront (taken q) (more q)
  pub lawful : (q : ℕ) → q < shape.processors → AreLawfulAnswers job (more q)

-- the promise of the merge stands as more frames are taken, whatever they are
abbrev pub MergeKeepsOn : Type 0
MergeKeepsOn = (job : Declared) (shape : Shape) (counts more_counts taken more : ℕ → List Frame) (start written : List ℕ) → 0 < shape.parsers
    → MergeTakesMore job shape counts more_counts taken more → MergeKeeps job shape counts taken start written → MergeKeeps job shape more_counts more start written
