-- A moment of a run: what was read, sent, taken and written so far, on every link and by every node.
use Rattle.std.specs.Prelude.{ℕ, ◌≡◌, ◌<◌, true, false, List, [], length, slice_index_or}
use Rattle.ds_base.specs.Fronts.{IsIn}
use Rattle.node_frames.specs.declared.frame.Frame.{Frame}
use Rattle.node_frames.specs.declared.frame.Frame.TheVariants.{Finish}
use Rattle.summary_spec.specs.Declaration.{Declared}
use Rattle.run_law.specs.Links.{AreLawfulItems, AreLawfulCounts, AreLawfulGroups, AreLawfulAnswers}
use Rattle.run_law.specs.Nodes.{Reading, ParserKeeps, GrouperKeeps, ProcessorKeeps, MergeKeeps, GrouperSendsAll, ProcessorSendsAll, HasWrittenDue}
use Rattle.run_law.specs.Shapes.{Shape, IsFront}

-- a link: the frames put for it, those of them that were sent, and those of these that were taken
pub record Link : Type 0 where
  pub put : List Frame
  pub sent : List Frame
  pub taken : List Frame

-- what was sent is a front of what was put, and what was taken of what was sent
pub record IsInStep (link : Link) : Type 0 where
  pub sent : IsFront link.sent link.put
  pub taken : IsFront link.taken link.sent

-- every frame was sent and taken
pub record IsSettled (link : Link) : Type 0 where
  pub sent : link.sent ≡ link.put
  pub taken : link.taken ≡ link.sent

-- the lists of a pipeline: what was read of each capture; the links from each parser to each grouper and to the merge,
-- from each grouper to each processor, from each processor to the merge; and what was written
pub record Lists : Type 0 where
  pub read : ℕ → Reading
  pub items : (parser grouper : ℕ) → Link
  pub counts : (parser : ℕ) → Link
  pub groups : (grouper processor : ℕ) → Link
  pub answers : (processor : ℕ) → Link
  pub written : List ℕ

-- the bytes of a capture's file
abbrev pub file_of : List (List ℕ) → (capture : ℕ) → List ℕ
file_of files capture = slice_index_or files capture []

-- what was read is a front of the file, and at its end the file
pub record IsRead (reading : Reading) (file : List ℕ) : Type 0 where
  pub front : IsFront reading.bytes file
  pub whole : reading.ended ≡ true → reading.bytes ≡ file

-- on each link the frames taken are a front of those sent, what was read of each capture is a front of its file,
-- and each node keeps its promise, where what it took is lawful
pub record Snapshot (job : Declared) (files : List (List ℕ)) (shape : Shape) (start : List ℕ) (lists : Lists) : Type 0 where
  pub read : (c : ℕ) → c < length job.captures → IsRead (lists.read c) (file_of files c)
  pub items_step : (p g : ℕ) → p < shape.parsers → g < shape.groupers → IsInStep (lists.items p g)
  pub counts_step : (p : ℕ) → p < shape.parsers → IsInStep (lists.counts p)
  pub groups_step : (g q : ℕ) → g < shape.groupers → q < shape.processors → IsInStep (lists.groups g q)
  pub answers_step : (q : ℕ) → q < shape.processors → IsInStep (lists.answers q)
  pub parsers : (p : ℕ) → p < shape.parsers → ParserKeeps job shape p lists.read (λ g. (lists.items p g).put) (lists.counts p).put
  pub groupers : (g : ℕ) → g < shape.groupers
      → ((p : ℕ) → p < shape.parsers → AreLawfulItems job shape p g (lists.items p g).taken)
      → GrouperKeeps job shape g (λ p. (lists.items p g).taken) (λ q. (lists.groups g q).put)
  pub processors : (q : ℕ) → q < shape.processors
      → ((g : ℕ) → g < shape.groupers → AreLawfulGroups job (lists.groups g q).taken)
      → ProcessorKeeps job shape (λ g. (lists.groups g q).taken) (lists.answers q).put
  pub merge : ((p : ℕ) → p < shape.parsers → AreLawfulCounts job shape p (lists.counts p).taken)
      → ((q : ℕ) → q < shape.processors → AreLawfulAnswers job (lists.answers q).taken)
      → MergeKeeps job shape (λ p. (lists.counts p).taken) (λ q. (lists.answers q).taken) start lists.written

-- the end of each link was taken, and the merge has written all its lines
pub record AreDone (job : Declared) (shape : Shape) (start : List ℕ) (lists : Lists) : Type 0 where
  pub items : (p g : ℕ) → p < shape.parsers → g < shape.groupers → IsIn Finish (lists.items p g).taken
  pub counts : (p : ℕ) → p < shape.parsers → IsIn Finish (lists.counts p).taken
  pub groups : (g q : ℕ) → g < shape.groupers → q < shape.processors → IsIn Finish (lists.groups g q).taken
  pub answers : (q : ℕ) → q < shape.processors → IsIn Finish (lists.answers q).taken
  pub written : HasWrittenDue job shape (λ p. (lists.counts p).taken) (λ q. (lists.answers q).taken) start lists.written

-- every frame of groupers and processors was taken, and no grouper, processor or merge holds anything back
pub record IsAtRest (job : Declared) (shape : Shape) (start : List ℕ) (lists : Lists) : Type 0 where
  pub groups_taken : (g q : ℕ) → g < shape.groupers → q < shape.processors → (lists.groups g q).taken ≡ (lists.groups g q).put
  pub answers_taken : (q : ℕ) → q < shape.processors → (lists.answers q).taken ≡ (lists.answers q).put
  pub groupers : (g : ℕ) → g < shape.groupers → GrouperSendsAll job shape g (λ p. (lists.items p g).taken) (λ q. (lists.groups g q).put)
  pub processors : (q : ℕ) → q < shape.processors → ProcessorSendsAll job shape (λ g. (lists.groups g q).taken) (lists.answers q).put
  pub merge : HasWrittenDue job shape (λ p. (lists.counts p).taken) (λ q. (lists.answers q).taken) start lists.written

-- nothing was read, put, sent or taken yet
abbrev pub unread : Reading
unread = record { bytes = []; ended = false; records = [] }

abbrev pub empty_link : Link
empty_link = record { put = []; sent = []; taken = [] }

abbrev pub at_start : List ℕ → Lists
at_start start = record {
  read = λ c. unread;
  items = λ p g. empty_link;
  counts = λ p. empty_link;
  groups = λ g q. empty_link;
  answers = λ q. empty_link;
  written = start;
}
