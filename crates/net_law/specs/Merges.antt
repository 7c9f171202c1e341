-- What contracts see of the merge, what is true of it between turns, and what a turn does.
use Rattle.std.specs.Prelude.{ℕ, ◌≡◌, ◌<◌, ◌≤◌, ◌+◌, ◌-◌, ◌⊎◌, Bool, true, IsTrue, List, [], ◌++◌, All, Option, Some, None, length, slice_index_or}
use Rattle.ds_base.specs.Faults.{Rose}
use Rattle.ds_base.specs.Outside.{SinkSeen, SinkStays}
use Rattle.node_frames.specs.declared.frame.Frame.{Frame}
use Rattle.credit_link.specs.Ends.{RxSeen}
use Rattle.credit_link.specs.declared.turn.NodeFault.{NodeFault}
use Rattle.credit_link.specs.declared.turn.NodeFault.TheVariants.{Malformed, Read, Write, Link, OutOfMemory}
use Rattle.summary_spec.specs.Declaration.{Declared}
use Rattle.summary_spec.specs.Lawful.{IsLawful}
use Rattle.round_law.specs.Waits.{Node}
use Rattle.run_law.specs.Links.{AreLawfulCounts, AreLawfulAnswers, CountsRule, AnswerRule, MayFollow}
use Rattle.run_law.specs.Nodes.{MergeKeeps, HasWrittenDue}
use Rattle.run_law.specs.Shapes.{Shape, IsFront}
use Rattle.node_lanes.specs.Ends.{given_on, receivers_of, EndsTell, InsStand, InsAreQuiet, InsGo}
use Rattle.node_lanes.specs.Faults.{RxMeets}

-- The merge: its job, how many parsers there are, the credits of its links; its links in, first one a parser and then one
-- a processor; its sink, the text that the sink has taken since the start, whether that is all text; and the fault that
-- it answers again.
pub record MergeSeen : Type 0 where
  pub job : Declared
  pub parsers : ℕ
  pub credits : ℕ
  pub ins : List RxSeen
  pub sink : SinkSeen
  pub gained : List ℕ
  pub wrote_all : Bool
  pub fault : Option NodeFault

abbrev pub processors_of : MergeSeen → ℕ
processors_of s = length s.ins - s.parsers

-- the shape as far as the merge knows it, and with any number of groupers
abbrev pub shape_with : MergeSeen → (groupers : ℕ) → Shape
shape_with s groupers = record { parsers = s.parsers; groupers = groupers; processors = processors_of s }

-- what came from each parser and from each processor
abbrev pub counts_on : MergeSeen → (parser : ℕ) → List Frame
counts_on s parser = given_on s.ins parser

abbrev pub answers_on : MergeSeen → (processor : ℕ) → List Frame
answers_on s processor = given_on s.ins (s.parsers + processor)

abbrev pub merge_view : MergeSeen → Node
merge_view s = record { read = 0; records = 0; wrote = length s.gained; wrote_all = s.wrote_all; ins = receivers_of s.ins; outs = [] }

abbrev pub merge_tells : MergeSeen → Type 0
merge_tells s = EndsTell s.ins []

-- what came is lawful on each link
pub record TakesLawful (s : MergeSeen) : Type 0 where
  pub counts : (groupers p : ℕ) → p < s.parsers → AreLawfulCounts s.job (shape_with s groupers) p (counts_on s p)
  pub answers : (q : ℕ) → q < processors_of s → AreLawfulAnswers s.job (answers_on s q)

pub record MergeStands (s : MergeSeen) : Type 0 where
  pub job_is : IsLawful s.job
  pub parsers : (1 ≤ s.parsers) × (s.parsers ≤ 16)
  pub processors : (s.parsers < length s.ins) × (length s.ins ≤ s.parsers + 16)
  pub ins : InsStand s.credits s.ins
  pub keeps : TakesLawful s → (groupers : ℕ) → MergeKeeps s.job (shape_with s groupers) (counts_on s) (answers_on s) [] s.gained
  pub whole : TakesLawful s → IsTrue s.wrote_all → (groupers : ℕ) → HasWrittenDue s.job (shape_with s groupers) (counts_on s) (answers_on s) [] s.gained
  pub lawful : s.fault ≡ None → TakesLawful s
  pub quiet : s.fault ≡ None → InsAreQuiet s.ins

-- what the sink took stands behind what was written before
abbrev pub SinkGains : (before after : MergeSeen) → Type 0
SinkGains before after = IsTrue before.sink.told → (start : List ℕ) → before.sink.written ≡ start ++ before.gained → after.sink.written ≡ start ++ after.gained

pub record MergeGoes (before after : MergeSeen) : Type 0 where
  pub same : (after.job ≡ before.job) × (after.parsers ≡ before.parsers) × (after.credits ≡ before.credits)
  pub ins : InsGo before.ins after.ins
  pub sink : SinkStays before.sink after.sink
  pub gained : IsFront before.gained after.gained
  pub written : SinkGains before after
  pub calm : after.fault ≡ None → after.sink.faults ≡ before.sink.faults
  pub kept : (bad : NodeFault) → before.fault ≡ Some bad → after.fault ≡ Some bad

-- why a turn gave a fault for the first time
abbrev pub MergeMeets : (before after : MergeSeen) → NodeFault → Type 0
MergeMeets before after Write = Rose before.sink.faults after.sink.faults
MergeMeets before after (Link link bad) =
    ((link < before.parsers) × ((groupers : ℕ) (d : RxSeen) → RxMeets (MayFollow (CountsRule before.job (shape_with before groupers) link))
    (slice_index_or before.ins link d) (slice_index_or after.ins link d) bad))
    ⊎ ((before.parsers ≤ link) × (link < length before.ins) × ((d : RxSeen) → RxMeets (MayFollow (AnswerRule before.job))
    (slice_index_or before.ins link d) (slice_index_or after.ins link d) bad))
MergeMeets before after OutOfMemory = Unit {0}
MergeMeets before after _ = ⊥

-- all lines that may be written are written
abbrev pub MergeRests : MergeSeen → Type 0
MergeRests s = (groupers : ℕ) → HasWrittenDue s.job (shape_with s groupers) (counts_on s) (answers_on s) [] s.gained
