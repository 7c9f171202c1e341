-- What contracts see of a parser, what is true of it between turns, and what a turn does.
use Rattle.std.specs.Prelude.{ℕ, ◌≡◌, ◌<◌, ◌≤◌, ◌+◌, ◌-◌, ◌*◌, ◌/◌, ◌%◌, ◌==◌, ◌⊎◌, true, false, IsTrue, List, [], ◌∷◌, ◌++◌, All, Option, Some, None, length, map, sum, filter, slice_index_or}
use Rattle.std.specs.List.{sum_by}
use Rattle.ds_base.specs.Faults.{Rose}
use Rattle.ds_base.specs.Outside.{SourceSeen, SourceStays}
use Rattle.ds_base.specs.declared.capture.Bad.{Bad}
use Rattle.credit_link.specs.Ends.{TxSeen}
use Rattle.credit_link.specs.declared.turn.NodeFault.{NodeFault}
use Rattle.credit_link.specs.declared.turn.NodeFault.TheVariants.{Malformed, Read, Write, Link, OutOfMemory}
use Rattle.shuffle_poll.specs.Shuffles.{ShuffleSeen}
use Rattle.summary_spec.specs.Declaration.{Declared}
use Rattle.summary_spec.specs.Lawful.{IsLawful}
use Rattle.key_select.specs.Late.{greatest_time}
use Rattle.key_select.specs.Wanted.{good_of}
use Rattle.round_law.specs.Waits.{Node}
use Rattle.round_law.specs.Rows.{OffersFew}
use Rattle.round_law.specs.Measure.{ReadsFew}
use Rattle.run_law.specs.Nodes.{Reading, ParserKeeps, ParserMarks, but_last}
use Rattle.run_law.specs.Snapshot.{unread}
use Rattle.run_law.specs.Shapes.{Shape, IsCaptureOf, IsFront}
use Rattle.node_lanes.specs.Ends.{put_on, senders_of, EndsTell, OutsStand, OutsAreQuiet, OutsGo}
use Rattle.node_lanes.specs.Faults.{TxMeets}

-- A parser: its job, its number among so many parsers, the credits of its links; its captures' sources in rising order,
-- what it has read of each, how many records it took up since the last mark of each, and how many bytes are in memory
-- for each; its links out, first to the groupers and then to the merge; and the fault that it answers again.
pub record ParserSeen : Type 0 where
  pub job : Declared
  pub me : ℕ
  pub parsers : ℕ
  pub credits : ℕ
  pub sources : List SourceSeen
  pub reads : List Reading
  pub behind : List ℕ
  pub held : List ℕ
  pub outs : ShuffleSeen
  pub fault : Option NodeFault

-- ---- its captures

-- the place of one of its captures among them
abbrev pub place_of : ParserSeen → (capture : ℕ) → ℕ
place_of s capture = capture / s.parsers

-- the capture at a place
abbrev pub capture_at : ParserSeen → (place : ℕ) → ℕ
capture_at s place = s.me + place * s.parsers

-- what it has read of a capture
abbrev pub read_of : ParserSeen → (capture : ℕ) → Reading
read_of s capture = slice_index_or s.reads (place_of s capture) unread

abbrev pub behind_of : ParserSeen → (capture : ℕ) → ℕ
behind_of s capture = slice_index_or s.behind (place_of s capture) 0

abbrev pub held_of : ParserSeen → (capture : ℕ) → ℕ
held_of s capture = slice_index_or s.held (place_of s capture) 0

abbrev pub source_of : ParserSeen → (capture : ℕ) → (d : SourceSeen) → SourceSeen
source_of s capture d = slice_index_or s.sources (place_of s capture) d

abbrev pub groupers_of : ParserSeen → ℕ
groupers_of s = length s.outs.links - 1

-- the shape as far as a parser knows it, and with any number of processors
abbrev pub shape_with : ParserSeen → (processors : ℕ) → Shape
shape_with s processors = record { parsers = s.parsers; groupers = groupers_of s; processors = processors }

abbrev pub IsOwn : ParserSeen → (capture : ℕ) → Type 0
IsOwn s capture = (capture < length s.job.captures) × (capture % s.parsers ≡ s.me)

-- ---- how the laws of a run see it

abbrev pub parser_view : ParserSeen → Node
parser_view s = record {
  read = sum_by (λ (r : Reading). length r.bytes) s.reads;
  records = sum_by (λ (r : Reading). length r.records) s.reads;
  wrote = 0;
  wrote_all = true;
  ins = [];
  outs = senders_of s.outs;
}

abbrev pub parser_tells : ParserSeen → Type 0
parser_tells s = EndsTell [] s.outs.links

-- ---- what is true of it

-- what was read of a told source is a front of its file; while no fault was met the rest is left; and at the end it is
-- the file
pub record IsReadOf (fault : Option NodeFault) (source : SourceSeen) (reading : Reading) : Type 0 where
  pub front : IsTrue source.told → IsFront reading.bytes source.whole
  pub left : IsTrue source.told → fault ≡ None → source.whole ≡ reading.bytes ++ source.left
  pub whole : IsTrue source.told → reading.ended ≡ true → reading.bytes ≡ source.whole

-- No capture is ahead of another that goes on: when its last record was taken up, its newest time before that was at
-- most the newest of the other, where none is before every time.
pub data IsBehind : Option ℕ → Option ℕ → Type 0 where
  FromNone : (later : Option ℕ) → IsBehind None later
  FromSome : (a b : ℕ) → a ≤ b → IsBehind (Some a) (Some b)

abbrev pub IsEven : ParserSeen → Type 0
IsEven s = (c d : ℕ) → IsOwn s c → IsOwn s d → (read_of s d).ended ≡ false
    → IsBehind (greatest_time s.job c (but_last 1 (read_of s c).records)) (greatest_time s.job d (read_of s d).records)

pub record ParserStands (s : ParserSeen) : Type 0 where
  pub job_is : IsLawful s.job
  pub place : (s.me < s.parsers) × (s.parsers ≤ 16)
  pub groupers : (2 ≤ length s.outs.links) × (length s.outs.links ≤ 17)
  pub captures : (c : ℕ) → IsOwn s c → place_of s c < length s.reads
  pub own : (i : ℕ) → i < length s.reads → IsOwn s (capture_at s i)
  pub lengths : (length s.sources ≡ length s.reads) × (length s.behind ≡ length s.reads) × (length s.held ≡ length s.reads)
  pub outs : OutsStand s.credits s.outs
  pub keeps : (processors : ℕ) → ParserKeeps s.job (shape_with s processors) s.me (read_of s) (put_on s.outs) (put_on s.outs (groupers_of s))
  pub marks : (processors : ℕ) → ParserMarks s.job (shape_with s processors) s.me (behind_of s) (read_of s) (put_on s.outs)
  pub even : IsEven s
  pub read : (i : ℕ) (d : SourceSeen) → i < length s.sources → IsReadOf s.fault (slice_index_or s.sources i d) (slice_index_or s.reads i unread)
  pub held : (i : ℕ) → slice_index_or s.held i 0 ≤ 16781311
  pub reads_few : ReadsFew (length s.job.captures) (parser_view s)
  pub offers_few : OffersFew (parser_view s)
  pub quiet : s.fault ≡ None → All (λ (source : SourceSeen). source.faults ≡ 0) s.sources × OutsAreQuiet s.outs

-- ---- what a turn does

-- more was read of a capture, and more records of it were taken up
pub record ReadingGoes (before after : Reading) : Type 0 where
  pub bytes : IsFront before.bytes after.bytes
  pub records : IsFront before.records after.records
  pub ended : before.ended ≡ true → after ≡ before

pub record ParserGoes (before after : ParserSeen) : Type 0 where
  pub same : (after.job ≡ before.job) × (after.me ≡ before.me) × (after.parsers ≡ before.parsers) × (after.credits ≡ before.credits)
  pub as_many : (length after.sources ≡ length before.sources) × (length after.reads ≡ length before.reads)
  pub sources : (i : ℕ) (d : SourceSeen) → i < length before.sources → SourceStays (slice_index_or before.sources i d) (slice_index_or after.sources i d)
  pub reads : (i : ℕ) → i < length before.reads → ReadingGoes (slice_index_or before.reads i unread) (slice_index_or after.reads i unread)
  pub outs : OutsGo before.outs after.outs
  pub kept : (bad : NodeFault) → before.fault ≡ Some bad → after.fault ≡ Some bad

-- the capture is malformed: whatever follows what was read, or at its end
abbrev pub IsMalformed : Declared → (capture : ℕ) → Reading → Bad → Type 0
IsMalformed job capture reading bad =
    ((more : List ℕ) → (good_of job capture (reading.bytes ++ more)).bad ≡ Some bad)
    ⊎ ((reading.ended ≡ true) × ((good_of job capture reading.bytes).bad ≡ Some bad))

-- why a turn gave a fault for the first time
abbrev pub ParserMeets : (before after : ParserSeen) → NodeFault → Type 0
ParserMeets before after (Malformed capture bad) = IsOwn before capture × IsMalformed after.job capture (read_of after capture) bad
ParserMeets before after (Read capture) =
    IsOwn before capture × ((d : SourceSeen) → Rose (source_of before capture d).faults (source_of after capture d).faults)
ParserMeets before after Write = ⊥
ParserMeets before after (Link link bad) =
    (link < length before.outs.links) × ((d : TxSeen) → TxMeets (slice_index_or before.outs.links link d) (slice_index_or after.outs.links link d) bad)
ParserMeets before after OutOfMemory = Unit {0}

-- a frame waits for some link
abbrev pub SomeWaits : ShuffleSeen → Type 0
SomeWaits outs = (k : ℕ) × (0 < length (slice_index_or outs.queues k []))

-- each of its captures was read to its end
abbrev pub HasReadAll : ParserSeen → Type 0
HasReadAll s = All (λ (r : Reading). r.ended ≡ true) s.reads
