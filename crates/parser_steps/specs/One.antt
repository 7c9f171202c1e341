-- What one step does to the capture that was chosen, to its source and to the links.
use Rattle.std.specs.Prelude.{ℕ, ◌≡◌, ◌<◌, ◌≤◌, ◌^◌, ◌⊎◌, ◌++◌, ◌∷◌, [], false, List, Option, slice_index_or, slice_set}
use Rattle.ds_base.specs.Outside.{SourceSeen, SourceStays}
use Rattle.ds_base.specs.declared.capture.Counts.{Counts}
use Rattle.ds_base.specs.declared.summary.Summary.{Summary}
use Rattle.credit_link.specs.declared.turn.NodeFault.{NodeFault}
use Rattle.credit_link.specs.declared.turn.NodeFault.TheVariants.{Malformed, Read as Unreadable, Write, Link, OutOfMemory}
use Rattle.key_select.specs.Late.{mark_of}
use Rattle.key_select.specs.Tally.{Tallies, capture_of, records_taken}
use Rattle.node_frames.specs.declared.frame.Frame.TheVariants.{Mark, CaptureEnd, CountsRow}
use Rattle.pcap_reader.specs.Captured.{Captured}
use Rattle.pcap_reader.specs.Reader.{bytes_held}
use Rattle.shuffle_poll.specs.Shuffles.{ShuffleSeen}
use Rattle.summary_spec.specs.Declaration.{Declared}
use Rattle.run_law.specs.Snapshot.{unread}
use Rattle.node_lanes.specs.Ends.{put_on}
use Rattle.parser_captures.specs.Captures.{CaptureStands, TakesRecord, ReadsPiece, EndsWhole, StopsBy, IsLeft, reading_of}
use Rattle.parser_captures.specs.Choice.{capture_in}
use Rattle.parser_captures.specs.Puts.{frames_for}
use Rattle.parser_captures.specs.declared.capture.CaptureStop.TheVariants as stop
use Rattle.parser_captures.specs.declared.capture.OneCapture.{OneCapture}
use Rattle.parser_steps.specs.declared.step.Stepped.{Stepped}
use Rattle.parser_steps.specs.declared.step.Stepped.TheVariants.{Took, Read, CaptureEnded, Ended}

-- nothing was read of it, and nothing is in memory
pub record IsUnread (job : Declared) (c : OneCapture) : Type 0 where
  pub reading : reading_of job c ≡ unread
  pub behind : c.behind ≡ 0
  pub held : bytes_held c.reading.reader ≡ 0

-- a mark was put for each grouper, and none for the merge: the newest time less the skew
pub record PutsMark (number groupers : ℕ) (took : OneCapture) (outs outs' : ShuffleSeen) : Type 0 where
  pub mark : ℕ
  pub newest : (job : Declared) (taken : List Captured) → Tallies job number took.tally taken → mark ≡ mark_of job number taken
  pub early : mark < 2 ^ 63
  pub marks : (g : ℕ) → g < groupers → put_on outs' g ≡ put_on outs g ++ Mark number mark ∷ []
  pub merge : put_on outs' groupers ≡ put_on outs groupers

-- a mark was due and put, after which no record waits for one; or none was due
abbrev pub MayPutMark : (number groupers : ℕ) (took new : OneCapture) (outs outs' : ShuffleSeen) → Type 0
MayPutMark number groupers took new outs outs' =
    ((32 ≤ took.behind) × (new ≡ record took { behind = 0 }) × PutsMark number groupers took outs outs')
    ⊎ ((took.behind < 32) × (new ≡ took) × (outs' ≡ outs))

-- the Item of what was found was put, and then the mark that was due
pub record PutsRecord (number groupers : ℕ) (found : Option Summary) (took new : OneCapture) (outs outs' : ShuffleSeen) : Type 0 where
  pub mid : ShuffleSeen
  pub item : (k : ℕ) → put_on mid k ≡ put_on outs k ++ frames_for groupers k found
  pub may : MayPutMark number groupers took new mid outs'

-- one record more was taken up, and what it is due was put
pub record TakesOne (job : Declared) (number groupers : ℕ) (old new : OneCapture) (outs outs' : ShuffleSeen) : Type 0 where
  pub found : Option Summary
  pub took : OneCapture
  pub takes : TakesRecord job old took found
  pub puts : PutsRecord number groupers found took new outs outs'

-- the capture's end was put for each grouper, and its row for the merge
pub record PutsEnd (number groupers : ℕ) (counts : Counts) (outs outs' : ShuffleSeen) : Type 0 where
  pub ends : (g : ℕ) → g < groupers → put_on outs' g ≡ put_on outs g ++ CaptureEnd number ∷ []
  pub row : put_on outs' groupers ≡ put_on outs groupers ++ CountsRow number counts ∷ []

-- the source is at its end
pub record EndsOne (job : Declared) (number groupers : ℕ) (old new : OneCapture) (before after : SourceSeen) (outs outs' : ShuffleSeen) : Type 0 where
  pub counts : Counts
  pub whole : EndsWhole job old new before after counts
  pub puts : PutsEnd number groupers counts outs outs'

-- what a step did, by its answer
abbrev pub OneSteps : (job : Declared) (number groupers : ℕ) (old new : OneCapture) (before after : SourceSeen) (outs outs' : ShuffleSeen) → Stepped → Type 0
OneSteps job number groupers old new before after outs outs' Took = (after ≡ before) × TakesOne job number groupers old new outs outs'
OneSteps job number groupers old new before after outs outs' Read = (after.faults ≡ before.faults) × ReadsPiece job old new before after × (outs' ≡ outs)
OneSteps job number groupers old new before after outs outs' CaptureEnded = (after.faults ≡ before.faults) × EndsOne job number groupers old new before after outs outs'
OneSteps job number groupers old new before after outs outs' Ended = ⊥

-- why it did none
abbrev pub OneStops : (job : Declared) (number : ℕ) (old new : OneCapture) (before after : SourceSeen) → NodeFault → Type 0
OneStops job number old new before after (Malformed capture bad) = (capture ≡ number) × StopsBy job old new before after (stop.Malformed bad)
OneStops job number old new before after (Unreadable capture) = (capture ≡ number) × StopsBy job old new before after stop.Unread
OneStops job number old new before after Write = ⊥
OneStops job number old new before after (Link link bad) = ⊥
OneStops job number old new before after OutOfMemory = StopsBy job old new before after stop.OutOfMemory

-- a capture of this number before its first step
pub record IsFreshCapture (job : Declared) (number : ℕ) (c : OneCapture) : Type 0 where
  pub stands : CaptureStands job c
  pub own : capture_of c.tally ≡ number
  pub none : records_taken c.tally ≡ 0
  pub unread : IsUnread job c

-- ---- at a place among the captures

-- the capture has this number and goes on, and the rest of its source is left
pub record MayStep (job : Declared) (number : ℕ) (c : OneCapture) (source : SourceSeen) : Type 0 where
  pub own : capture_of c.tally ≡ number
  pub stands : CaptureStands job c
  pub going : c.ended ≡ false
  pub near : c.behind < 32
  pub left : IsLeft c.bytes.items source

-- One capture and its source were changed in some way, and the others were left alone.
pub record ChangesOne (E : (old new : OneCapture) → (before after : SourceSeen) → Type 0) (number i : ℕ) (captures captures' : List OneCapture) (sources sources' : List SourceSeen) : Type 0 where
  pub old : OneCapture
  pub new : OneCapture
  pub before : SourceSeen
  pub after : SourceSeen
  pub was : (d : OneCapture) → capture_in captures i d ≡ old
  pub source_was : (d : SourceSeen) → slice_index_or sources i d ≡ before
  pub set : captures' ≡ slice_set captures i new
  pub source_set : sources' ≡ slice_set sources i after
  pub stays : SourceStays before after
  pub own : capture_of new.tally ≡ number
  pub how : E old new before after
