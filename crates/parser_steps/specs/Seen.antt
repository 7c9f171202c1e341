-- What contracts see of a parser without its turns and its links.
use Rattle.std.specs.Prelude.{ℕ, ◌≡◌, ◌<◌, ◌≤◌, ◌+◌, ◌*◌, Bool, false, if◌then◌else◌, List, Option, length, map, replicate, slice_index_or}
use Rattle.std.specs.List.{sum_by}
use Rattle.ds_base.specs.Outside.{SourceSeen}
use Rattle.credit_link.specs.declared.turn.NodeFault.{NodeFault}
use Rattle.pcap_reader.specs.Reader.{bytes_held}
use Rattle.shuffle_poll.specs.Shuffles.{ShuffleSeen}
use Rattle.key_select.specs.Tally.{capture_of, records_taken}
use Rattle.summary_spec.specs.Declaration.{Declared}
use Rattle.round_law.specs.Measure.{capture_records}
use Rattle.run_law.specs.Nodes.{Reading}
use Rattle.run_law.specs.Snapshot.{unread}
use Rattle.net_law.specs.Ends.{no_tx}
use Rattle.net_law.specs.Parsers.{ParserSeen}
use Rattle.parser_captures.specs.Captures.{CaptureStands, reading_of}
use Rattle.parser_captures.specs.Choice.{capture_in}
use Rattle.parser_captures.specs.declared.capture.OneCapture.{OneCapture}

-- A parser without its links: its job, its number among so many parsers, to how many groupers its links lead before the
-- one to the merge; its captures' sources in rising order, what was read of each, how many records were taken up since the
-- last mark of each, and how many bytes are in memory for each; and whether the end was put.
pub record StepsSeen : Type 0 where
  pub job : Declared
  pub me : ℕ
  pub parsers : ℕ
  pub groupers : ℕ
  pub sources : List SourceSeen
  pub reads : List Reading
  pub behind : List ℕ
  pub held : List ℕ
  pub finished : Bool

-- with its links, and the fault that it met
abbrev pub seen_of : StepsSeen → ShuffleSeen → Option NodeFault → ParserSeen
seen_of steps outs fault = record {
  job = steps.job;
  me = steps.me;
  parsers = steps.parsers;
  credits = (slice_index_or outs.links 0 no_tx).credits;
  sources = steps.sources;
  reads = steps.reads;
  behind = steps.behind;
  held = steps.held;
  outs = outs;
  fault = fault;
}

-- nothing was read of these sources, and nothing put
abbrev pub new_steps : Declared → (me parsers groupers : ℕ) → List SourceSeen → StepsSeen
new_steps job me parsers groupers sources = record {
  job = job;
  me = me;
  parsers = parsers;
  groupers = groupers;
  sources = sources;
  reads = replicate (length sources) unread;
  behind = replicate (length sources) 0;
  held = replicate (length sources) 0;
  finished = false;
}

-- ---- counts

-- how many bytes were read of all captures
abbrev pub bytes_read : StepsSeen → ℕ
bytes_read steps = sum_by (λ (r : Reading). length r.bytes) steps.reads

-- how many records were taken up
abbrev pub records_read : StepsSeen → ℕ
records_read steps = sum_by (λ (r : Reading). length r.records) steps.reads

-- how many captures have ended
abbrev pub captures_ended : StepsSeen → ℕ
captures_ended steps = sum_by (λ (r : Reading). if r.ended then 1 else 0) steps.reads

-- the most frames that were put on a link: two for each record, one for each capture's end, and the end of the link
abbrev pub most_put : StepsSeen → ℕ
most_put steps = 2 * records_read steps + captures_ended steps + (if steps.finished then 1 else 0)

-- ---- as it lies in memory

-- the captures of a parser, with what is seen of their sources
abbrev pub steps_of : Declared → (me parsers groupers : ℕ) → List OneCapture → List SourceSeen → (finished : Bool) → StepsSeen
steps_of job me parsers groupers captures sources finished = record {
  job = job;
  me = me;
  parsers = parsers;
  groupers = groupers;
  sources = sources;
  reads = map (reading_of job) captures;
  behind = map (λ (c : OneCapture). c.behind) captures;
  held = map (λ (c : OneCapture). bytes_held c.reading.reader) captures;
  finished = finished;
}

-- each stands and has its number, and has at most so many records as a file has
pub record AreCaptures (job : Declared) (me parsers : ℕ) (captures : List OneCapture) : Type 0 where
  pub stand : (i : ℕ) (d : OneCapture) → i < length captures → CaptureStands job (capture_in captures i d)
  pub own : (i : ℕ) (d : OneCapture) → i < length captures → capture_of (capture_in captures i d).tally ≡ me + i * parsers
  pub brief : (i : ℕ) (d : OneCapture) → i < length captures → records_taken (capture_in captures i d).tally ≤ capture_records

-- what a parser keeps of its captures, beside what is true of its links
pub record StepsStand (job : Declared) (me parsers groupers : ℕ) (captures : List OneCapture) (sources : List SourceSeen) : Type 0 where
  pub place : (me < parsers) × (parsers ≤ 16)
  pub few : groupers ≤ 16
  pub are : AreCaptures job me parsers captures
  pub as_many : length sources ≡ length captures
