-- What is known of one capture of a parser, and what a step with it does.
use Rattle.std.specs.Prelude.{ℕ, ◌≡◌, ◌≤◌, ◌<◌, ◌+◌, ◌^◌, ◌++◌, Bool, true, IsTrue, List, [], ◌∷◌, Option, length, take, option_to_list}
use Rattle.ds_base.specs.Faults.{Rose}
use Rattle.ds_base.specs.Outside.{SourceSeen}
use Rattle.ds_base.specs.declared.capture.Counts.{Counts}
use Rattle.ds_base.specs.declared.summary.Summary.{Summary}
use Rattle.key_select.specs.Fates.{accepted_after, counts_of}
use Rattle.key_select.specs.Times.{record_time}
use Rattle.key_select.specs.Tally.{Tallies, capture_of, records_taken}
use Rattle.key_select.specs.Wanted.{wanted_of, good_of}
use Rattle.pcap_reader.specs.Captured.{Captured}
use Rattle.pcap_reader.specs.Lent.{IsLawful}
use Rattle.pcap_reader.specs.Reader.{StandsFor, bytes_held}
use Rattle.round_law.specs.Measure.{capture_bytes, piece_bytes}
use Rattle.run_law.specs.Nodes.{Reading, IsWhole}
use Rattle.run_law.specs.Shapes.{IsFront}
use Rattle.summary_spec.specs.Declaration.{Declared}
use Rattle.net_law.specs.Parsers.{IsMalformed}
use Rattle.parser_captures.specs.declared.capture.CaptureStop.{CaptureStop}
use Rattle.parser_captures.specs.declared.capture.CaptureStop.TheVariants.{Malformed, Unread, OutOfMemory}
use Rattle.parser_captures.specs.declared.capture.OneCapture.{OneCapture}
use Rattle.parser_captures.specs.declared.capture.Step.{Step}
use Rattle.parser_captures.specs.declared.capture.Step.TheVariants.{Took, Bytes, End}

-- more bytes than are in memory for a capture when `next` has answered None, and one piece more
unfoldable pub most_held : ℕ
most_held = 16781311

-- the first records of these bytes of the capture
abbrev pub first_records : Declared → (capture : ℕ) → (bytes : List ℕ) → (count : ℕ) → List Captured
first_records job capture bytes count = take count (good_of job capture bytes).records

-- what was read of it: the records taken up are the first ones of the bytes read
abbrev pub reading_of : Declared → OneCapture → Reading
reading_of job c = record {
  bytes = c.bytes.items;
  ended = c.ended;
  records = first_records job (capture_of c.tally) c.bytes.items (records_taken c.tally);
}

-- The reader was fed the bytes read and has given the records taken up, and the tally is of these.
pub record CaptureStands (job : Declared) (c : OneCapture) : Type 0 where
  pub stands : StandsFor (wanted_of job (capture_of c.tally)) c.reading.reader c.bytes.items (reading_of job c).records
  pub tallies : Tallies job (capture_of c.tally) c.tally (reading_of job c).records
  pub behind : c.behind ≤ records_taken c.tally
  pub asks : c.reading.piece ≡ 4096
  pub read : length c.bytes.items ≤ capture_bytes + piece_bytes
  pub held : bytes_held c.reading.reader ≤ most_held

-- what was read is the front of the source's file, and the rest is left
abbrev pub IsLeft : (bytes : List ℕ) → SourceSeen → Type 0
IsLeft bytes source = IsTrue source.told → source.whole ≡ bytes ++ source.left

-- one record more was taken up, and its summary was found where it is accepted
pub record TakesRecord (job : Declared) (old new : OneCapture) (found : Option Summary) : Type 0 where
  pub stands : CaptureStands job new
  pub taken : Captured
  pub reading : reading_of job new ≡ record (reading_of job old) { records = (reading_of job old).records ++ taken ∷ [] }
  pub accepted : option_to_list found ≡ accepted_after job (capture_of old.tally) (reading_of job old).records (taken ∷ [])
  pub lawful : IsLawful taken
  pub early : record_time job (capture_of old.tally) taken < 2 ^ 63
  pub behind : new.behind ≡ old.behind + 1

-- a piece more was read
pub record ReadsPiece (job : Declared) (old new : OneCapture) (before after : SourceSeen) : Type 0 where
  pub stands : CaptureStands job new
  pub piece : List ℕ
  pub some : 0 < length piece
  pub reading : reading_of job new ≡ record (reading_of job old) { bytes = (reading_of job old).bytes ++ piece }
  pub behind : new.behind ≡ old.behind
  pub left : IsLeft new.bytes.items after

-- the source is at its end, and all records were taken up
pub record EndsWhole (job : Declared) (old new : OneCapture) (before after : SourceSeen) (counts : Counts) : Type 0 where
  pub stands : CaptureStands job new
  pub reading : reading_of job new ≡ record (reading_of job old) { ended = true }
  pub whole : IsWhole job (capture_of old.tally) (reading_of job new)
  pub fared : counts ≡ counts_of job (capture_of old.tally) (reading_of job new).records (good_of job (capture_of old.tally) new.bytes.items).cut
  pub behind : new.behind ≡ old.behind
  pub left : IsLeft new.bytes.items after
  pub all : IsTrue before.told → before.whole ≡ new.bytes.items

-- what a step does, by its answer
abbrev pub Advances : Declared → (old new : OneCapture) → (before after : SourceSeen) → Step → Type 0
Advances job old new before after (Took found) = (after ≡ before) × TakesRecord job old new found
Advances job old new before after Bytes = (after.faults ≡ before.faults) × ReadsPiece job old new before after
Advances job old new before after (End counts) = (after.faults ≡ before.faults) × EndsWhole job old new before after counts

-- no more was read, and no record taken up
pub record StaysAs (job : Declared) (old new : OneCapture) : Type 0 where
  pub stands : CaptureStands job new
  pub bytes : new.bytes.items ≡ old.bytes.items
  pub records : records_taken new.tally ≡ records_taken old.tally
  pub behind : new.behind ≡ old.behind

-- Why a capture goes no further: its bytes are malformed whatever follows, or its source ended too early; a read
-- failed; or no memory for a piece, which is lost.
abbrev pub StopsBy : Declared → (old new : OneCapture) → (before after : SourceSeen) → CaptureStop → Type 0
StopsBy job old new before after (Malformed bad) =
    (after.faults ≡ before.faults) × StaysAs job old new × IsMalformed job (capture_of old.tally) (reading_of job new) bad
    × IsLeft new.bytes.items after
    × (new.ended ≡ true → IsTrue before.told → before.whole ≡ new.bytes.items)
StopsBy job old new before after Unread =
    Rose before.faults after.faults × StaysAs job old new × (new.ended ≡ old.ended) × IsLeft new.bytes.items after
StopsBy job old new before after OutOfMemory = (after.faults ≡ before.faults) × StaysAs job old new × (new.ended ≡ old.ended)
