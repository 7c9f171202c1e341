-- What is gathered of a capture while its source is read to its end.
use Rattle.std.specs.Prelude.{ℕ, ◌≡◌, ◌++◌, List, [], ◌∷◌, Some, None, IsTrue}
use Rattle.ds_base.specs.Faults.{Rose}
use Rattle.ds_base.specs.Outside.{SourceSeen}
use Rattle.ds_base.specs.declared.capture.Counts.{Counts}
use Rattle.ds_base.specs.declared.summary.Summary.{Summary}
use Rattle.input_files.specs.Reading.{Reading, HasRead}
use Rattle.input_files.specs.declared.fault.CaptureFault.{CaptureFault}
use Rattle.input_files.specs.declared.fault.CaptureFault.TheVariants.{Malformed, Unread, OutOfMemory}
use Rattle.key_select.specs.declared.tally.Tally.{Tally}
use Rattle.key_select.specs.Fates.{accepted_of, counts_of}
use Rattle.key_select.specs.Tally.{Tallies}
use Rattle.key_select.specs.Wanted.{wanted_of, good_of}
use Rattle.pcap_reader.specs.Captured.{Captured}
use Rattle.pcap_reader.specs.Format.{bad_at}
use Rattle.pcap_reader.specs.Good.{good}
use Rattle.pcap_reader.specs.Reader.{IsWaiting}
use Rattle.summary_spec.specs.Declaration.{Declared}

-- The tally is that of these records of the capture, and after `start` the list has their accepted summaries.
pub record Collects (job : Declared) (capture : ℕ) (tally : Tally) (start list : List Summary) (taken : List Captured) : Type 0 where
  pub tallies : Tallies job capture tally taken
  pub accepted : list ≡ start ++ accepted_of job capture taken

-- The source was read to its end: all records of what it gave were taken up, and where it tells, that is
-- the whole file.
pub record IsReadWhole (job : Declared) (capture : ℕ) (before after : SourceSeen) (reading : Reading) (tally : Tally) (start list : List Summary) : Type 0 where
  pub faults : after.faults ≡ before.faults
  pub waiting : IsWaiting reading.reader
  pub given : List ℕ
  pub read : HasRead (wanted_of job capture) reading after given (good_of job capture given).records
  pub collects : Collects job capture tally start list (good_of job capture given).records
  pub whole : IsTrue before.told → before.whole ≡ given

-- Why a capture was not read to its end: its first malformed place, a failed read, or no memory. Before and after
-- are the failures of its source, or those of the folder that takes it back.
abbrev pub StopsRead : SourceSeen → (before after : ℕ) → CaptureFault → Type 0
StopsRead source before after (Malformed at what) = (after ≡ before) × (IsTrue source.told → (good None source.whole).bad ≡ Some (bad_at at what))
StopsRead source before after Unread = Rose before after
StopsRead source before after OutOfMemory = after ≡ before

-- What was gathered of a whole capture file that is not malformed: after `start` the list has the accepted
-- summaries, and the counts say how the records fared.
pub record IsGathered (job : Declared) (capture : ℕ) (start list : List Summary) (fared : Counts) (bytes : List ℕ) : Type 0 where
  pub sound : (good None bytes).bad ≡ None
  pub accepted : list ≡ start ++ accepted_of job capture (good_of job capture bytes).records
  pub counts : fared ≡ counts_of job capture (good_of job capture bytes).records (good_of job capture bytes).cut

-- What was gathered is that of what the source gave, and where it tells, that is the whole file. Before and
-- after are the failures of the source, or those of the folder that takes it back.
pub record GathersAll (job : Declared) (capture : ℕ) (source : SourceSeen) (before after : ℕ) (start list : List Summary) (counts : Counts) : Type 0 where
  pub faults : after ≡ before
  pub given : List ℕ
  pub all : IsGathered job capture start list counts given
  pub whole : IsTrue source.told → source.whole ≡ given

-- The same, and the counts stand at the end of the list of them.
pub record GathersNext (job : Declared) (capture : ℕ) (source : SourceSeen) (before after : ℕ) (start list : List Summary) (earlier counts : List Counts) : Type 0 where
  pub fared : Counts
  pub gathers : GathersAll job capture source before after start list fared
  pub counted : counts ≡ earlier ++ fared ∷ []
