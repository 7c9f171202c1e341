-- What a tally says of the records that it took up.
use Rattle.std.specs.Prelude.{ℕ, List, ◌≡◌, ◌+◌, max, length, count_by, Option, None, Some}
use Rattle.pcap_reader.specs.Captured.{Captured}
use Rattle.summary_spec.specs.Declaration.{Declared}
use Rattle.key_select.specs.declared.tally.Tally.{Tally}
use Rattle.key_select.specs.Times.{capture_offset, capture_skew}
use Rattle.key_select.specs.Late.{greatest_time}
use Rattle.key_select.specs.Fates.{fates_of, accepted_of, is_unmatched, is_too_late}

-- the capture whose records a tally takes up
abbrev pub capture_of : Tally → ℕ
capture_of tally = tally.capture

-- the greatest adjusted time of the records that it took up, if there is one
abbrev pub newest_of : Tally → Option ℕ
newest_of tally = tally.newest

-- how many records it took up
abbrev pub records_taken : Tally → ℕ
records_taken tally = tally.records

-- the tally is that of these first records of the capture, by the job
pub record Tallies (job : Declared) (capture : ℕ) (tally : Tally) (taken : List Captured) : Type 0 where
  pub capture_is : tally.capture ≡ capture
  pub offset : tally.offset ≡ capture_offset job capture
  pub skew : tally.skew ≡ capture_skew job capture
  pub records : tally.records ≡ length taken
  pub unmatched : tally.unmatched ≡ count_by is_unmatched (fates_of job capture taken)
  pub late : tally.late ≡ count_by is_too_late (fates_of job capture taken)
  pub accepted : tally.accepted ≡ length (accepted_of job capture taken)
  pub newest : tally.newest ≡ greatest_time job capture taken

-- the greatest time after one record more
abbrev pub newest_after : (time : ℕ) → Option ℕ → Option ℕ
newest_after time None = Some time
newest_after time (Some newest) = Some (max newest time)

-- a record of this time was counted, and not yet what becomes of it
abbrev pub Passes : (time : ℕ) → (old new : Tally) → Type 0
Passes time old new = (new.capture ≡ old.capture)
    × (new.records ≡ old.records + 1)
    × (new.unmatched ≡ old.unmatched)
    × (new.late ≡ old.late)
    × (new.accepted ≡ old.accepted)
    × (new.newest ≡ newest_after time old.newest)
    × (new.offset ≡ old.offset)
    × (new.skew ≡ old.skew)
