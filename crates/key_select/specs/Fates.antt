-- What becomes of the records of a capture: which give no summary, which of the others come too late,
-- and which are accepted.
use Rattle.std.specs.Prelude.{ℕ, List, [], ◌∷◌, ◌++◌, Bool, true, false, length, count_by, Option, Some, None}
use Rattle.ds_base.specs.declared.capture.Counts.{Counts}
use Rattle.ds_base.specs.declared.summary.Summary.{Summary}
use Rattle.pcap_reader.specs.Captured.{Captured}
use Rattle.summary_spec.specs.Declaration.{Declared}
use Rattle.key_select.specs.Sum.{sum_of}
use Rattle.key_select.specs.Late.{comes_late}

pub data Fate : Type 0 where
  Unmatched : Fate
  Late : Fate
  Accepted : Summary → Fate

-- what becomes of a record by its summary, and by whether it comes too late
abbrev pub fate_by : Option Summary → (late : Bool) → Fate
fate_by None late = Unmatched
fate_by (Some s) true = Late
fate_by (Some s) false = Accepted s

-- what becomes of a record of the capture that comes after these
abbrev pub fate_of : Declared → (capture : ℕ) → (earlier : List Captured) → Captured → Fate
fate_of job capture earlier r = fate_by (sum_of job capture r) (comes_late job capture earlier r)

-- what becomes of records that come after these
abbrev pub fates_after : Declared → (capture : ℕ) → (earlier rs : List Captured) → List Fate
fates_after job capture earlier [] = []
fates_after job capture earlier (r ∷ rs) =
    fate_of job capture earlier r ∷ fates_after job capture (earlier ++ r ∷ []) rs

-- what becomes of all records of a capture
abbrev pub fates_of : Declared → (capture : ℕ) → List Captured → List Fate
fates_of job capture rs = fates_after job capture [] rs

abbrev pub is_unmatched : Fate → Bool
is_unmatched Unmatched = true
is_unmatched Late = false
is_unmatched (Accepted s) = false

abbrev pub is_too_late : Fate → Bool
is_too_late Unmatched = false
is_too_late Late = true
is_too_late (Accepted s) = false

-- the summaries of the accepted records, in their order
abbrev pub summaries_of : List Fate → List Summary
summaries_of [] = []
summaries_of (Unmatched ∷ fates) = summaries_of fates
summaries_of (Late ∷ fates) = summaries_of fates
summaries_of (Accepted s ∷ fates) = s ∷ summaries_of fates

-- the accepted summaries of records that come after these, in their order
abbrev pub accepted_after : Declared → (capture : ℕ) → (earlier rs : List Captured) → List Summary
accepted_after job capture earlier rs = summaries_of (fates_after job capture earlier rs)

-- the accepted summaries of the records of a capture, in their order
abbrev pub accepted_of : Declared → (capture : ℕ) → List Captured → List Summary
accepted_of job capture rs = accepted_after job capture [] rs

-- how the records of a capture fared
abbrev pub counts_of : Declared → (capture : ℕ) → List Captured → (cut : Bool) → Counts
counts_of job capture rs cut = record {
  records = length rs;
  unmatched = count_by is_unmatched (fates_of job capture rs);
  late = count_by is_too_late (fates_of job capture rs);
  accepted = length (accepted_of job capture rs);
  cut = cut;
}
