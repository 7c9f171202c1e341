-- Which records come too late.
use Rattle.std.specs.Prelude.{ℕ, ◌+◌, ◌-◌, Bool, false, nat_lt, List, map, Option, None, Some}
use Rattle.std.specs.Option.{option_map_or}
use Rattle.pcap_reader.specs.Captured.{Captured}
use Rattle.query_lang.specs.Groups.{greatest}
use Rattle.summary_spec.specs.Declaration.{Declared}
use Rattle.key_select.specs.Times.{record_time, capture_skew}

-- the greatest time of these records of a capture, if there is one
abbrev pub greatest_time : Declared → (capture : ℕ) → List Captured → Option ℕ
greatest_time job capture rs = greatest (map (record_time job capture) rs)

-- the time is less than the newest by more than the skew
abbrev pub is_late : (time skew : ℕ) → (newest : Option ℕ) → Bool
is_late time skew newest = option_map_or (λ n. nat_lt (time + skew) n) newest false

-- the time of the record is less than the newest of the earlier ones by more than the skew
abbrev pub comes_late : Declared → (capture : ℕ) → (earlier : List Captured) → Captured → Bool
comes_late job capture earlier r =
    is_late (record_time job capture r) (capture_skew job capture) (greatest_time job capture earlier)

-- the newest time less the skew, never below 0
abbrev pub mark_by : (skew : ℕ) → (newest : Option ℕ) → ℕ
mark_by skew None = 0
mark_by skew (Some newest) = newest - skew

-- the mark of a capture after these records: no record that is accepted later has an earlier time
abbrev pub mark_of : Declared → (capture : ℕ) → List Captured → ℕ
mark_of job capture taken = mark_by (capture_skew job capture) (greatest_time job capture taken)
