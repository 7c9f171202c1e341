-- The records of a capture file (libpcap file format 2.4), which follow its header one after another: 16 bytes
-- with seconds, fraction, captured length and original length, and the captured bytes.
use Rattle.std.specs.Prelude.{◌≡◌, ◌<◌, ℕ, zero, suc, ◌+◌, ◌*◌, List, [], ◌∷◌, Bool, true, false, length, take, drop, Option, Some, None, Result, MatchOption, MatchResult, nat_lt, nat_le, ◌&&◌, if◌then◌else◌}
use Rattle.ds_base.specs.declared.capture.Bad.{Bad}
use Rattle.ds_base.specs.declared.capture.PcapFault.TheVariants.{TooLong, TooMany}
use Rattle.pcap_reader.specs.declared.format.Format.{Format}
use Rattle.pcap_reader.specs.Captured.{Captured}
use Rattle.pcap_reader.specs.Format.{word, nanos_of, bad_at, is_short_header}

-- how many bytes of a packet are captured at most
abbrev pub longest : ℕ
longest = 262144

-- how many records a file has at most
abbrev pub most_records : ℕ
most_records = 1099511627776

-- the captured length that the record at the front of the bytes states
abbrev pub captured_length : Format → List ℕ → ℕ
captured_length format bytes = word format.endian bytes 8

-- the length of that record, with its header
abbrev pub record_length : Format → List ℕ → ℕ
record_length format bytes = 16 + captured_length format bytes

-- whether a whole record of lawful length stands at the front of the bytes
unfoldable pub begins_record : Format → List ℕ → Bool
begins_record format bytes =
    nat_le 16 (length bytes) && (nat_le (captured_length format bytes) longest && nat_le (record_length format bytes) (length bytes))

-- the time of the record that the slice is; a fraction past one second is taken as written
abbrev pub time_of : Format → List ℕ → ℕ
time_of format slice = word format.endian slice 0 * 1000000000 + word format.endian slice 4 * nanos_of format.precision

-- what the record that the slice is shows
unfoldable pub shown : Format → ℕ → List ℕ → Captured
shown format number slice =
    record { number = number; time = time_of format slice; link = format.link; orig = word format.endian slice 12; bytes = drop 16 slice }

-- the record at the front of the bytes
abbrev pub first_record : Format → ℕ → List ℕ → Captured
first_record format number bytes = shown format number (take (record_length format bytes) bytes)

-- the whole records at the front of the bytes, at most so many, numbered from `number` on
unfoldable pub whole_records : Format → (most number : ℕ) → List ℕ → List Captured
whole_records format zero number bytes = []
whole_records format (suc most) number bytes =
    if begins_record format bytes
    then first_record format number bytes ∷ whole_records format most (suc number) (drop (record_length format bytes) bytes)
    else []

-- what stands after them
unfoldable pub behind_records : Format → (most : ℕ) → List ℕ → List ℕ
behind_records format zero bytes = bytes
behind_records format (suc most) bytes =
    if begins_record format bytes then behind_records format most (drop (record_length format bytes) bytes) else bytes

-- What is wrong after the whole records, of which there are `count`: `at` is where the rest begins.
unfoldable pub record_fault : Format → (count at : ℕ) → List ℕ → Option Bad
record_fault format count at rest =
    if nat_lt count most_records
    then (if nat_le 16 (length rest) && nat_lt longest (captured_length format rest)
    then Some (bad_at (at + 8) (TooLong count (captured_length format rest))) else None)
    else (if nat_lt 0 (length rest) then Some (bad_at at TooMany) else None)

-- no whole record that may still come stands at the front
abbrev pub IsLast : Format → (count : ℕ) → List ℕ → Type 0
IsLast format count rest = count < most_records → begins_record format rest ≡ false

-- What a look at the front of the rest answers: the length of the whole record there, that there is none,
-- or the malformed place.
abbrev pub Finds : Format → (count at : ℕ) → List ℕ → Result (Option ℕ) Bad → Type 0
Finds format count at rest found = MatchResult found
    (λ o. MatchOption o
    (IsLast format count rest × (record_fault format count at rest ≡ None))
    (λ n. (count < most_records) × (begins_record format rest ≡ true) × (n ≡ record_length format rest)))
    (λ b. IsLast format count rest × (record_fault format count at rest ≡ Some b) × (is_short_header b.what ≡ false))
