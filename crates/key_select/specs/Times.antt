-- The clocks of captures by a job: the times of a capture's records, and by how much they may come late.
use Rattle.std.specs.Prelude.{ℕ, ℤ, pos, negsuc, ◌+ℤ◌, get_or}
use Rattle.pcap_reader.specs.Captured.{Captured}
use Rattle.summary_spec.specs.Declaration.{Declared}

-- what is added to the times of the capture, in nanoseconds
abbrev pub capture_offset : Declared → (capture : ℕ) → ℤ
capture_offset job capture = get_or job.offsets capture (pos 0)

-- by how much, in nanoseconds, the time of a record of the capture may be less than one before it
abbrev pub capture_skew : Declared → (capture : ℕ) → ℕ
capture_skew job capture = get_or job.skews capture 0

-- a number, and 0 in the place of one below 0
abbrev pub or_zero : ℤ → ℕ
or_zero (pos n) = n
or_zero (negsuc n) = 0

-- a time plus an offset, or 0 where that sum is negative
abbrev pub moved : (offset : ℤ) → (time : ℕ) → ℕ
moved offset time = or_zero (pos time +ℤ offset)

-- the adjusted time: that of the capture's clock, moved by the capture's offset
abbrev pub adjusted : Declared → (capture time : ℕ) → ℕ
adjusted job capture time = moved (capture_offset job capture) time

-- the time of a record of the capture, in nanoseconds since 1970
abbrev pub record_time : Declared → (capture : ℕ) → Captured → ℕ
record_time job capture r = adjusted job capture r.time
