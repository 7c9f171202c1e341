-- The time of a packet (pcapng specification sections 4.2 and 4.3).
use Rattle.std.specs.Prelude.{ℕ, ◌+◌, ◌-◌, ◌*◌, ◌/◌, ◌^◌, Bool, Option, Some, None, nat_lt, not, if◌then◌else◌}

-- no time is as late as this, so that an hour more stays below 2^63
abbrev pub latest : ℕ
latest = 2 ^ 63 - 3600000000000

-- units of 10^-r seconds below 128, else of 2^-(r - 128) seconds
abbrev pub is_lawful_resolution : ℕ → Bool
is_lawful_resolution r = if nat_lt r 128 then not (nat_lt 30 r) else not (nat_lt 191 r)

-- the whole nanoseconds in a number of units, rounded down
unfoldable pub nanoseconds : (resolution units : ℕ) → ℕ
nanoseconds resolution units =
    if nat_lt resolution 128
    then units * 1000000000 / 10 ^ resolution
    else units * 1000000000 / 2 ^ (resolution - 128)

-- a time where it is in range
abbrev pub in_range : ℕ → Option ℕ
in_range time = if nat_lt time latest then Some time else None

-- A time with seconds added to it; 64 bits of two's complement hold them.
unfoldable pub shifted : (nanos seconds : ℕ) → Option ℕ
shifted nanos seconds =
    if nat_lt seconds (2 ^ 63)
    then in_range (nanos + seconds * 1000000000)
    else (if nat_lt nanos ((2 ^ 64 - seconds) * 1000000000)
    then None
    else in_range (nanos - (2 ^ 64 - seconds) * 1000000000))
