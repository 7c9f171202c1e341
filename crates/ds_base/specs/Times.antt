-- Lengths of time, in nanoseconds.
use Rattle.std.specs.Prelude.{ℕ}

-- an hour: no window and no skew is longer
abbrev pub hour : ℕ
hour = 3600000000000
