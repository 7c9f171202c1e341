-- Counts of failures.
use Rattle.std.specs.Prelude.{ℕ, ◌≡◌, ◌<◌, ◌^◌, ◌-◌, ◌⊎◌}

-- the count of failures rose, or stands at the end of its type
abbrev pub Rose : ℕ → ℕ → Type 0
Rose old new = (old < new) ⊎ ((old ≡ 2 ^ 64 - 1) × (new ≡ old))

-- no failure was counted, and one would have been
abbrev pub IsQuiet : ℕ → ℕ → Type 0
IsQuiet old new = (new ≡ old) × (old < 2 ^ 64 - 1)
