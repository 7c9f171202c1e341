-- Numbers drawn one after another: a linear congruential generator modulo 2^64, of whose states the upper 31 bits
-- are drawn (Knuth's MMIX generator).
use Rattle.std.specs.Prelude.{ℕ, zero, suc, ◌+◌, ◌*◌, ◌/◌, ◌%◌, ◌^◌}

-- the state behind a state
unfoldable pub following : ℕ → ℕ
following state = (state * 6364136223846793005 + 1442695040888963407) % 2 ^ 64

-- the state so many draws behind a state
unfoldable pub state_after : (draws state : ℕ) → ℕ
state_after zero state = state
state_after (suc draws) state = following (state_after draws state)

-- the number below n that a draw gives, which left this state
unfoldable pub number_of : (n state : ℕ) → ℕ
number_of n state = state / 2 ^ 33 % n

-- the number below n that draw k gives, counted from 0, of those that begin at a state
abbrev pub draw : (k n state : ℕ) → ℕ
draw k n state = number_of n (state_after (suc k) state)
