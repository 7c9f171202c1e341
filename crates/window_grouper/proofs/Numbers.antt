-- Groups are numbered modulo 2^64, and so is the count of those that were given out.
use Rattle.std.proofs.Common.{ℕ, suc, ◌≡◌, ◌≢◌, ◌<◌, ◌+◌, ◌%◌, ◌^◌, arith}
use Rattle.window_grouper.specs.Placing.{place_of}

-- the next number is that of the place behind all groups held
pub place-begun : (given held : ℕ) → given < 2 ^ 64 → held < 2 ^ 64 → place_of given ((given + held) % 2 ^ 64) ≡ held
place-begun given held g h = omega arith

-- one more group given out brings each of the others one place forward
pub place-next : (given number p : ℕ) → given < 2 ^ 64 → place_of given number ≡ suc p → place_of ((given + 1) % 2 ^ 64) number ≡ p
place-next given number p g h = omega arith

pub place-first : (given : ℕ) → given < 2 ^ 64 → place_of given given ≡ 0
place-first given g = omega arith

-- only one number is at the first place
pub place-last : (given number : ℕ) → given < 2 ^ 64 → number < 2 ^ 64 → number ≢ given
    → place_of given number ≡ suc (place_of ((given + 1) % 2 ^ 64) number)
place-last given number g n other = omega arith
