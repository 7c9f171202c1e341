-- A set with one bit more.
use Rattle.std.proofs.Common.{ℕ, ◌<◌, ◌^◌, arith}
use Rattle.std.specs.Prelude.{bit_or}
use Rattle.std.proofs.lemmas.Nat.{or_lt, le_or_r, pow_pos}
use Rattle.std.proofs.Math.Pow.{pow-lt}

pub bit_within : (set n most : ℕ) → set < 2 ^ most → n < most → bit_or set (2 ^ n) < 2 ^ most
bit_within set n most h less = or_lt most set (2 ^ n) h (pow-lt less)

pub bit_some : (set n : ℕ) → 0 < bit_or set (2 ^ n)
bit_some set n = omega (arith, le_or_r set (2 ^ n), pow_pos n)
