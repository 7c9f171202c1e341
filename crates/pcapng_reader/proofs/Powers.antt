-- Powers that divide.
use native.Mathlib.Numerals.{unary_clauses}
use Rattle.std.proofs.Common.{◌<◌, ℕ, zero, suc, ◌^◌, arith}

pub ten_positive : (n : ℕ) → 0 < 10 ^ n
ten_positive zero = omega arith
ten_positive (suc n) = simp unary_clauses (omega (arith, ten_positive n))
