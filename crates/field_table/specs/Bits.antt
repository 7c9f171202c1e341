-- Bits of bytes, as numbers.
use Rattle.std.specs.Prelude.{ℕ, ◌+◌, ◌-◌, ◌*◌, ◌/◌, ◌%◌, ◌^◌, List, length}
use Rattle.std.specs.Int.Digits.{number_from_digits}

-- The number of some bits of some bytes, the most significant first. Bits are counted from 0, the most
-- significant bit of the first byte: of the number of all bytes, the bits after are divided away, and
-- those before are left out.
unfoldable pub number_of_bits : List ℕ → ℕ → ℕ → ℕ
number_of_bits bytes first count =
    number_from_digits 256 bytes / 2 ^ (8 * length bytes - (first + count)) % 2 ^ count
