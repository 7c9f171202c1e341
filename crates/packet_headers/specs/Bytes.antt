-- Numbers in the bytes of a header.
use Rattle.std.specs.Prelude.{ℕ, ◌+◌, ◌*◌, List, slice_index}

-- the 16 bits from a byte on, the most significant first
abbrev pub word : List ℕ → ℕ → ℕ
word bytes at = 256 * slice_index bytes at + slice_index bytes (at + 1)
