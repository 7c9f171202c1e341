-- Numbers as bytes.
use Rattle.std.specs.Prelude.{ℕ, List}
use Rattle.std.specs.Int.{bytes_high_first, bytes_low_first}

-- so many bytes of a number, the highest first, as headers have it
unfoldable pub big : (width n : ℕ) → List ℕ
big width n = bytes_high_first width n

-- so many bytes of a number, the lowest first, as the capture files have it
unfoldable pub little : (width n : ℕ) → List ℕ
little width n = bytes_low_first 0 width n
