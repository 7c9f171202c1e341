-- Numbers in either order of bytes.
use Rattle.std.specs.Prelude.{ℕ, List, take, drop}
use Rattle.byteorder.specs.Endian.{big_number, little_number}
use Rattle.capture_bytes.specs.declared.endian.Endian.{Endian}
use Rattle.capture_bytes.specs.declared.endian.Endian.TheVariants.{Little, Big}

-- the number that n bytes from a place on spell
unfoldable pub number : Endian → ℕ → List ℕ → ℕ → ℕ
number Little n bytes at = little_number n (take n (drop at bytes))
number Big n bytes at = big_number n (take n (drop at bytes))
