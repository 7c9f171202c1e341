-- How lines begin.
use Rattle.std.specs.Prelude.{ℕ, ◌+◌, ◌==◌, ◌&&◌, Bool, List, [], ◌∷◌, if◌then◌else◌}

-- how many lines begin with this byte, where the first byte is the first of a line or is not
abbrev pub lines_with : (byte : ℕ) → (is_start : Bool) → List ℕ → ℕ
lines_with byte is_start [] = 0
lines_with byte is_start (b ∷ bs) =
    if is_start && b == byte then 1 + lines_with byte (b == 10) bs else lines_with byte (b == 10) bs
