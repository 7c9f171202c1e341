-- The options of a block (pcapng specification section 3.5): code, length and value, padded to a multiple of 4.
use Rattle.std.specs.Prelude.{ℕ, zero, suc, ◌+◌, List, length, drop, Option, Some, None, Bool, nat_lt, ◌==◌, ◌&&◌, ◌||◌, if◌then◌else◌}
use Rattle.capture_bytes.specs.declared.endian.Endian.{Endian}
use Rattle.capture_bytes.specs.Number.{number}
use Rattle.pcapng_reader.specs.Blocks.{padded}

abbrev pub option_code : Endian → List ℕ → ℕ
option_code order bytes = number order 2 bytes 0

abbrev pub option_length : Endian → List ℕ → ℕ
option_length order bytes = number order 2 bytes 2

-- how many bytes the option at the front takes
abbrev pub option_size : Endian → List ℕ → ℕ
option_size order bytes = 4 + padded (option_length order bytes)

-- the options end at code 0, or where the next does not fit
unfoldable pub ends_options : Endian → List ℕ → Bool
ends_options order bytes =
    nat_lt (length bytes) 4 || ((option_code order bytes == 0) || nat_lt (length bytes) (option_size order bytes))

-- it has this code and this length
abbrev pub is_option : Endian → (code len : ℕ) → List ℕ → Bool
is_option order code len bytes = (option_code order bytes == code) && (option_length order bytes == len)

-- where the value of the first option with this code and this length begins, of at most so many options; `at` is
-- where the bytes begin
unfoldable pub option_at : Endian → (code len : ℕ) → (most at : ℕ) → List ℕ → Option ℕ
option_at order code len zero at bytes = None
option_at order code len (suc most) at bytes =
    if ends_options order bytes then None
    else (if is_option order code len bytes then Some (at + 4)
    else option_at order code len most (at + option_size order bytes) (drop (option_size order bytes) bytes))

-- the same of all options of a block, whose bytes are given up to the end of the options, from `at` on
abbrev pub find_option : Endian → (code len : ℕ) → (at : ℕ) → List ℕ → Option ℕ
find_option order code len at block = option_at order code len (length block) at (drop at block)
