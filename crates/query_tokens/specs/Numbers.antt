-- Numbers as tokens: their bytes, and the forms that are lawful.
use Rattle.std.specs.Prelude.{ℕ, ◌+◌, ◌-◌, ◌*◌, ◌^◌, Bool, ◌&&◌, ◌||◌, List, length, drop, Option, Some, None, nat_lt, nat_le, ◌==◌, if◌then◌else◌, option_and_then, option_map, slice_index}
use Rattle.std.specs.List.{list_all, before_first, after_first, position_or_len}
use Rattle.std.specs.Option.{option_or}
use Rattle.std.specs.Char.{digit_value}
use Rattle.std.specs.Str.Parse.{digits_value}

-- `0-9`
abbrev pub is_digit : ℕ → Bool
is_digit b = nat_le 48 b && nat_le b 57

-- `A-Z a-z`
abbrev pub is_letter : ℕ → Bool
is_letter b = (nat_le 65 b && nat_le b 90) || (nat_le 97 b && nat_le b 122)

-- what a token that begins with a digit goes on over: digits, letters and `.`
abbrev pub is_number_byte : ℕ → Bool
is_number_byte b = is_digit b || is_letter b || b == 46

-- each of these is a digit of the base; the letters that are digits are of either case
abbrev pub all_digits : ℕ → List ℕ → Bool
all_digits base ds = list_all (λ b. nat_lt (digit_value b) base) ds

-- the number that the digits of this base write, if they are such and it is at most `most`
abbrev pub numeral : ℕ → ℕ → List ℕ → Option ℕ
numeral base most ds =
    if all_digits base ds && nat_le (digits_value base ds) most then Some (digits_value base ds) else None

-- `0x` with 1 to 32 hexadecimal digits
abbrev pub hexadecimal : List ℕ → Option ℕ
hexadecimal run =
    if nat_le 3 (length run) && nat_le (length run) 34 && slice_index run 0 == 48 && slice_index run 1 == 120
    then numeral 16 (2 ^ 128 - 1) (drop 2 run) else None

-- a decimal number of 1 to 3 digits, at most 255
abbrev pub octet : List ℕ → Option ℕ
octet ds = if nat_le 1 (length ds) && nat_le (length ds) 3 then numeral 10 255 ds else None

abbrev pub is_dot : ℕ → Bool
is_dot b = b == 46

-- an octet and a dot, and what stands behind that dot
abbrev pub octet_and_dot : List ℕ → Option (ℕ × List ℕ)
octet_and_dot run =
    if nat_lt (position_or_len is_dot run) (length run)
    then option_map (λ n. (n, after_first is_dot run)) (octet (before_first is_dot run)) else None

-- four octets with dots between them: the number of the four bytes, big-endian
abbrev pub dotted : List ℕ → Option ℕ
dotted run =
    option_and_then (λ a. option_and_then (λ b. option_and_then (λ c.
    option_map (λ d. ((a.0 * 256 + b.0) * 256 + c.0) * 256 + d) (octet c.1))
    (octet_and_dot b.1)) (octet_and_dot a.1)) (octet_and_dot run)

-- the number of a token that begins with a digit, if it has a lawful form: decimal digits,
-- hexadecimal digits behind `0x`, or four octets, and below 2^128
abbrev pub number_of : List ℕ → Option ℕ
number_of run = option_or (numeral 10 (2 ^ 128 - 1) run) (option_or (hexadecimal run) (dotted run))
