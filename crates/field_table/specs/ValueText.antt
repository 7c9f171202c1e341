-- The text of a field's number.
use Rattle.std.specs.Prelude.{ℕ, ◌/◌, ◌%◌, ◌^◌, nat_lt, if◌then◌else◌, false, List, [], ◌∷◌, ◌++◌, codes, map}
use Rattle.std.specs.Fmt.{decimal, digits, digit_glyph}
use Rattle.std.specs.List.{join_with_byte}
use Rattle.field_table.specs.declared.forms.Form.{Form}
use Rattle.field_table.specs.declared.forms.Form.TheVariants.{Dec, Hex, Mac, Addr4, Addr6}

-- the byte of a number from the bit k on, counted from the least
abbrev pub byte_at : ℕ → ℕ → ℕ
byte_at n k = n / 2 ^ k % 256

-- the group of 16 bits from the bit k on
abbrev pub group_at : ℕ → ℕ → ℕ
group_at n k = n / 2 ^ k % 65536

-- two lower-case hexadecimal digits
abbrev pub hex_pair : ℕ → List ℕ
hex_pair byte = digit_glyph false (byte / 16) ∷ digit_glyph false (byte % 16) ∷ []

-- four lower-case hexadecimal digits
abbrev pub hex_group : ℕ → List ℕ
hex_group group = hex_pair (group / 256) ++ hex_pair (group % 256)

-- `0x` and the digits
abbrev pub hex_text : ℕ → List ℕ
hex_text n = codes "0x" ++ digits 16 false n

-- six bytes, two digits each, with `:` between them
abbrev pub mac_text : ℕ → List ℕ
mac_text n = join_with_byte 58 (map (λ k. hex_pair (byte_at n k)) (40 ∷ 32 ∷ 24 ∷ 16 ∷ 8 ∷ 0 ∷ []))

-- four bytes in decimal with `.` between them
abbrev pub addr4_text : ℕ → List ℕ
addr4_text n = join_with_byte 46 (map (λ k. decimal (byte_at n k)) (24 ∷ 16 ∷ 8 ∷ 0 ∷ []))

-- eight groups, four digits each, with `:` between them
abbrev pub addr6_text : ℕ → List ℕ
addr6_text n =
    join_with_byte 58 (map (λ k. hex_group (group_at n k)) (112 ∷ 96 ∷ 80 ∷ 64 ∷ 48 ∷ 32 ∷ 16 ∷ 0 ∷ []))

-- a number in a form, and in decimal where it does not fit the form
unfoldable pub value_text : Form → ℕ → List ℕ
value_text Dec n = decimal n
value_text Hex n = hex_text n
value_text Mac n = if nat_lt n (2 ^ 48) then mac_text n else decimal n
value_text Addr4 n = if nat_lt n (2 ^ 32) then addr4_text n else decimal n
value_text Addr6 n = addr6_text n
