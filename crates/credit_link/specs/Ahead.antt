-- What stands at the front of a receive buffer.
use Rattle.std.specs.Prelude.{ℕ, ◌≡◌, ◌≤◌, ◌<◌, ◌+◌, ◌⊎◌, List, length, take, drop}
use Rattle.byteorder.specs.Endian.{big_number}
use Rattle.credit_link.specs.declared.ahead.Ahead.{Ahead}
use Rattle.credit_link.specs.declared.ahead.Ahead.TheVariants.{Part, Unlawful, Whole}

-- the length word at the front, in four bytes
unfoldable pub length_word : List ℕ → ℕ
length_word bytes = big_number 4 bytes

-- no further whole frame is there, and its length word, if that is there, is lawful
abbrev pub IsPart : List ℕ → Type 0
IsPart bytes = (length bytes < 4) ⊎ ((1 ≤ length_word bytes) × (length_word bytes ≤ 1024) × (length bytes < 4 + length_word bytes))

-- the length word is 0 or above 1,024
abbrev pub IsUnlawful : List ℕ → (len : ℕ) → Type 0
IsUnlawful bytes len = (4 ≤ length bytes) × (len ≡ length_word bytes) × ((len ≡ 0) ⊎ (1024 < len))

-- a whole frame of this length is there
pub record HasWhole (bytes : List ℕ) (len : ℕ) : Type 0 where
  pub word : len ≡ length_word bytes
  pub lawful : (1 ≤ len) × (len ≤ 1024)
  pub whole : 4 + len ≤ length bytes

abbrev pub payload_ahead : List ℕ → (len : ℕ) → List ℕ
payload_ahead bytes len = take len (drop 4 bytes)

abbrev pub Shows : List ℕ → Ahead → Type 0
Shows bytes Part = IsPart bytes
Shows bytes (Unlawful len) = IsUnlawful bytes len
Shows bytes (Whole len) = HasWhole bytes len
