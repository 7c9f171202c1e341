-- What a word of a command line may be.
use Rattle.std.specs.Prelude.{ℕ, List, [], ◌∷◌, ◌≡◌, ◌≢◌, ◌≤◌, ◌-◌, length, map}
use Rattle.std.specs.Char.{IsAsciiDigit}
use Rattle.std.specs.List.{All}
use Rattle.std.specs.Int.Digits.{number_from_digits}
use Rattle.field_table.specs.declared.field_ref.FieldRef.{FieldRef}
use Rattle.field_table.specs.FieldText.{field_text}
use Rattle.command_words.specs.declared.kind.WordKind.{WordKind}
use Rattle.command_words.specs.declared.kind.WordKind.TheVariants.{Field, Number, File}

-- the digits say this number: 1 to 20 of them, zeros in front allowed
pub record IsNumber (digits : List ℕ) (n : ℕ) : Type 0 where
  pub some : 1 ≤ length digits
  pub few : length digits ≤ 20
  pub each : All IsAsciiDigit digits
  pub value : n ≡ number_from_digits 10 (map (λ d. d - 48) digits)

-- a word that a command or an option needs: not empty, and it does not begin with `-`
abbrev pub IsRequired : List ℕ → Type 0
IsRequired [] = ⊥
IsRequired (first ∷ rest) = first ≢ 45

-- a word of this kind: the text of a field, a number in its limits, or any name of a file
abbrev pub HasKind : WordKind → List ℕ → Type 0
HasKind Field word = (f : FieldRef) × (word ≡ field_text f)
HasKind (Number least most) word = (n : ℕ) × IsNumber word n × (least ≤ n) × (n ≤ most)
HasKind File word = Unit {0}
