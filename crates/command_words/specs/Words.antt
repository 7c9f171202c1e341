-- What the words of the command line ask, and the place where they are refused.
use Rattle.std.specs.Prelude.{ℕ, List, [], ◌∷◌, ◌++◌, ◌≡◌, ◌<◌, ◌≤◌, ◌+◌, Option, Some, None, length, take}
use Rattle.field_table.specs.declared.field_ref.FieldRef.{FieldRef}
use Rattle.field_table.specs.FieldText.{field_text}
use Rattle.command_words.specs.declared.command.Sizes.{Sizes}
use Rattle.command_words.specs.declared.table.Name.{Name}
use Rattle.command_words.specs.declared.table.Name.TheVariants.{Count, Stack, Check, Central, Run, Sample, Help, Version}
use Rattle.command_words.specs.Kinds.{IsNumber}
use Rattle.command_words.specs.CommandTable.{command_word}
use Rattle.command_words.specs.CommandLine.{Part, spell, plain_words, values_for, IsLine}

-- What is asked: `count` with its field, its window in nanoseconds and its file; `stack` with its
-- port, the field to print and its file; `check` with its job; `central` with its job; `run` with its job and the sizes
-- of its pipeline; `sample` with its number and these sizes.
pub data Asked : Type 0 where
  AskedCount : FieldRef → ℕ → List ℕ → Asked
  AskedStack : ℕ → Option FieldRef → List ℕ → Asked
  AskedCheck : List ℕ → Asked
  AskedCentral : List ℕ → Asked
  AskedRun : List ℕ → Sizes → Asked
  AskedSample : ℕ → Sizes → Asked
  AskedHelp : Asked
  AskedVersion : Asked

abbrev pub command_of : Asked → Name
command_of (AskedCount field window file) = Count
command_of (AskedStack port field file) = Stack
command_of (AskedCheck job) = Check
command_of (AskedCentral job) = Central
command_of (AskedRun job sizes) = Run
command_of (AskedSample number sizes) = Sample
command_of AskedHelp = Help
command_of AskedVersion = Version

-- the number that an option is given, or what it is where the option is absent
abbrev pub NumberOr : ℕ → List (List ℕ) → ℕ → Type 0
NumberOr absent [] n = n ≡ absent
NumberOr absent (value ∷ values) n = IsNumber value n

-- the field that an option is given, or none where the option is absent
abbrev pub FieldOr : List (List ℕ) → Option FieldRef → Type 0
FieldOr [] None = Unit {0}
FieldOr [] (Some f) = ⊥
FieldOr (value ∷ values) None = ⊥
FieldOr (value ∷ values) (Some f) = value ≡ field_text f

-- the sizes of a pipeline, by the values of `size_options` in their order
pub record HasSizes (values : ℕ → List (List ℕ)) (sizes : Sizes) : Type 0 where
  pub parsers : NumberOr 2 (values 0) sizes.parsers
  pub groupers : NumberOr 2 (values 1) sizes.groupers
  pub processors : NumberOr 2 (values 2) sizes.processors
  pub credits : NumberOr 16 (values 3) sizes.credits

-- The needed words, and the values of the options by their numbers in the row, say what is asked:
-- of `stack`, option 0 is the port and option 1 the field.
abbrev pub Means : Asked → List (List ℕ) → (ℕ → List (List ℕ)) → Type 0
Means (AskedCount field window file) plain values =
    (digits : List ℕ) × (plain ≡ field_text field ∷ digits ∷ file ∷ []) × IsNumber digits window
Means (AskedStack port field file) plain values = (plain ≡ file ∷ []) × NumberOr 4789 (values 0) port × FieldOr (values 1) field
Means (AskedCheck job) plain values = plain ≡ job ∷ []
Means (AskedCentral job) plain values = plain ≡ job ∷ []
Means (AskedRun job sizes) plain values = (plain ≡ job ∷ []) × HasSizes values sizes
Means (AskedSample number sizes) plain values = ((digits : List ℕ) × (plain ≡ digits ∷ []) × IsNumber digits number) × HasSizes values sizes
Means AskedHelp plain values = Unit {0}
Means AskedVersion plain values = Unit {0}

-- what this command asks, by its needed words and the values of its options
abbrev pub Says : Name → List (List ℕ) → (ℕ → List (List ℕ)) → Asked → Type 0
Says command plain values asked = (command_of asked ≡ command) × Means asked plain values

-- the words are accepted, and ask this
pub record Accepts (words : List (List ℕ)) (asked : Asked) : Type 0 where
  pub parts : List Part
  pub spelled : words ≡ command_word (command_of asked) ∷ spell (command_of asked) parts
  pub line : IsLine (command_of asked) parts
  pub means : Means asked (plain_words parts) (λ k. values_for k parts)

-- some rest makes these words accepted
abbrev pub Begins : List (List ℕ) → Type 0
Begins words = (rest : List (List ℕ)) × (asked : Asked) × Accepts (words ++ rest) asked

-- The place where the words are refused: the words before it begin an accepted list, and with the
-- word there they do not; or it is their number, and all of them begin one and are none themselves.
pub record IsPlace (words : List (List ℕ)) (place : ℕ) : Type 0 where
  pub within : place ≤ length words
  pub begun : Begins (take place words)
  pub ended : place < length words → Begins (take (place + 1) words) → ⊥
  pub none : (asked : Asked) → Accepts words asked → ⊥
