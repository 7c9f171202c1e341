-- The commands: one row for each, with the words that it needs and the options that it has.
use Rattle.std.specs.Prelude.{ℕ, List, [], ◌∷◌, codes, map, slice_index_or}
use Rattle.ds_base.specs.Times.{hour}
use Rattle.command_words.specs.declared.kind.WordKind.{WordKind}
use Rattle.command_words.specs.declared.kind.WordKind.TheVariants.{Field, Number, File}
use Rattle.command_words.specs.declared.table.Name.{Name}
use Rattle.command_words.specs.declared.table.Name.TheVariants.{Count, Stack, Check, Central, Run, Sample, Help, Version}

-- the command's word; what the words that it needs may be, in order; and the word of each of its
-- options with what the option's value may be
pub record CommandRow : Type 0 where
  pub word : List ℕ
  pub plain : List WordKind
  pub options : List (List ℕ × WordKind)

-- the options of a command that runs a pipeline: how many nodes it has of each kind, and how many credits each of its
-- links
abbrev pub size_options : List (List ℕ × WordKind)
size_options =
    (codes "--parsers", Number 1 16) ∷ (codes "--groupers", Number 1 16) ∷ (codes "--processors", Number 1 16)
    ∷ (codes "--credits", Number 1 1024) ∷ []

-- the table; a window is at most an hour in nanoseconds
abbrev pub table_row : Name → CommandRow
table_row Count = record {
  word = codes "count";
  plain = Field ∷ Number 0 hour ∷ File ∷ [];
  options = [];
}
table_row Stack = record {
  word = codes "stack";
  plain = File ∷ [];
  options = (codes "--port", Number 1 65535) ∷ (codes "--field", Field) ∷ [];
}
table_row Check = record { word = codes "check"; plain = File ∷ []; options = [] }
table_row Central = record { word = codes "central"; plain = File ∷ []; options = [] }
table_row Run = record { word = codes "run"; plain = File ∷ []; options = size_options }
table_row Sample = record { word = codes "sample"; plain = Number 0 18446744073709551615 ∷ []; options = size_options }
table_row Help = record { word = codes "--help"; plain = []; options = [] }
table_row Version = record { word = codes "--version"; plain = []; options = [] }

abbrev pub command_word : Name → List ℕ
command_word command = (table_row command).word

abbrev pub plain_kinds : Name → List WordKind
plain_kinds command = (table_row command).plain

abbrev pub options_of : Name → List (List ℕ × WordKind)
options_of command = (table_row command).options

-- the word of the option of this number
abbrev pub option_word : Name → ℕ → List ℕ
option_word command k = slice_index_or (map (λ o. o.0) (options_of command)) k []

-- what the value of the option of this number may be
abbrev pub option_kind : Name → ℕ → WordKind
option_kind command k = slice_index_or (map (λ o. o.1) (options_of command)) k File
