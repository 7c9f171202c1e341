-- A command line: the command's word, and behind it its parts.
use Rattle.std.specs.Prelude.{ℕ, List, [], ◌∷◌, ◌++◌, ◌<◌, ◌==◌, if◌then◌else◌, length}
use Rattle.command_words.specs.declared.kind.WordKind.{WordKind}
use Rattle.command_words.specs.declared.table.Name.{Name}
use Rattle.command_words.specs.Kinds.{IsRequired, HasKind}
use Rattle.command_words.specs.CommandTable.{plain_kinds, options_of, option_word, option_kind}

-- A part of a command line: a word that the command needs, or the option of this number in the
-- command's row and its value, in two words `--name VALUE` or in one word `--name=VALUE`.
pub data Part : Type 0 where
  Plain : List ℕ → Part
  Apart : ℕ → List ℕ → Part
  Joined : ℕ → List ℕ → Part

-- the words of the parts
abbrev pub spell : Name → List Part → List (List ℕ)
spell command [] = []
spell command (Plain word ∷ parts) = word ∷ spell command parts
spell command (Apart k value ∷ parts) = option_word command k ∷ value ∷ spell command parts
spell command (Joined k value ∷ parts) = (option_word command k ++ (61 ∷ value)) ∷ spell command parts

-- the words that the command needs, in the order in which they stand
abbrev pub plain_words : List Part → List (List ℕ)
plain_words [] = []
plain_words (Plain word ∷ parts) = word ∷ plain_words parts
plain_words (Apart k value ∷ parts) = plain_words parts
plain_words (Joined k value ∷ parts) = plain_words parts

-- the values that are given for the option of this number
abbrev pub values_for : ℕ → List Part → List (List ℕ)
values_for j [] = []
values_for j (Plain word ∷ parts) = values_for j parts
values_for j (Apart k value ∷ parts) = (if k == j then value ∷ [] else []) ++ values_for j parts
values_for j (Joined k value ∷ parts) = (if k == j then value ∷ [] else []) ++ values_for j parts

-- The option is one of the row's. A word that is needed, and a value that is a word of its own, is
-- not empty and does not begin with `-`. So the word `--` is no part of any line.
abbrev pub InForm : Name → Part → Type 0
InForm command (Plain word) = IsRequired word
InForm command (Apart k value) = (k < length (options_of command)) × IsRequired value
InForm command (Joined k value) = k < length (options_of command)

abbrev pub AreInForm : Name → List Part → Type 0
AreInForm command [] = Unit {0}
AreInForm command (part ∷ parts) = InForm command part × AreInForm command parts

-- the words have these kinds, one each and in order
abbrev pub Have : List WordKind → List (List ℕ) → Type 0
Have [] [] = Unit {0}
Have (kind ∷ kinds) (word ∷ words) = HasKind kind word × Have kinds words
Have [] (word ∷ words) = ⊥
Have (kind ∷ kinds) [] = ⊥

-- nothing, or one word of this kind
abbrev pub AtMostOne : WordKind → List (List ℕ) → Type 0
AtMostOne kind [] = Unit {0}
AtMostOne kind (word ∷ []) = HasKind kind word
AtMostOne kind (word ∷ again ∷ words) = ⊥

-- the parts of an accepted command line, where the needed words are to have these kinds
pub record AreParts (command : Name) (kinds : List WordKind) (parts : List Part) : Type 0 where
  pub form : AreInForm command parts
  pub plain : Have kinds (plain_words parts)
  pub options : (k : ℕ) → AtMostOne (option_kind command k) (values_for k parts)

-- the parts behind the command's word are accepted
abbrev pub IsLine : Name → List Part → Type 0
IsLine command parts = AreParts command (plain_kinds command) parts
