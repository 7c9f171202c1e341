-- What the reader knows of the words behind the command's word.
use Rattle.std.specs.Prelude.{ℕ, List, [], ◌∷◌, ◌++◌, ◌≡◌, ◌≢◌, ◌<◌, ◌≤◌, ◌+◌, ◌-◌, ◌*◌, Option, Some, None, length, take, map, slice_index_or, IfSome, option_map}
use Rattle.command_words.specs.declared.table.Name.{Name}
use Rattle.command_words.specs.declared.table.TheConstants.{MOST_WORDS}
use Rattle.command_words.specs.declared.reading.Read.{Read}
use Rattle.command_words.specs.declared.shape.Shape.{Shape}
use Rattle.command_words.specs.declared.shape.Shape.TheVariants.{Plain, Apart, Joined}
use Rattle.command_words.specs.Kinds.{IsRequired}
use Rattle.command_words.specs.CommandTable.{plain_kinds, options_of, option_word}
use Rattle.command_words.specs.CommandLine.{Part, spell, plain_words, values_for, AreParts, IsLine}

-- the words of an option whose value is still to come
abbrev pub pending : Name → Option ℕ → List (List ℕ)
pending command None = []
pending command (Some k) = option_word command k ∷ []

-- the values of an option that is given at most once
abbrev pub one_or_none : Option (List ℕ) → List (List ℕ)
one_or_none None = []
one_or_none (Some value) = value ∷ []

-- the values of each option, by its number
abbrev pub given_values : List (Option (List ℕ)) → ℕ → List (List ℕ)
given_values values k = one_or_none (slice_index_or values k None)

-- the words are those of some parts and of the option that waits, and the lists have their values
pub record StandsFor (command : Name) (count : ℕ) (plain : List (List ℕ)) (values : List (Option (List ℕ)))
    (waiting : Option ℕ) (words : List (List ℕ)) : Type 0 where
  pub parts : List Part
  pub start : AreParts command (take count (plain_kinds command)) parts
  pub spelled : words ≡ spell command parts ++ pending command waiting
  pub counted : length (plain_words parts) ≡ count
  pub plain_read : plain_words parts ≡ take count plain
  pub values_read : (k : ℕ) → values_for k parts ≡ given_values values k
  pub word_room : length (plain_kinds command) ≤ length plain
  pub value_room : length (options_of command) ≤ length values
  pub free : IfSome waiting (λ k. (k < length (options_of command)) × (values_for k parts ≡ []))

-- the needed words, and the values of the options, that are read
abbrev pub shown_words : Read → List (List ℕ)
shown_words r = map (λ w. w.now) r.plain

abbrev pub shown_values : Read → List (Option (List ℕ))
shown_values r = map (λ v. option_map (λ w. w.now) v) r.values

-- what is read stands for the words
abbrev pub Stands : Name → Read → List (List ℕ) → Type 0
Stands command r words = StandsFor command r.count (shown_words r) (shown_values r) r.waiting words

-- this is what is read
abbrev pub Becomes : Read → ℕ → List (List ℕ) → List (Option (List ℕ)) → Option ℕ → Type 0
Becomes r count plain values waiting =
    (r.count ≡ count) × (shown_words r ≡ plain) × (shown_values r ≡ values) × (r.waiting ≡ waiting)

-- the words, behind the command's word, begin an accepted line of the command
abbrev pub Goes : Name → List (List ℕ) → Type 0
Goes command words = (rest : List (List ℕ)) × (parts : List Part) × IsLine command parts × (words ++ rest ≡ spell command parts)

-- how many of the options are not given yet
abbrev pub absent : List (Option (List ℕ)) → ℕ
absent [] = 0
absent (None ∷ values) = absent values + 1
absent (Some value ∷ values) = absent values

-- how many words can still follow at most
abbrev pub left_for : ℕ → List (Option (List ℕ)) → Option ℕ → ℕ
left_for count values None = (MOST_WORDS - count) + 2 * absent values
left_for count values (Some k) = (MOST_WORDS - count) + 2 * absent values - 1

abbrev pub left_of : Read → ℕ
left_of r = left_for r.count (shown_values r) r.waiting

-- a word is the option of this number and name, by its shape
abbrev pub IsOption : ℕ → List ℕ → List ℕ → Shape → Type 0
IsOption k name word Plain = ⊥
IsOption k name word (Apart j) = (j ≡ k) × (word ≡ name)
IsOption k name word (Joined j value) = (j ≡ k) × (word ≡ name ++ (61 ∷ value.now))

-- a word is not the option of this name, neither alone nor with a value behind `=`
abbrev pub NoOption : List ℕ → List ℕ → Type 0
NoOption name word = (word ≢ name) × ((value : List ℕ) → word ≢ name ++ (61 ∷ value))

-- a word has this shape, where these are the names of the options
abbrev pub HasShape : List (List ℕ) → List ℕ → Shape → Type 0
HasShape names word Plain = IsRequired word
HasShape names word (Apart k) = (k < length names) × (word ≡ slice_index_or names k [])
HasShape names word (Joined k value) = (k < length names) × (word ≡ slice_index_or names k [] ++ (61 ∷ value.now))
