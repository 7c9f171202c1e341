-- Names and their numbers.
use Rattle.std.specs.Prelude.{ℕ, Bool, List, take, drop, length, bytes_eq, nat_lt}
use Rattle.std.specs.List.{position_or_len}
use Rattle.ds_base.specs.Items.{Items}
use Rattle.query_tokens.specs.declared.token.Word.{Word}

-- the bytes of a word of the text
abbrev pub word_in : List ℕ → Word → List ℕ
word_in text word = take word.len (drop word.at text)

-- the number of a name: its first place among the names, or their length where it is none of them
abbrev pub place : List (Items ℕ) → List ℕ → ℕ
place names word = position_or_len (λ name. bytes_eq name.items word) names

-- the word is one of the names
abbrev pub is_named : List (Items ℕ) → List ℕ → Bool
is_named names word = nat_lt (place names word) (length names)
