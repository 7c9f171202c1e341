-- The texts of a declaration: identifiers, names that stand for variables and captures, patterns.
use Rattle.std.specs.Prelude.{ℕ, ◌==◌, ◌&&◌, ◌||◌, Bool, List, [], ◌∷◌, ◌++◌, length, nat_le, nat_lt, if◌then◌else◌, Option, Some, None, option_map, bytes_eq, codes, slice_index}
use Rattle.std.specs.List.{list_any, list_all, position_or_len}
use Rattle.query_tokens.specs.Words.{begins_word, is_word_byte}
use Rattle.path_judges.specs.declared.pattern.Step.{Step}
use Rattle.path_judges.specs.declared.pattern.Step.TheVariants.{Point, One, Many}

-- 1 to 32 letters, digits and `_`, of which the first is no digit
abbrev pub is_identifier : List ℕ → Bool
is_identifier name =
    nat_le 1 (length name) && nat_le (length name) 32 && begins_word (slice_index name 0) && list_all is_word_byte name

abbrev pub is_among : List (List ℕ) → List ℕ → Bool
is_among names name = list_any (λ other. bytes_eq other name) names

-- the number of a name, if it is one of these
abbrev pub number_of : List (List ℕ) → List ℕ → Option ℕ
number_of names name =
    let n = position_or_len (λ other. bytes_eq other name) names in if nat_lt n (length names) then Some n else None

-- ---- patterns

-- a blank between words: a space or a tab
abbrev pub is_blank : ℕ → Bool
is_blank b = b == 32 || b == 9

-- a word, unless it is empty, before others
abbrev pub unless_empty : List ℕ → List (List ℕ) → List (List ℕ)
unless_empty [] words = words
unless_empty (b ∷ word) words = (b ∷ word) ∷ words

-- the words of a text, of which the first begins with these bytes
abbrev pub words_behind : List ℕ → List ℕ → List (List ℕ)
words_behind word [] = unless_empty word []
words_behind word (b ∷ bytes) =
    if is_blank b then unless_empty word (words_behind [] bytes) else words_behind (word ++ b ∷ []) bytes

-- the words of a text, which stand between blanks
abbrev pub words : List ℕ → List (List ℕ)
words text = words_behind [] text

-- the step that a word stands for: a capture, `?` for any one, `*` for any number
abbrev pub step_of : List (List ℕ) → List ℕ → Option Step
step_of captures word =
    if bytes_eq word (codes "?") then Some One else
    if bytes_eq word (codes "*") then Some Many else
    option_map (λ c. Point c) (number_of captures word)
