-- Words: their bytes, and which are reserved.
use Rattle.std.specs.Prelude.{ℕ, Bool, ◌||◌, List, length, ◌==◌, if◌then◌else◌, bytes_eq, codes, Option, Some, None, option_map, is_some, unwrap_or}
use Rattle.query_tokens.specs.Numbers.{is_digit, is_letter}
use Rattle.query_tokens.specs.declared.token.Pick.{Pick}
use Rattle.query_tokens.specs.declared.token.Token.{Token}
use Rattle.query_tokens.specs.declared.token.Token.TheVariants.{Name, Stamp, Whole, Of, At, Not}
use Rattle.query_tokens.specs.declared.token.Part.TheVariants.{Time, Capture}
use Rattle.query_tokens.specs.declared.token.Measure.TheVariants.{Count, Span}
use Rattle.query_tokens.specs.declared.token.Pick.TheVariants.{Seen, First, Last, Min, Max, Distinct}

-- a word begins with a letter or `_`
abbrev pub begins_word : ℕ → Bool
begins_word b = is_letter b || b == 95

-- and goes on over letters, digits and `_`
abbrev pub is_word_byte : ℕ → Bool
is_word_byte b = begins_word b || is_digit b

-- the reserved word of a call with one name
abbrev pub pick : List ℕ → Option Pick
pick word =
    if bytes_eq word (codes "seen") then Some Seen else
    if bytes_eq word (codes "first") then Some First else
    if bytes_eq word (codes "last") then Some Last else
    if bytes_eq word (codes "min") then Some Min else
    if bytes_eq word (codes "max") then Some Max else
    if bytes_eq word (codes "distinct") then Some Distinct else None

-- the token of a reserved word
abbrev pub reserved : ℕ → List ℕ → Option Token
reserved at word =
    if bytes_eq word (codes "time") then Some (Stamp Time at) else
    if bytes_eq word (codes "capture") then Some (Stamp Capture at) else
    if bytes_eq word (codes "count") then Some (Whole Count at) else
    if bytes_eq word (codes "span") then Some (Whole Span at) else
    if bytes_eq word (codes "at") then Some (At at) else
    if bytes_eq word (codes "not") then Some (Not at) else
    option_map (λ p. Of p at) (pick word)

-- a word that the expressions keep for themselves
abbrev pub is_reserved : List ℕ → Bool
is_reserved word = is_some (reserved 0 word)

-- the token of a word: any that is not reserved is a name
abbrev pub word_token : ℕ → List ℕ → Token
word_token at word = unwrap_or (reserved at word) (Name (record { at = at; len = length word }))
