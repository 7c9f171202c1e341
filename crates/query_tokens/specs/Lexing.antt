-- The tokens of a text: what begins at a place, and how the places follow.
use Rattle.std.specs.Prelude.{ℕ, ◌≡◌, ◌+◌, ◌<◌, ◌⊎◌, Bool, List, [], ◌∷◌, take, drop, length, Option, Some, None, ◌==◌, if◌then◌else◌, slice_index, option_map}
use Rattle.std.specs.List.{prefix_len}
use Rattle.query_tokens.specs.Numbers.{is_digit, is_number_byte, number_of}
use Rattle.query_tokens.specs.Words.{begins_word, is_word_byte, word_token}
use Rattle.query_tokens.specs.Signs.{sign}
use Rattle.query_tokens.specs.declared.token.Token.{Token}
use Rattle.query_tokens.specs.declared.token.Token.TheVariants.{Number}
use Rattle.query_tokens.specs.declared.lexer.Placed.{Placed}

-- a token that begins with a digit, and its length: the longest run of digits, letters and `.`
abbrev pub number_token : List ℕ → Option (Token × ℕ)
number_token bytes =
    let len = prefix_len is_number_byte bytes in option_map (λ n. (Number n, len)) (number_of (take len bytes))

-- the token that begins these bytes of the text, from place `at` on, and its length;
-- none where no token begins there or it has no lawful form
abbrev pub token_at : ℕ → List ℕ → Option (Token × ℕ)
token_at at bytes =
    if is_digit (slice_index bytes 0) then number_token bytes else
    if begins_word (slice_index bytes 0)
    then (let len = prefix_len is_word_byte bytes in Some (word_token at (take len bytes), len))
    else sign bytes

-- a blank is a space
abbrev pub is_blank : ℕ → Bool
is_blank b = b == 32

-- the first place from `at` on that is no blank
abbrev pub behind_blanks : List ℕ → ℕ → ℕ
behind_blanks text at = at + prefix_len is_blank (drop at text)

-- `at` is the text's end, or a place where no token begins
abbrev pub Stops : List ℕ → ℕ → Option ℕ → Type 0
Stops text at stop = ((at ≡ length text) × (stop ≡ None))
    ⊎ ((at < length text) × (token_at at (drop at text) ≡ None) × (stop ≡ Some at))

-- From `at` on the text is these tokens at these places, with blanks between them, up to its end or
-- to the place `stop`, where no token begins.
abbrev pub Lexes : List ℕ → ℕ → List Placed → Option ℕ → Type 0
Lexes text at [] stop = Stops text (behind_blanks text at) stop
Lexes text at (p ∷ ps) stop = (p.at ≡ behind_blanks text at) × (p.at < length text)
    × ((len : ℕ) × (0 < len) × (token_at p.at (drop p.at text) ≡ Some (p.token, len)) × Lexes text (p.at + len) ps stop)
