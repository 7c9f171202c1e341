-- Wide numbers: below 2^128.
use Rattle.std.specs.Prelude.{ℕ, ◌&&◌, Bool, List, [], ◌∷◌, if◌then◌else◌, Option, Some, None, option_and_then, slice_index}
use Rattle.std.specs.List.{list_all}
use Rattle.std.specs.Option.{option_or}
use Rattle.query_tokens.specs.Numbers.{is_digit, is_number_byte, number_of}
use Rattle.query_tokens.specs.declared.token.Token.{Token}
use Rattle.query_tokens.specs.declared.token.Token.TheVariants.{Number}
use Rattle.query_tokens.specs.declared.lexer.Placed.{Placed}
use Rattle.serde_json.specs.Data.{Data}
use Rattle.serde_json.specs.Find.{as_number, as_u64, as_str}
use Rattle.job_values.specs.declared.member.Member.{Member}
use Rattle.job_values.specs.declared.fault.JobWhat.TheVariants.{WrongKind}
use Rattle.job_values.specs.Said.{Said, or_fault}

-- a digit, and then digits, letters and `.`
abbrev pub is_number_run : List ℕ → Bool
is_number_run text = is_digit (slice_index text 0) && list_all is_number_byte text

-- the number that a text is, which is one number token of the expressions and nothing else
abbrev pub number_text : List ℕ → Option ℕ
number_text text = if is_number_run text then number_of text else None

-- a number, or a text that is one
abbrev pub wide : Member → ℕ → Data → Said ℕ
wide at i d = or_fault at i WrongKind (option_or (option_and_then as_u64 (as_number d)) (option_and_then number_text (as_str d)))

-- ---- for private clauses

abbrev pub number_in : Token → Option ℕ
number_in (Number n) = Some n
number_in _ = None

-- the number that the only token is
abbrev pub only_number : List Placed → Option ℕ
only_number (p ∷ []) = number_in p.token
only_number _ = None
