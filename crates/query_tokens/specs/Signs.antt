-- Signs of one byte and of two.
use Rattle.std.specs.Prelude.{ℕ, ◌&&◌, List, Option, Some, None, ◌==◌, if◌then◌else◌, slice_index, option_map}
use Rattle.std.specs.Option.{option_or}
use Rattle.query_tokens.specs.declared.token.Token.{Token}
use Rattle.query_tokens.specs.declared.token.Token.TheVariants.{Between, Open, Close, Comma}
use Rattle.query_tokens.specs.declared.token.Operator.TheVariants.{Or, And, Equal, NotEqual, AtMost, AtLeast, Less, Greater, Plus, Minus, Times, Divide, Remainder, BitAnd}

-- a sign of two bytes: `||`, `&&`, `==`, `!=`, `<=` and `>=`
abbrev pub double_sign : ℕ → ℕ → Option Token
double_sign a b =
    if a == 124 && b == 124 then Some (Between Or) else
    if a == 38 && b == 38 then Some (Between And) else
    if a == 61 && b == 61 then Some (Between Equal) else
    if a == 33 && b == 61 then Some (Between NotEqual) else
    if a == 60 && b == 61 then Some (Between AtMost) else
    if a == 62 && b == 61 then Some (Between AtLeast) else None

-- a sign of one byte: `<`, `>`, `+`, `-`, `*`, `/`, `%`, `&`, `(`, `)` and `,`
abbrev pub single_sign : ℕ → Option Token
single_sign a =
    if a == 60 then Some (Between Less) else
    if a == 62 then Some (Between Greater) else
    if a == 43 then Some (Between Plus) else
    if a == 45 then Some (Between Minus) else
    if a == 42 then Some (Between Times) else
    if a == 47 then Some (Between Divide) else
    if a == 37 then Some (Between Remainder) else
    if a == 38 then Some (Between BitAnd) else
    if a == 40 then Some Open else
    if a == 41 then Some Close else
    if a == 44 then Some Comma else None

-- the longest sign that bytes begin with, and its length
abbrev pub sign : List ℕ → Option (Token × ℕ)
sign bytes =
    option_or (option_map (λ token. (token, 2)) (double_sign (slice_index bytes 0) (slice_index bytes 1)))
    (option_map (λ token. (token, 1)) (single_sign (slice_index bytes 0)))
