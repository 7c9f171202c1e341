-- The meaning of an expression.
use Rattle.std.specs.Prelude.{ℕ, ◌+◌, ◌-◌, ◌*◌, ◌/◌, ◌%◌, ◌^◌, Bool, not, Option, Some, None, nat_lt, nat_le, ◌==◌, if◌then◌else◌, bit_and, option_and_then}
use Rattle.std.specs.Option.{option_or}
use Rattle.query_tokens.specs.declared.token.Operator.{Operator}
use Rattle.query_tokens.specs.declared.token.Operator.TheVariants.{Or, And, Equal, NotEqual, AtMost, AtLeast, Less, Greater, Plus, Minus, Times, Divide, Remainder, BitAnd}
use Rattle.query_lang.specs.declared.expression.Term.{Term}
use Rattle.query_lang.specs.Expression.{Expression, Literal, Reading, Negation, Operation}

-- 1 for true and 0 for false
abbrev pub truth : Bool → ℕ
truth b = if b then 1 else 0

-- a number, undefined at 2^128 and above
abbrev pub within : ℕ → Option ℕ
within n = if nat_lt n (2 ^ 128) then Some n else None

-- the value where the left side alone decides: of `&&` at 0, of `||` at any other number
abbrev pub decided : Operator → ℕ → Option ℕ
decided And x = if x == 0 then Some 0 else None
decided Or x = if x == 0 then None else Some 1
decided _ x = None

-- the value of two sides that are defined, where the left alone does not decide
abbrev pub joined : Operator → ℕ → ℕ → Option ℕ
joined And x y = Some (truth (not (y == 0)))
joined Or x y = Some (truth (not (y == 0)))
joined Equal x y = Some (truth (x == y))
joined NotEqual x y = Some (truth (not (x == y)))
joined AtMost x y = Some (truth (nat_le x y))
joined AtLeast x y = Some (truth (nat_le y x))
joined Less x y = Some (truth (nat_lt x y))
joined Greater x y = Some (truth (nat_lt y x))
joined Plus x y = within (x + y)
joined Minus x y = if nat_lt x y then None else Some (x - y)
joined Times x y = within (x * y)
joined Divide x y = if y == 0 then None else Some (x / y)
joined Remainder x y = if y == 0 then None else Some (x % y)
joined BitAnd x y = Some (bit_and x y)

-- The meaning of an expression, given that of its terms: a number below 2^128, or undefined. It is
-- undefined where the left side is, also under `&&` and `||`; where the left side alone decides, the
-- right side does not matter.
abbrev pub meaning : (Term → Option ℕ) → Expression → Option ℕ
meaning value (Literal n) = Some n
meaning value (Reading term) = value term
meaning value (Negation e) = option_and_then (λ x. Some (truth (x == 0))) (meaning value e)
meaning value (Operation operator l r) =
    option_and_then (λ x. option_or (decided operator x) (option_and_then (joined operator x) (meaning value r))) (meaning value l)
