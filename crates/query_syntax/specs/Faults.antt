-- The first fault of a text.
use Rattle.std.specs.Prelude.{ℕ, ◌≡◌, ◌+◌, ◌-◌, ◌<◌, ◌≤◌, ◌⊎◌, Bool, true, false, List, map, length, take, slice_get, count_by, Option, Some, None}
use Rattle.query_tokens.specs.declared.token.Token.{Token}
use Rattle.query_tokens.specs.declared.token.Token.TheVariants.{Open, Close}
use Rattle.query_tokens.specs.declared.lexer.Placed.{Placed}
use Rattle.query_tokens.specs.Lexing.{Lexes}
use Rattle.query_syntax.specs.declared.fault.ParseFault.{ParseFault}
use Rattle.query_syntax.specs.declared.fault.ParseFault.TheVariants.{Bad, OutOfMemory}
use Rattle.query_syntax.specs.declared.fault.QueryWhat.{QueryWhat}
use Rattle.query_syntax.specs.declared.fault.QueryWhat.TheVariants as what
use Rattle.query_syntax.specs.Tree.{Tree}
use Rattle.query_syntax.specs.Grammar.{Derives, Begins, IsExpression}

abbrev pub is_open : Token → Bool
is_open Open = true
is_open _ = false

abbrev pub is_close : Token → Bool
is_close Close = true
is_close _ = false

-- how many parentheses are open behind these tokens
abbrev pub open_behind : List Token → ℕ
open_behind ts = count_by is_open ts - count_by is_close ts

abbrev pub tokens : List Placed → List Token
tokens ps = map (λ p. p.token) ps

-- A fault of this kind stands at this place of a text of so many bytes, whose tokens are `ps`, up to
-- its end or to the place `stop`, where no token begins. Tokens are numbered from 0; `take k ps` are
-- those before number k.
abbrev pub HasFault : ℕ → List Placed → Option ℕ → QueryWhat → ℕ → Type 0
HasFault len ps stop what.Token at = stop ≡ Some at
HasFault len ps stop what.Deep at = (k : ℕ) × (p : Placed) × (slice_get ps k ≡ Some p) × (p.at ≡ at)
    × (p.token ≡ Open) × (open_behind (tokens (take k ps)) ≡ 32)
HasFault len ps stop what.Syntax at =
    ((k : ℕ) × (p : Placed) × (slice_get ps k ≡ Some p) × (p.at ≡ at)
    × Begins (tokens (take k ps)) × ¬ (Begins (tokens (take (k + 1) ps))))
    ⊎ ((stop ≡ None) × (at ≡ len) × Begins (tokens ps) × ¬ (IsExpression (tokens ps)))
HasFault len ps stop what.Name at = ⊥

-- the order of faults at one place
abbrev pub order : QueryWhat → ℕ
order what.Token = 0
order what.Deep = 1
order what.Syntax = 2
order what.Name = 3

-- the first fault of the text: one that stands, and every other is later, or at the same place and
-- later in the order
pub record IsFirst (len : ℕ) (ps : List Placed) (stop : Option ℕ) (w : QueryWhat) (at : ℕ) : Type 0 where
  pub stands : HasFault len ps stop w at
  pub first : (other : QueryWhat) (b : ℕ) → HasFault len ps stop other b → (at < b) ⊎ ((at ≡ b) × (order w ≤ order other))

-- the text is an expression with this tree
abbrev pub Reads : List ℕ → Tree → Type 0
Reads text t = (ps : List Placed) × Lexes text 0 ps None × Derives (tokens ps) t
    × ((w : QueryWhat) (b : ℕ) → ¬ (HasFault (length text) ps None w b))

-- the first fault of the text
abbrev pub Fails : List ℕ → QueryWhat → ℕ → Type 0
Fails text w at = (ps : List Placed) × (stop : Option ℕ) × Lexes text 0 ps stop × IsFirst (length text) ps stop w at

-- what an answer that is no tree says of the text
abbrev pub TellsFault : List ℕ → ParseFault → Type 0
TellsFault text (Bad f) = Fails text f.what f.at
TellsFault text OutOfMemory = Unit {0}
