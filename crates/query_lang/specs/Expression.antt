-- What an expression is, without where it lies in memory.
use Rattle.std.specs.Prelude.{ℕ, ◌<◌}
use Rattle.query_tokens.specs.declared.token.Operator.{Operator}
use Rattle.query_lang.specs.declared.expression.Expr.{Expr, Number, Read, Not', Binary'}
use Rattle.query_lang.specs.declared.expression.Term.{Term}
use Rattle.query_lang.specs.declared.expression.Term.TheVariants.{Variable, First, Last, Min, Max, Distinct, At}

-- an expression, without where it lies in memory
pub data Expression : Type 0 where
  Literal : ℕ → Expression
  Reading : Term → Expression
  Negation : Expression → Expression
  Operation : Operator → Expression → Expression → Expression
  deriving IsSet as Expression-set

-- what an `Expr` shows
abbrev pub expression_of : Expr → Expression
expression_of (Number n) = Literal n
expression_of (Read term) = Reading term
expression_of (Not' p e) = Negation (expression_of e)
expression_of (Binary' operator p l q r) = Operation operator (expression_of l) (expression_of r)

-- each term of an expression
abbrev pub AllTerms : (Term → Type 0) → Expression → Type 0
AllTerms P (Literal n) = Unit {0}
AllTerms P (Reading term) = P term
AllTerms P (Negation e) = AllTerms P e
AllTerms P (Operation operator l r) = AllTerms P l × AllTerms P r

-- the term's variable, if it has one, is among so many
abbrev pub VariableBelow : ℕ → Term → Type 0
VariableBelow n (Variable v) = v < n
VariableBelow n (First v) = v < n
VariableBelow n (Last v) = v < n
VariableBelow n (Min v) = v < n
VariableBelow n (Max v) = v < n
VariableBelow n (Distinct v) = v < n
VariableBelow n (At c v) = v < n
VariableBelow n _ = Unit {0}

-- each variable of an expression is among so many
abbrev pub VariablesBelow : ℕ → Expression → Type 0
VariablesBelow n e = AllTerms (VariableBelow n) e
