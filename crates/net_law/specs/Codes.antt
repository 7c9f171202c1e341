-- A code of the expressions of a job, by which values that hold a job are told apart: the expression as it lies in
-- memory, at no place.
use Rattle.std.specs.Prelude.{◌≡◌, refl}
use Rattle.std.proofs.Common.{ap, ap₂}
use denote.RawPtr.{null_ptr}
use Rattle.std.specs.Coded.{Coded, code_by}
use Rattle.query_lang.specs.Expression.{Expression, Literal, Reading, Negation, Operation, expression_of}
use Rattle.query_lang.specs.declared.expression.Expr.{Expr, Number, Read, Not', Binary'}
use Rattle.query_lang.specs.contracts.expression.Expr.{the_row}

abbrev pub stored : Expression → Expr
stored (Literal n) = Number n
stored (Reading term) = Read term
stored (Negation e) = Not' (record { ptr = null_ptr; alloc = record { memory = record { seal = tt } }; value = tt }) (stored e)
stored (Operation operator l r) = Binary' operator (record { ptr = null_ptr; alloc = record { memory = record { seal = tt } }; value = tt }) (stored l) (record { ptr = null_ptr; alloc = record { memory = record { seal = tt } }; value = tt }) (stored r)

pub read_back : (e : Expression) → expression_of (stored e) ≡ e
read_back (Literal n) = refl
read_back (Reading term) = refl
read_back (Negation e) = ap Negation (read_back e)
read_back (Operation operator l r) = ap₂ (Operation operator) (read_back l) (read_back r)

abbrev pub expression_code : Coded Expression
expression_code = code_by Expr the_row.coded stored expression_of read_back
