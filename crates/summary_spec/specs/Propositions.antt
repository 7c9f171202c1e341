-- Lawful-prop: a fact of being lawful has one proof, as a field of a struct wants it.
use Rattle.std.specs.Prelude.{ℕ, ◌≡◌, List, Ok}
use Rattle.std.specs.Coded.{×_prop, Unit-prop, le_prop}
use Rattle.std.proofs.Math.IntN.{ℤ_set}
use Rattle.std.proofs.Math.Nat.{ℕ_set}
use Rattle.std.proofs.Props.{props}
use Rattle.query_tokens.specs.declared.token.Operator.{Operator}
use Rattle.query_syntax.specs.declared.fault.QueryFault.{QueryFault}
use Rattle.job_values.specs.Parsed.{parsed}
use Rattle.path_judges.specs.declared.pattern.Step.{Step}
use Rattle.path_judges.specs.declared.pattern.Step.TheVariants.{Point, One as AnyOne, Many}
use Rattle.query_lang.specs.declared.expression.Term.{Term}
use Rattle.query_lang.specs.declared.expression.Term.TheVariants as term
use Rattle.query_lang.specs.declared.names.Scope.{Scope}
use Rattle.query_lang.specs.declared.names.Scope.TheVariants.{One, Group}
use Rattle.query_lang.specs.Expression.{Expression, Expression-set, Literal, Reading, Negation, Operation, AllTerms, VariableBelow}
use Rattle.query_lang.specs.Grammar.{InScope}
use Rattle.summary_spec.specs.Declaration.{Declared}
use Rattle.job_table.specs.Question.{Question, Everything, Loops, Drops, Paths, Rewrites, Tests, Manner, Same, Less, Table}
use Rattle.job_table.specs.Limits.{StepBelow, IsManner, IsQuestion}
use Rattle.summary_spec.specs.Lawful.{IsLawful}

no_prop : IsProp ⊥
no_prop a b = absurd a

terms_prop : (P : Term → Type 0) → ((t : Term) → IsProp (P t)) → (e : Expression) → IsProp (AllTerms P e)
terms_prop P p (Literal n) = Unit-prop
terms_prop P p (Reading t) = p t
terms_prop P p (Negation e) = terms_prop P p e
terms_prop P p (Operation operator l r) = ×_prop (terms_prop P p l) (terms_prop P p r)

variable_prop : (n : ℕ) (t : Term) → IsProp (VariableBelow n t)
variable_prop n (term.Variable v) = le_prop
variable_prop n term.Time = Unit-prop
variable_prop n term.Capture = Unit-prop
variable_prop n term.Count = Unit-prop
variable_prop n term.Span = Unit-prop
variable_prop n (term.Seen c) = Unit-prop
variable_prop n (term.First v) = le_prop
variable_prop n (term.Last v) = le_prop
variable_prop n (term.Min v) = le_prop
variable_prop n (term.Max v) = le_prop
variable_prop n (term.Distinct v) = le_prop
variable_prop n (term.At c v) = le_prop

scope_prop : (scope : Scope) (vars captures : ℕ) (t : Term) → IsProp (InScope scope vars captures t)
scope_prop One vars captures (term.Variable v) = le_prop
scope_prop One vars captures term.Time = Unit-prop
scope_prop One vars captures term.Capture = Unit-prop
scope_prop One vars captures term.Count = no_prop
scope_prop One vars captures term.Span = no_prop
scope_prop One vars captures (term.Seen c) = no_prop
scope_prop One vars captures (term.First v) = no_prop
scope_prop One vars captures (term.Last v) = no_prop
scope_prop One vars captures (term.Min v) = no_prop
scope_prop One vars captures (term.Max v) = no_prop
scope_prop One vars captures (term.Distinct v) = no_prop
scope_prop One vars captures (term.At c v) = no_prop
scope_prop Group vars captures (term.Variable v) = no_prop
scope_prop Group vars captures term.Time = no_prop
scope_prop Group vars captures term.Capture = no_prop
scope_prop Group vars captures term.Count = Unit-prop
scope_prop Group vars captures term.Span = Unit-prop
scope_prop Group vars captures (term.Seen c) = le_prop
scope_prop Group vars captures (term.First v) = le_prop
scope_prop Group vars captures (term.Last v) = le_prop
scope_prop Group vars captures (term.Min v) = le_prop
scope_prop Group vars captures (term.Max v) = le_prop
scope_prop Group vars captures (term.Distinct v) = le_prop
scope_prop Group vars captures (term.At c v) = ×_prop le_prop le_prop

step_prop : (captures : ℕ) (s : Step) → IsProp (StepBelow captures s)
step_prop captures (Point c) = le_prop
step_prop captures AnyOne = Unit-prop
step_prop captures Many = Unit-prop

manner_prop : (m : Manner) → IsProp (IsManner m)
manner_prop Same = Unit-prop
manner_prop (Less by) = le_prop
manner_prop (Table rows) = Prim.hlevel (le_prop, ×_prop)

term_set : IsSet Term
term_set = Prim.hlevel (props, ℕ_set)

operator_set : IsSet Operator
operator_set = Prim.hlevel props

expression_set : IsSet Expression
expression_set = Expression-set ℕ_set term_set operator_set

fault_set : IsSet QueryFault
fault_set = Prim.hlevel (props, ℕ_set)

gives_prop : (scope : Scope) (vars captures : List (List ℕ)) (text : List ℕ) (e : Expression) → IsProp (parsed scope vars captures text ≡ Ok e)
gives_prop scope vars captures text e = Prim.hlevel (props, expression_set, fault_set)

question_prop : (vars captures : List (List ℕ)) (q : Question) → IsProp (IsQuestion vars captures q)
question_prop vars captures Everything = Unit-prop
question_prop vars captures (Loops hop) = le_prop
question_prop vars captures (Drops exits) = ×_prop le_prop le_prop
question_prop vars captures (Paths allow) = Prim.hlevel (le_prop, step_prop)
question_prop vars captures (Rewrites from to rules) = Prim.hlevel (le_prop, manner_prop)
question_prop vars captures (Tests text e) = Prim.hlevel (le_prop, gives_prop, terms_prop, variable_prop, scope_prop)

pub Lawful-prop : (d : Declared) → IsProp (IsLawful d)
Lawful-prop d = Prim.hlevel (props, ℕ_set, ℤ_set, le_prop, gives_prop, terms_prop, variable_prop, scope_prop, question_prop)
