-- The first word that is not allowed.
use Rattle.std.proofs.Common.{◌≡◌, ℕ, Bool, true, false, cond, List, [], ◌∷◌, ◌++◌, length, Option, Some, None, Result, Ok, Err, refl, sym, ap, subst, ◌∙◌, IfOk}
use Rattle.std.specs.Option.{option_or}
use Rattle.std.proofs.lemmas.Bool.{ltb-true}
use Rattle.query_tokens.specs.declared.token.Pick.TheVariants as pick
use Rattle.query_tokens.specs.declared.token.Part.TheVariants as part
use Rattle.query_tokens.specs.declared.token.Measure.TheVariants as measure
use Rattle.query_syntax.specs.declared.tree.Atom.{Atom}
use Rattle.query_syntax.specs.declared.tree.Atom.TheVariants as atom
use Rattle.query_tokens.specs.declared.token.Operator.{Operator}
use Rattle.query_syntax.specs.declared.fault.ParseFault.{ParseFault}
use Rattle.query_syntax.specs.declared.fault.ParseFault.TheVariants.{Bad, OutOfMemory}
use Rattle.query_lang.specs.declared.expression.Expr.{Expr}
use Rattle.query_syntax.specs.Tree.{Tree, Leaf, Parenthesis, Negated, Joined}
use Rattle.query_lang.specs.declared.names.Names.{Names}
use Rattle.query_lang.specs.declared.names.Scope.{Scope}
use Rattle.query_lang.specs.declared.names.Scope.TheVariants.{One, Group}
use Rattle.query_lang.specs.declared.expression.Term.{Term}
use Rattle.query_lang.specs.declared.expression.Term.TheVariants as term
use Rattle.query_lang.specs.Expression.{Expression, Literal, Reading, Negation, Operation, AllTerms, VariableBelow, VariablesBelow, expression_of}
use Rattle.query_lang.specs.Grammar.{Mention, atom_mentions, mentions, first_barred, atom_expression, expression, InScope, Resolves}

never_some : {at : ℕ} → ◌≡◌ {A = Option ℕ} (Some at) None → ⊥
never_some e = cc

pub first_barred_append : (xs ys : List Mention) → first_barred (xs ++ ys) ≡ option_or (first_barred xs) (first_barred ys)
first_barred_append [] ys = refl
first_barred_append (m ∷ ms) ys = go m.allowed (first_barred_append ms ys)
  where
    go : (b : Bool) → first_barred (ms ++ ys) ≡ option_or (first_barred ms) (first_barred ys)
        → cond b (first_barred (ms ++ ys)) (Some m.at) ≡ option_or (cond b (first_barred ms) (Some m.at)) (first_barred ys)
    go true h = h
    go false h = refl

pub barred_left : (xs ys : List Mention) (at : ℕ) → first_barred xs ≡ Some at → first_barred (xs ++ ys) ≡ Some at
barred_left xs ys at e = first_barred_append xs ys ∙ rw e refl

pub barred_right : (xs ys : List Mention) (o : Option ℕ) → first_barred xs ≡ None → first_barred ys ≡ o → first_barred (xs ++ ys) ≡ o
barred_right xs ys o e f = first_barred_append xs ys ∙ rw e f

-- ---- two sides

pub resolves_left : (xs ys : List Mention) (l e : Expression) (f : ParseFault) → Resolves xs l (Err f) → Resolves (xs ++ ys) e (Err f)
resolves_left xs ys l e (Bad f) h = (h.0, barred_left xs ys f.at h.1)
resolves_left xs ys l e OutOfMemory h = tt

pub resolves_right : (xs ys : List Mention) (l r e : Expression) (x : Expr) (f : ParseFault) → Resolves xs l (Ok x) → Resolves ys r (Err f) → Resolves (xs ++ ys) e (Err f)
resolves_right xs ys l r e x (Bad f) h k = (k.0, barred_right xs ys (Some f.at) h.0 k.1)
resolves_right xs ys l r e x OutOfMemory h k = tt

pub resolves_both : (xs ys : List Mention) (l r : Expression) (operator : Operator) (x y : Expr) (result : Result Expr ParseFault)
    → Resolves xs l (Ok x) → Resolves ys r (Ok y) → Resolves [] (Operation operator (expression_of x) (expression_of y)) result
    → Resolves (xs ++ ys) (Operation operator l r) result
resolves_both xs ys l r operator x y (Ok z) h k m = (barred_right xs ys None h.0 k.0, m.1 ∙ ap (λ a. Operation operator a (expression_of y)) h.1 ∙ ap (Operation operator l) k.1)
resolves_both xs ys l r operator x y (Err (Bad f)) h k m = absurd (never m.1)
  where
    never : ◌≡◌ {A = Option ℕ} None (Some f.at) → ⊥
    never e = cc
resolves_both xs ys l r operator x y (Err OutOfMemory) h k m = tt

-- ---- what stands where nothing is barred

allowed : (b : Bool) (o : Option ℕ) (at : ℕ) → cond b o (Some at) ≡ None → (b ≡ true) × (o ≡ None)
allowed true o at e = (refl, e)
allowed false o at e = absurd (never e)
  where
    never : ◌≡◌ {A = Option ℕ} (Some at) None → ⊥
    never e = cc

barred_both : (xs ys : List Mention) → first_barred (xs ++ ys) ≡ None → (first_barred xs ≡ None) × (first_barred ys ≡ None)
barred_both xs ys e = go (first_barred xs) refl
  where
    go : (o : Option ℕ) → first_barred xs ≡ o → (first_barred xs ≡ None) × (first_barred ys ≡ None)
    go None f = (f, rw f at (sym (first_barred_append xs ys) ∙ e))
    go (Some at) f = absurd (never (rw f at (sym (first_barred_append xs ys) ∙ e)))
      where
        never : ◌≡◌ {A = Option ℕ} (Some at) None → ⊥
        never e = cc

module _ (names : Names) (text : List ℕ) where
  abbrev Stands : Scope → Expression → Type 0
  Stands scope e = AllTerms (InScope scope (length names.vars.items) (length names.captures.items)) e

  atom_in_scope : (scope : Scope) (a : Atom) → first_barred (atom_mentions names text scope a) ≡ None → Stands scope (atom_expression names text a)
  atom_in_scope scope (atom.Number n) e = tt
  atom_in_scope One (atom.Name w) e = ltb-true _ _ (allowed _ _ _ e).0
  atom_in_scope One (atom.Stamp part.Time at) e = tt
  atom_in_scope One (atom.Stamp part.Capture at) e = tt
  atom_in_scope One (atom.Whole m at) e = absurd (never_some e)
  atom_in_scope One (atom.Of p at w) e = absurd (never_some e)
  atom_in_scope One (atom.At at c v) e = absurd (never_some e)
  atom_in_scope Group (atom.Name w) e = absurd (never_some e)
  atom_in_scope Group (atom.Stamp p at) e = absurd (never_some e)
  atom_in_scope Group (atom.Whole measure.Count at) e = tt
  atom_in_scope Group (atom.Whole measure.Span at) e = tt
  atom_in_scope Group (atom.Of pick.Seen at w) e = ltb-true _ _ (allowed _ _ _ e).0
  atom_in_scope Group (atom.Of pick.First at w) e = ltb-true _ _ (allowed _ _ _ e).0
  atom_in_scope Group (atom.Of pick.Last at w) e = ltb-true _ _ (allowed _ _ _ e).0
  atom_in_scope Group (atom.Of pick.Min at w) e = ltb-true _ _ (allowed _ _ _ e).0
  atom_in_scope Group (atom.Of pick.Max at w) e = ltb-true _ _ (allowed _ _ _ e).0
  atom_in_scope Group (atom.Of pick.Distinct at w) e = ltb-true _ _ (allowed _ _ _ e).0
  atom_in_scope Group (atom.At at c v) e = let first = allowed _ _ _ e in (ltb-true _ _ first.0, ltb-true _ _ (allowed _ _ _ first.1).0)

  pub in_scope : (scope : Scope) (t : Tree) → first_barred (mentions names text scope t) ≡ None → Stands scope (expression names text t)
  in_scope scope (Leaf a) e = atom_in_scope scope a e
  in_scope scope (Parenthesis t) e = in_scope scope t e
  in_scope scope (Negated at t) e = in_scope scope t e
  in_scope scope (Joined operator l r) e = let parts = barred_both (mentions names text scope l) (mentions names text scope r) e in (in_scope scope l parts.0, in_scope scope r parts.1)

variable_below : (scope : Scope) (vars captures : ℕ) (t : Term) → InScope scope vars captures t → VariableBelow vars t
variable_below One vars captures (term.Variable v) h = h
variable_below One vars captures term.Time h = tt
variable_below One vars captures term.Capture h = tt
variable_below Group vars captures term.Count h = tt
variable_below Group vars captures term.Span h = tt
variable_below Group vars captures (term.Seen c) h = tt
variable_below Group vars captures (term.First v) h = h
variable_below Group vars captures (term.Last v) h = h
variable_below Group vars captures (term.Min v) h = h
variable_below Group vars captures (term.Max v) h = h
variable_below Group vars captures (term.Distinct v) h = h
variable_below Group vars captures (term.At c v) h = h.1
variable_below _ vars captures _ h = absurd h

pub variables_below : (scope : Scope) (vars captures : ℕ) (e : Expression) → AllTerms (InScope scope vars captures) e → VariablesBelow vars e
variables_below scope vars captures (Literal n) h = tt
variables_below scope vars captures (Reading t) h = variable_below scope vars captures t h
variables_below scope vars captures (Negation e) h = variables_below scope vars captures e h
variables_below scope vars captures (Operation o l r) h = (variables_below scope vars captures l h.0, variables_below scope vars captures r h.1)

pub resolved_variables : (names : Names) (text : List ℕ) (scope : Scope) (t : Tree) (r : Result Expr ParseFault)
    → Resolves (mentions names text scope t) (expression names text t) r → IfOk r (λ e. VariablesBelow (length names.vars.items) (expression_of e))
resolved_variables names text scope t (Ok e) h = subst (VariablesBelow (length names.vars.items)) (sym h.1) (variables_below scope _ _ (expression names text t) (in_scope names text scope t h.0))
resolved_variables names text scope t (Err f) h = tt
