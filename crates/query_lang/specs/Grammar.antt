-- What the grammar gives for a text, or refuses.
use Rattle.std.specs.Prelude.{ℕ, ◌≡◌, ◌<◌, ◌⊎◌, Bool, true, false, List, [], ◌∷◌, ◌++◌, Option, Some, None, Result, Ok, Err, if◌then◌else◌}
use Rattle.query_tokens.specs.declared.token.Part.{Part}
use Rattle.query_tokens.specs.declared.token.Part.TheVariants as part
use Rattle.query_tokens.specs.declared.token.Measure.{Measure}
use Rattle.query_tokens.specs.declared.token.Measure.TheVariants as measure
use Rattle.query_tokens.specs.declared.token.Pick.{Pick}
use Rattle.query_tokens.specs.declared.token.Pick.TheVariants as pick
use Rattle.query_syntax.specs.declared.tree.Atom.{Atom}
use Rattle.query_syntax.specs.declared.tree.Atom.TheVariants as atom
use Rattle.query_syntax.specs.declared.fault.QueryWhat.TheVariants as what
use Rattle.query_syntax.specs.declared.fault.ParseFault.{ParseFault}
use Rattle.query_syntax.specs.declared.fault.ParseFault.TheVariants.{Bad, OutOfMemory}
use Rattle.query_syntax.specs.Tree.{Tree, Leaf, Parenthesis, Negated, Joined}
use Rattle.query_syntax.specs.Faults.{Reads, Fails}
use Rattle.query_lang.specs.declared.names.Names.{Names}
use Rattle.query_lang.specs.declared.names.Scope.{Scope}
use Rattle.query_lang.specs.declared.names.Scope.TheVariants.{One, Group}
use Rattle.query_lang.specs.declared.expression.Expr.{Expr}
use Rattle.query_lang.specs.declared.expression.Term.{Term}
use Rattle.query_lang.specs.declared.expression.Term.TheVariants as term
use Rattle.query_lang.specs.Expression.{Expression, Literal, Reading, Negation, Operation, expression_of}
use Rattle.query_lang.specs.Names.{word_in, place, is_named}

-- a word of the text: its place, and whether the scope allows it there
pub record Mention : Type 0 where
  pub at : ℕ
  pub allowed : Bool

abbrev pub mention : ℕ → Bool → Mention
mention at allowed = record { at = at; allowed = allowed }

-- the words of an atom in the order of the text
abbrev pub atom_mentions : Names → List ℕ → Scope → Atom → List Mention
atom_mentions names text scope (atom.Number n) = []
atom_mentions names text One (atom.Name w) = mention w.at (is_named names.vars.items (word_in text w)) ∷ []
atom_mentions names text One (atom.Stamp p at) = mention at true ∷ []
atom_mentions names text One (atom.Whole m at) = mention at false ∷ []
atom_mentions names text One (atom.Of p at w) = mention at false ∷ mention w.at false ∷ []
atom_mentions names text One (atom.At at c v) = mention at false ∷ mention c.at false ∷ mention v.at false ∷ []
atom_mentions names text Group (atom.Name w) = mention w.at false ∷ []
atom_mentions names text Group (atom.Stamp p at) = mention at false ∷ []
atom_mentions names text Group (atom.Whole m at) = mention at true ∷ []
atom_mentions names text Group (atom.Of pick.Seen at w) =
    mention at true ∷ mention w.at (is_named names.captures.items (word_in text w)) ∷ []
atom_mentions names text Group (atom.Of p at w) =
    mention at true ∷ mention w.at (is_named names.vars.items (word_in text w)) ∷ []
atom_mentions names text Group (atom.At at c v) =
    mention at true ∷ mention c.at (is_named names.captures.items (word_in text c))
    ∷ mention v.at (is_named names.vars.items (word_in text v)) ∷ []

-- the words of a tree in the order of the text
abbrev pub mentions : Names → List ℕ → Scope → Tree → List Mention
mentions names text scope (Leaf a) = atom_mentions names text scope a
mentions names text scope (Parenthesis t) = mentions names text scope t
mentions names text scope (Negated at t) = mention at true ∷ mentions names text scope t
mentions names text scope (Joined operator l r) = mentions names text scope l ++ mentions names text scope r

-- the place of the first word that is not allowed
abbrev pub first_barred : List Mention → Option ℕ
first_barred [] = None
first_barred (m ∷ ms) = if m.allowed then first_barred ms else Some m.at

abbrev pub stamp_term : Part → Term
stamp_term part.Time = term.Time
stamp_term part.Capture = term.Capture

abbrev pub whole_term : Measure → Term
whole_term measure.Count = term.Count
whole_term measure.Span = term.Span

-- a call on the name with this number
abbrev pub call_term : Pick → ℕ → Term
call_term pick.Seen n = term.Seen n
call_term pick.First n = term.First n
call_term pick.Last n = term.Last n
call_term pick.Min n = term.Min n
call_term pick.Max n = term.Max n
call_term pick.Distinct n = term.Distinct n

-- the number that the argument of a call stands for
abbrev pub argument : Names → List ℕ → Pick → ℕ
argument names word pick.Seen = place names.captures.items word
argument names word _ = place names.vars.items word

-- what an atom stands for, each name by its number
abbrev pub atom_expression : Names → List ℕ → Atom → Expression
atom_expression names text (atom.Number n) = Literal n
atom_expression names text (atom.Name w) = Reading (term.Variable (place names.vars.items (word_in text w)))
atom_expression names text (atom.Stamp p at) = Reading (stamp_term p)
atom_expression names text (atom.Whole m at) = Reading (whole_term m)
atom_expression names text (atom.Of p at w) = Reading (call_term p (argument names (word_in text w) p))
atom_expression names text (atom.At at c v) =
    Reading (term.At (place names.captures.items (word_in text c)) (place names.vars.items (word_in text v)))

-- what a tree stands for
abbrev pub expression : Names → List ℕ → Tree → Expression
expression names text (Leaf a) = atom_expression names text a
expression names text (Parenthesis t) = expression names text t
expression names text (Negated at t) = Negation (expression names text t)
expression names text (Joined operator l r) = Operation operator (expression names text l) (expression names text r)

-- the grammar gives this expression: the text is one, and the scope allows each of its words
abbrev pub Gives : List ℕ → Names → Scope → Expression → Type 0
Gives text names scope e = (t : Tree) × Reads text t × (first_barred (mentions names text scope t) ≡ None) × (e ≡ expression names text t)

-- The grammar refuses the text: it has this first fault; or it is an expression, and here is its first
-- word that the scope does not allow.
abbrev pub Refuses : List ℕ → Names → Scope → ParseFault → Type 0
Refuses text names scope (Bad f) = Fails text f.what f.at
    ⊎ ((t : Tree) × Reads text t × (f.what ≡ what.Name) × (first_barred (mentions names text scope t) ≡ Some f.at))
Refuses text names scope OutOfMemory = Unit {0}

-- the scope has this term, and its names are among so many variables and captures
abbrev pub InScope : Scope → ℕ → ℕ → Term → Type 0
InScope One vars captures (term.Variable v) = v < vars
InScope One vars captures term.Time = Unit {0}
InScope One vars captures term.Capture = Unit {0}
InScope Group vars captures term.Count = Unit {0}
InScope Group vars captures term.Span = Unit {0}
InScope Group vars captures (term.Seen c) = c < captures
InScope Group vars captures (term.First v) = v < vars
InScope Group vars captures (term.Last v) = v < vars
InScope Group vars captures (term.Min v) = v < vars
InScope Group vars captures (term.Max v) = v < vars
InScope Group vars captures (term.Distinct v) = v < vars
InScope Group vars captures (term.At c v) = (c < captures) × (v < vars)
InScope _ vars captures _ = ⊥

-- what looking the names up gives: the expression, or the first word that is not allowed
abbrev pub Resolves : List Mention → Expression → Result Expr ParseFault → Type 0
Resolves ms e (Ok x) = (first_barred ms ≡ None) × (expression_of x ≡ e)
Resolves ms e (Err (Bad f)) = (f.what ≡ what.Name) × (first_barred ms ≡ Some f.at)
Resolves ms e (Err OutOfMemory) = Unit {0}
