-- What a syntax tree is, and its tokens.
use Rattle.std.specs.Prelude.{ℕ, List, [], ◌∷◌, ◌++◌}
use Rattle.query_tokens.specs.declared.token.Token.{Token}
use Rattle.query_tokens.specs.declared.token.Token.TheVariants as token
use Rattle.query_tokens.specs.declared.token.Operator.{Operator}
use Rattle.query_syntax.specs.declared.tree.Atom.{Atom}
use Rattle.query_syntax.specs.declared.tree.Atom.TheVariants as atom
use Rattle.query_syntax.specs.declared.tree.Syntax.{Syntax}
use Rattle.query_syntax.specs.declared.tree.Syntax as syntax

-- a syntax tree, without where it lies in memory
pub data Tree : Type 0 where
  Leaf : Atom → Tree
  Parenthesis : Tree → Tree
  Negated : ℕ → Tree → Tree
  Joined : Operator → Tree → Tree → Tree

-- what a `Syntax` shows
abbrev pub tree_of : Syntax → Tree
tree_of (syntax.Leaf a) = Leaf a
tree_of (syntax.Parenthesis' p t) = Parenthesis (tree_of t)
tree_of (syntax.Negated' at p t) = Negated at (tree_of t)
tree_of (syntax.Joined' operator p l q r) = Joined operator (tree_of l) (tree_of r)

-- the tokens of an atom
abbrev pub spell_atom : Atom → List Token
spell_atom (atom.Number n) = token.Number n ∷ []
spell_atom (atom.Name w) = token.Name w ∷ []
spell_atom (atom.Stamp part at) = token.Stamp part at ∷ []
spell_atom (atom.Whole measure at) = token.Whole measure at ∷ token.Open ∷ token.Close ∷ []
spell_atom (atom.Of pick at w) = token.Of pick at ∷ token.Open ∷ token.Name w ∷ token.Close ∷ []
spell_atom (atom.At at c v) =
    token.At at ∷ token.Open ∷ token.Name c ∷ token.Comma ∷ token.Name v ∷ token.Close ∷ []

-- the tokens of a tree
abbrev pub spell : Tree → List Token
spell (Leaf a) = spell_atom a
spell (Parenthesis t) = token.Open ∷ (spell t ++ token.Close ∷ [])
spell (Negated at t) = token.Not at ∷ token.Open ∷ (spell t ++ token.Close ∷ [])
spell (Joined operator l r) = spell l ++ (token.Between operator ∷ spell r)
