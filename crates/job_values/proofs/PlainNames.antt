-- What stands in a text does not depend on where the names lie in memory.
use Rattle.std.proofs.Common.{◌≡◌, ℕ, suc, true, List, [], ◌∷◌, map, length, refl, ap}
use Rattle.ds_base.specs.Items.{Items}
use Rattle.query_tokens.specs.declared.token.Pick.{Pick}
use Rattle.query_tokens.specs.declared.token.Pick.TheVariants as pick
use Rattle.query_syntax.specs.declared.tree.Atom.{Atom}
use Rattle.query_syntax.specs.declared.tree.Atom.TheVariants as atom
use Rattle.query_syntax.specs.Tree.{Tree, Leaf, Parenthesis, Negated, Joined}
use Rattle.query_lang.specs.declared.names.Names.{Names}
use Rattle.query_lang.specs.declared.names.Scope.{Scope}
use Rattle.query_lang.specs.declared.names.Scope.TheVariants.{One, Group}
use Rattle.query_lang.specs.Expression.{Negation}
use Rattle.query_lang.specs.Grammar.{mention, atom_mentions, mentions, atom_expression, expression, argument}
use Rattle.query_lang.specs.Names.{place, is_named, word_in}
use Rattle.job_values.specs.Parsed.{plain, shown, names_from}

place_plain : (names : List (Items ℕ)) (word : List ℕ) → place (map plain (shown names)) word ≡ place names word
place_plain [] word = refl
place_plain (name ∷ names) word = rw (place_plain names word) refl

plain_length : (names : List (Items ℕ)) → length (map plain (shown names)) ≡ length names
plain_length [] = refl
plain_length (name ∷ names) = ap suc (plain_length names)

named_plain : (names : List (Items ℕ)) (word : List ℕ) → is_named (map plain (shown names)) word ≡ is_named names word
named_plain names word = rw (place_plain names word, plain_length names) refl

module _ (names : Names) (text : List ℕ) where
  abbrev same : Names
  same = names_from (shown names.vars.items) (shown names.captures.items)

  atom_mentions_plain : (scope : Scope) (a : Atom) → atom_mentions same text scope a ≡ atom_mentions names text scope a
  atom_mentions_plain scope (atom.Number n) = refl
  atom_mentions_plain One (atom.Name w) = rw (named_plain names.vars.items (word_in text w)) refl
  atom_mentions_plain One (atom.Stamp p at) = refl
  atom_mentions_plain One (atom.Whole m at) = refl
  atom_mentions_plain One (atom.Of p at w) = refl
  atom_mentions_plain One (atom.At at c v) = refl
  atom_mentions_plain Group (atom.Name w) = refl
  atom_mentions_plain Group (atom.Stamp p at) = refl
  atom_mentions_plain Group (atom.Whole m at) = refl
  atom_mentions_plain Group (atom.Of pick.Seen at w) = rw (named_plain names.captures.items (word_in text w)) refl
  atom_mentions_plain Group (atom.Of pick.First at w) = rw (named_plain names.vars.items (word_in text w)) refl
  atom_mentions_plain Group (atom.Of pick.Last at w) = rw (named_plain names.vars.items (word_in text w)) refl
  atom_mentions_plain Group (atom.Of pick.Min at w) = rw (named_plain names.vars.items (word_in text w)) refl
  atom_mentions_plain Group (atom.Of pick.Max at w) = rw (named_plain names.vars.items (word_in text w)) refl
  atom_mentions_plain Group (atom.Of pick.Distinct at w) = rw (named_plain names.vars.items (word_in text w)) refl
  atom_mentions_plain Group (atom.At at c v) = rw (named_plain names.captures.items (word_in text c), named_plain names.vars.items (word_in text v)) refl

  pub mentions_plain : (scope : Scope) (t : Tree) → mentions same text scope t ≡ mentions names text scope t
  mentions_plain scope (Leaf a) = atom_mentions_plain scope a
  mentions_plain scope (Parenthesis t) = mentions_plain scope t
  mentions_plain scope (Negated at t) = ap (λ ms. mention at true ∷ ms) (mentions_plain scope t)
  mentions_plain scope (Joined operator l r) = rw (mentions_plain scope l, mentions_plain scope r) refl

  argument_plain : (word : List ℕ) (p : Pick) → argument same word p ≡ argument names word p
  argument_plain word pick.Seen = place_plain names.captures.items word
  argument_plain word pick.First = place_plain names.vars.items word
  argument_plain word pick.Last = place_plain names.vars.items word
  argument_plain word pick.Min = place_plain names.vars.items word
  argument_plain word pick.Max = place_plain names.vars.items word
  argument_plain word pick.Distinct = place_plain names.vars.items word

  atom_plain : (a : Atom) → atom_expression same text a ≡ atom_expression names text a
  atom_plain (atom.Number n) = refl
  atom_plain (atom.Name w) = rw (place_plain names.vars.items (word_in text w)) refl
  atom_plain (atom.Stamp p at) = refl
  atom_plain (atom.Whole m at) = refl
  atom_plain (atom.Of p at w) = rw (argument_plain (word_in text w) p) refl
  atom_plain (atom.At at c v) = rw (place_plain names.captures.items (word_in text c), place_plain names.vars.items (word_in text v)) refl

  pub expression_plain : (t : Tree) → expression same text t ≡ expression names text t
  expression_plain (Leaf a) = atom_plain a
  expression_plain (Parenthesis t) = expression_plain t
  expression_plain (Negated at t) = ap Negation (expression_plain t)
  expression_plain (Joined operator l r) = rw (expression_plain l, expression_plain r) refl
