-- The grammar of expressions over tokens.
use Rattle.std.specs.Prelude.{ℕ, ◌≡◌, ◌+◌, ◌≤◌, Bool, List, ◌++◌, ◌==◌, if◌then◌else◌}
use Rattle.query_tokens.specs.declared.token.Token.{Token}
use Rattle.query_tokens.specs.declared.token.Operator.{Operator}
use Rattle.query_tokens.specs.declared.token.Operator.TheVariants.{Or, And, Equal, NotEqual, AtMost, AtLeast, Less, Greater, Plus, Minus, Times, Divide, Remainder, BitAnd}
use Rattle.query_syntax.specs.Tree.{Tree, Leaf, Parenthesis, Negated, Joined, spell}

-- The levels of the grammar: 0 expr, 1 and, 2 cmp, 3 sum, 4 prod, 5 atom.

-- the level whose rule has this operator
abbrev pub rank : Operator → ℕ
rank Or = 0
rank And = 1
rank Equal = 2
rank NotEqual = 2
rank AtMost = 2
rank AtLeast = 2
rank Less = 2
rank Greater = 2
rank Plus = 3
rank Minus = 3
rank Times = 4
rank Divide = 4
rank Remainder = 4
rank BitAnd = 4

abbrev pub is_comparison : Operator → Bool
is_comparison operator = rank operator == 2

-- The level of the left side. Repetitions group to the left, so it is the rule's own level; but a
-- comparison stands once, and both of its sides are sums.
abbrev pub left_rank : Operator → ℕ
left_rank operator = if is_comparison operator then 3 else rank operator

-- a tree of the grammar at this level
abbrev pub In : ℕ → Tree → Type 0
In level (Leaf a) = Unit {0}
In level (Parenthesis t) = In 0 t
In level (Negated at t) = In 0 t
In level (Joined operator l r) = (level ≤ rank operator) × In (left_rank operator) l × In (rank operator + 1) r

-- the tokens are an expression with this tree
pub record Derives (ts : List Token) (t : Tree) : Type 0 where
  pub grammatical : In 0 t
  pub spelled : spell t ≡ ts

-- the tokens begin some expression
abbrev pub Begins : List Token → Type 0
Begins ts = (rest : List Token) × (t : Tree) × Derives (ts ++ rest) t

-- the tokens are some expression
abbrev pub IsExpression : List Token → Type 0
IsExpression ts = (t : Tree) × Derives ts t
