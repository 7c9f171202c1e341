-- The levels of operators.
use Rattle.std.proofs.Common.{◌≡◌, ℕ, ◌<◌, ◌≤◌, true, false, refl, arith}
use Rattle.std.proofs.lemmas.Bool.{eqb-true, ne_eqb}
use Rattle.query_tokens.specs.declared.token.Operator.{Operator}
use Rattle.query_tokens.specs.declared.token.Operator.TheVariants.{Or}
use Rattle.query_syntax.specs.Grammar.{rank, left_rank, is_comparison, In}
use Rattle.query_syntax.specs.Tree.{Tree, Leaf, Parenthesis, Negated, Joined}

pub rank_least : (operator : Operator) → rank operator ≤ 4
rank_least Or = omega arith
rank_least _ = omega arith

pub rank_left : (operator : Operator) → rank operator ≤ left_rank operator
rank_left Or = omega arith
rank_left _ = omega arith

pub left_least : (operator : Operator) → left_rank operator ≤ 4
left_least Or = omega arith
left_least _ = omega arith

pub compared_rank : (operator : Operator) → is_comparison operator ≡ true → (rank operator ≡ 2) × (left_rank operator ≡ 3)
compared_rank operator e = (eqb-true _ _ e, rw e refl)

pub other_rank : (operator : Operator) → is_comparison operator ≡ false → left_rank operator ≡ rank operator
other_rank operator e = rw e refl

pub no_comparison : (operator : Operator) → rank operator < 2 → is_comparison operator ≡ false
no_comparison operator h = ne_eqb (rank operator) 2 (λ e. absurd (omega (arith, e)))

-- a tree of a level is one of each lower level
pub In-lower : (t : Tree) (m k : ℕ) → In m t → k ≤ m → In k t
In-lower (Leaf a) m k h le = tt
In-lower (Parenthesis t) m k h le = h
In-lower (Negated at t) m k h le = h
In-lower (Joined operator l r) m k h le = (omega (arith, h.0), h.1, h.2)
