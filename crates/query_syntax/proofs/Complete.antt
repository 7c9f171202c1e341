-- Every expression is read: from a place that wants an operand its tokens lead to a tree, and whatever
-- then reduces at a level up to the expression's own reduces as the expression itself would.
use Rattle.std.proofs.Common.{◌≡◌, ℕ, ◌+◌, ◌<◌, ◌≤◌, false, ◌&&◌, List, [], ◌∷◌, ◌++◌, Some, refl, ap, ◌∙◌, arith, append_assoc, inl, inr, option_and_then}
use Rattle.std.proofs.lemmas.Bool.{lt-leb, le-leb, cases_Bool, and_left, and_right}
use Rattle.query_tokens.specs.declared.token.Token.{Token}
use Rattle.query_tokens.specs.declared.token.Token.TheVariants as token
use Rattle.query_tokens.specs.declared.token.Operator.{Operator}
use Rattle.query_syntax.specs.declared.tree.Atom.{Atom}
use Rattle.query_syntax.specs.declared.tree.Atom.TheVariants as atom
use Rattle.query_syntax.specs.Tree.{Tree, Leaf, Parenthesis, Negated, Joined, spell, spell_atom}
use Rattle.query_syntax.specs.Grammar.{rank, left_rank, is_comparison, In}
use Rattle.query_syntax.specs.Machine.{Frame, Pending, Opened, NotOpened, Want, Have, reduce, is_compared, joined, closed_by, run}
use Rattle.query_syntax.proofs.Levels.{rank_left, compared_rank, no_comparison}

-- what is topmost binds less than this level
abbrev pub Below : ℕ → List Frame → Type 0
Below level [] = Unit {0}
Below level (Pending l operator ∷ stack) = rank operator < level
Below level (Opened ∷ stack) = Unit {0}
Below level (NotOpened at ∷ stack) = Unit {0}

reduce_below : (k : ℕ) (s : List Frame) (t : Tree) → Below k s → reduce k s t ≡ (s, t)
reduce_below k [] t h = refl
reduce_below k (Pending l operator ∷ s) t h = rw (lt-leb k (rank operator) h) refl
reduce_below k (Opened ∷ s) t h = refl
reduce_below k (NotOpened at ∷ s) t h = refl

Below-higher : (m k : ℕ) (s : List Frame) → Below m s → m ≤ k → Below k s
Below-higher m k [] h le = tt
Below-higher m k (Pending l operator ∷ s) h le = omega (arith, h)
Below-higher m k (Opened ∷ s) h le = tt
Below-higher m k (NotOpened at ∷ s) h le = tt

-- no comparison stands next to one
not_compared : (m : ℕ) (s : List Frame) (operator : Operator) → Below m s → m ≤ rank operator → (is_comparison operator && is_compared s) ≡ false
not_compared m [] operator h le = and_right _ _ refl
not_compared m (Opened ∷ s) operator h le = and_right _ _ refl
not_compared m (NotOpened at ∷ s) operator h le = and_right _ _ refl
not_compared m (Pending l other ∷ s) operator h le =
    elim (cases_Bool (is_comparison operator)) [ inl e ↦ and_right _ _ (no_comparison other (omega (arith, h, (compared_rank operator e).0))) | inr e ↦ and_left _ _ e ]

joined_pushes : (m : ℕ) (s : List Frame) (operator : Operator) (l : Tree) → Below m s → m ≤ rank operator → joined operator (s, l) ≡ Some (Pending l operator ∷ s, Want)
joined_pushes m s operator l h le = rw (not_compared m s operator h le) refl

pub record Arrives (text rest : List Token) (s : List Frame) (t : Tree) (m : ℕ) : Type 0 where
  pub stack : List Frame
  pub tree : Tree
  pub runs : run text (s, Want) ≡ run rest (stack, Have tree)
  pub reduces : (k : ℕ) → k ≤ m → reduce k stack tree ≡ reduce k s t

atom_runs : (a : Atom) (s : List Frame) (rest : List Token) → run (spell_atom a ++ rest) (s, Want) ≡ run rest (s, Have (Leaf a))
atom_runs (atom.Number n) s rest = refl
atom_runs (atom.Name w) s rest = refl
atom_runs (atom.Stamp part at) s rest = refl
atom_runs (atom.Whole measure at) s rest = refl
atom_runs (atom.Of pick at w) s rest = refl
atom_runs (atom.At at c v) s rest = refl

pub complete : (t : Tree) (m : ℕ) (s : List Frame) (rest : List Token) → In m t → Below m s → Arrives (spell t ++ rest) rest s t m
complete (Leaf a) m s rest h b = record { stack = s; tree = Leaf a; runs = atom_runs a s rest; reduces = λ k le. refl }
complete (Parenthesis t) m s rest h b =
    let r = complete t 0 (Opened ∷ s) (token.Close ∷ rest) h tt in
    record {
      stack = s;
      tree = Parenthesis t;
      runs = ap (λ ts. run ts (Opened ∷ s, Want)) (append_assoc (spell t) (token.Close ∷ []) rest)
          ∙ r.runs ∙ ap (λ x. option_and_then (run rest) (closed_by x)) (r.reduces 0 (omega arith));
      reduces = λ k le. refl;
    }
complete (Negated at t) m s rest h b =
    let r = complete t 0 (NotOpened at ∷ s) (token.Close ∷ rest) h tt in
    record {
      stack = s;
      tree = Negated at t;
      runs = ap (λ ts. run ts (NotOpened at ∷ s, Want)) (append_assoc (spell t) (token.Close ∷ []) rest)
          ∙ r.runs ∙ ap (λ x. option_and_then (run rest) (closed_by x)) (r.reduces 0 (omega arith));
      reduces = λ k le. refl;
    }
complete (Joined operator l r) m s rest h b =
    let up : m ≤ left_rank operator = omega (arith, h.0, rank_left operator) in
    let left = complete l (left_rank operator) s (token.Between operator ∷ (spell r ++ rest)) h.1 (Below-higher m (left_rank operator) s b up) in
    let right = complete r (rank operator + 1) (Pending l operator ∷ s) rest h.2 (omega arith) in
    let alone = left.reduces (left_rank operator) (omega arith) ∙ reduce_below (left_rank operator) s l (Below-higher m (left_rank operator) s b up) in
    record {
      stack = right.stack;
      tree = right.tree;
      runs = ap (λ ts. run ts (s, Want)) (append_assoc (spell l) (token.Between operator ∷ spell r) rest)
          ∙ left.runs
          ∙ ap (λ x. option_and_then (run (spell r ++ rest)) (joined operator x)) alone
          ∙ ap (option_and_then (run (spell r ++ rest))) (joined_pushes m s operator l b h.0)
          ∙ right.runs;
      reduces = λ k le. let small : k ≤ rank operator = omega (arith, h.0) in right.reduces k (omega arith) ∙ reduce_joins k s operator l r small;
    }
  where
    reduce_joins : (k : ℕ) (s : List Frame) (operator : Operator) (l t : Tree) → k ≤ rank operator → reduce k (Pending l operator ∷ s) t ≡ reduce k s (Joined operator l t)
    reduce_joins k s operator l t le = rw (le-leb k (rank operator) le) refl
