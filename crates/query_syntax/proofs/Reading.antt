-- What reading tokens from the start says of them.
use Rattle.std.proofs.Common.{◌≡◌, List, [], ◌∷◌, ◌++◌, Option, Some, None, refl, sym, ap, subst, ◌∙◌, arith, append-nil, option_and_then}
use Rattle.query_tokens.specs.declared.token.Token.{Token}
use Rattle.query_syntax.specs.Tree.{Tree, spell}
use Rattle.query_syntax.specs.Grammar.{Derives, Begins}
use Rattle.query_syntax.specs.Machine.{Have, State, step, run, start, alone, whole}
use Rattle.query_syntax.proofs.Complete.{complete}
use Rattle.query_syntax.proofs.Standing.{Stands, OnState, run_stands, stands_begins}

pub run-append : (xs ys : List Token) (s : State) → run (xs ++ ys) s ≡ option_and_then (run ys) (run xs s)
run-append [] ys s = refl
run-append (x ∷ xs) ys s = go (step s x) (λ next. run-append xs ys next)
  where
    go : (o : Option State) → ((next : State) → run (xs ++ ys) next ≡ option_and_then (run ys) (run xs next))
        → option_and_then (run (xs ++ ys)) o ≡ option_and_then (run ys) (option_and_then (run xs) o)
    go None h = refl
    go (Some next) h = h next

pub start_stands : Stands [] start
start_stands = record { read = refl; pending = tt; atomic = tt }

-- what was read without a refusal begins an expression
pub read_stands : (ts : List Token) (s : State) → run ts start ≡ Some s → Stands ts s
read_stands ts s e = subst (OnState ts) e (run_stands ts [] start start_stands)

pub read_begins : (ts : List Token) (s : State) → run ts start ≡ Some s → Begins ts
read_begins ts s e = stands_begins ts s (read_stands ts s e)

-- an expression leads to its tree
pub record Ends (ts : List Token) (t : Tree) : Type 0 where
  pub state : State
  pub reached : run ts start ≡ Some state
  pub whole_is : whole state ≡ Some t

pub derives_ends : (ts : List Token) (t : Tree) → Derives ts t → Ends ts t
derives_ends ts t h =
    let r = complete t 0 [] [] h.grammatical tt in
    record {
      state = (r.stack, Have r.tree);
      reached = ap (λ l. run l start) (sym h.spelled ∙ sym (append-nil (spell t))) ∙ r.runs;
      whole_is = ap alone (r.reduces 0 (omega arith));
    }

-- what begins an expression is read without a refusal
pub begins_reads : (ts : List Token) → Begins ts → run ts start ≡ None → ⊥
begins_reads ts h refused =
    let e = derives_ends (ts ++ h.0) h.1 h.2 in
    never (sym (rw refused at (run-append ts h.0 start)) ∙ e.reached)
  where
    never : {s : State} → ◌≡◌ {A = Option State} None (Some s) → ⊥
    never e = cc

pub derives_whole : (ts : List Token) (t : Tree) (s : State) → Derives ts t → run ts start ≡ Some s → whole s ≡ Some t
derives_whole ts t s h reached =
    let e = derives_ends ts t h in
    let same : s ≡ e.state = same_state (sym reached ∙ e.reached) in
    ap whole same ∙ e.whole_is
  where
    same_state : {x y : State} → ◌≡◌ {A = Option State} (Some x) (Some y) → x ≡ y
    same_state e = cc

pub one_tree : (ts : List Token) (t u : Tree) → Derives ts t → Derives ts u → t ≡ u
one_tree ts t u h k =
    let e = derives_ends ts t h in
    same_tree (sym e.whole_is ∙ derives_whole ts u e.state k e.reached)
  where
    same_tree : {x y : Tree} → ◌≡◌ {A = Option Tree} (Some x) (Some y) → x ≡ y
    same_tree e = cc
