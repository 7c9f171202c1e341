-- The function of an expression's text answers what its grammar says.
use Rattle.std.proofs.Common.{◌≡◌, ℕ, suc, List, length, Option, None, Result, Ok, Err, refl, sym, ap, ◌∙◌, subst, arith, inl, inr, Some}
use Rattle.query_tokens.specs.declared.lexer.Placed.{Placed}
use Rattle.query_tokens.specs.Lexing.{Lexes}
use Rattle.query_syntax.specs.declared.fault.QueryFault.{QueryFault}
use Rattle.query_syntax.specs.declared.fault.ParseFault.TheVariants.{Bad}
use Rattle.query_syntax.specs.declared.fault.QueryWhat.TheVariants as what
use Rattle.query_syntax.specs.Tree.{Tree}
use Rattle.query_syntax.specs.Faults.{Reads, Fails}
use Rattle.query_syntax.specs.Machine.{start}
use Rattle.query_syntax.proofs.OneLexing.{one_read, one_fault, never_both}
use Rattle.query_syntax.proofs.Progress.{progress_start}
use Rattle.query_lang.specs.declared.names.Names.{Names}
use Rattle.query_lang.specs.declared.names.Scope.{Scope}
use Rattle.query_lang.specs.Expression.{Expression}
use Rattle.query_lang.specs.Grammar.{Gives, Refuses, mentions, first_barred, expression}
use Rattle.job_values.specs.Parsed.{Lexed, lexed, tree_from, tree_in, names_from, shown, unless_barred, resolved, parsed}
use Rattle.job_values.proofs.Lexed.{lexed_is, lexes_lexed}
use Rattle.job_values.proofs.Trees.{Says, tree_says}
use Rattle.job_values.proofs.PlainNames.{mentions_plain, expression_plain}

says : (text : List ℕ) (ps : List Placed) (stop : Option ℕ) → Lexes text 0 ps stop → Says text (tree_in text)
says text ps stop h =
    let e : lexed text ≡ (ps, stop) = lexed_is (suc (length text)) text 0 ps stop (omega arith) h in
    subst (λ (l : Lexed). Says text (tree_from (length text) l.1 l.0 start 0 0)) (sym e) (tree_says text ps stop h ps 0 start 0 0 refl (progress_start ps))

read_is : (text : List ℕ) (t : Tree) (r : Result Tree QueryFault) → Reads text t → Says text r → r ≡ Ok t
read_is text t (Ok u) h s = ap Ok (one_read text u t s h)
read_is text t (Err f) h s = absurd (never_both text t f.what f.at h s)

fault_is : (text : List ℕ) (f : QueryFault) (r : Result Tree QueryFault) → Fails text f.what f.at → Says text r → r ≡ Err f
fault_is text f (Ok t) h s = absurd (never_both text t f.what f.at s h)
fault_is text f (Err g) h s =
    let same = one_fault text g.what f.what g.at f.at s h in
    ap (λ (x : QueryFault). Err x) (λ i. record { what = same.0 i; at = same.1 i })

tree_read : (text : List ℕ) (t : Tree) → Reads text t → tree_in text ≡ Ok t
tree_read text t h = read_is text t (tree_in text) h (says text h.0 None h.1)

tree_fails : (text : List ℕ) (f : QueryFault) → Fails text f.what f.at → tree_in text ≡ Err f
tree_fails text f h = fault_is text f (tree_in text) h (says text h.0 h.1 h.2)

module _ (names : Names) (scope : Scope) (text : List ℕ) where
  abbrev answer : Result Expression QueryFault
  answer = parsed scope (shown names.vars.items) (shown names.captures.items) text

  with_tree : (t : Tree) → Reads text t → answer ≡ unless_barred (first_barred (mentions names text scope t)) (expression names text t)
  unfolding parsed
  with_tree t h = rw (tree_read text t h, mentions_plain names text scope t, expression_plain names text t) refl

  pub parsed_gives : (e : Expression) → Gives text names scope e → answer ≡ Ok e
  parsed_gives e (t, h, none, same) = with_tree t h ∙ rw (none, same) refl

  pub parsed_refuses : (f : QueryFault) → Refuses text names scope (Bad f) → answer ≡ Err f
  unfolding parsed
  parsed_refuses f (inl h) = rw (tree_fails text f h) refl
  parsed_refuses f (inr (t, h, name, barred)) = with_tree t h ∙ rw barred (ap (λ (x : QueryFault). Err x) (λ i. record { what = sym name i; at = f.at }))

  -- ---- and what it answers, the grammar says

  ok_same : {a b : Expression} → ◌≡◌ {A = Result Expression QueryFault} (Ok a) (Ok b) → a ≡ b
  ok_same e = cc

  err_same : {a b : QueryFault} → ◌≡◌ {A = Result Expression QueryFault} (Err a) (Err b) → a ≡ b
  err_same e = cc

  ok_err : {a : Expression} {b : QueryFault} {B : Type 0} → ◌≡◌ {A = Result Expression QueryFault} (Ok a) (Err b) → B
  ok_err e = cc

  free_of : (o : Option ℕ) (x e : Expression) → unless_barred o x ≡ Ok e → (o ≡ None) × (e ≡ x)
  free_of None x e h = (refl, sym (ok_same h))
  free_of (Some at) x e h = ok_err (sym h)

  barred_of : (o : Option ℕ) (x : Expression) (f : QueryFault) → unless_barred o x ≡ Err f → (f.what ≡ what.Name) × (o ≡ Some f.at)
  barred_of None x f h = ok_err h
  barred_of (Some at) x f h = let same = err_same h in (ap (λ g. g.what) (sym same), ap (λ g. Some g.at) same)

  abbrev named : Names
  named = names_from (shown names.vars.items) (shown names.captures.items)

  -- the words of a tree do not depend on where the names lie
  plainly : (t : Tree) (r : Result Expression QueryFault) → resolved named scope text (Ok t) ≡ r
      → unless_barred (first_barred (mentions names text scope t)) (expression names text t) ≡ r
  plainly t r h = rw (sym (mentions_plain names text scope t), sym (expression_plain names text t)) h

  given : (r : Result Tree QueryFault) (e : Expression) → Says text r → resolved named scope text r ≡ Ok e → Gives text names scope e
  given (Ok t) e says h = let parts = free_of _ _ e (plainly t (Ok e) h) in (t, says, parts.0, parts.1)
  given (Err f) e says h = ok_err (sym h)

  refused : (r : Result Tree QueryFault) (f : QueryFault) → Says text r → resolved named scope text r ≡ Err f → Refuses text names scope (Bad f)
  refused (Ok t) f says h = let parts = barred_of _ _ f (plainly t (Err f) h) in inr (t, says, parts.0, parts.1)
  refused (Err g) f says h = inl (subst (λ (x : QueryFault). Fails text x.what x.at) (err_same h) says)

  in_text : Says text (tree_in text)
  in_text = says text (lexed text).0 (lexed text).1 (lexes_lexed text)

  pub gives_parsed : (e : Expression) → answer ≡ Ok e → Gives text names scope e
  unfolding parsed
  gives_parsed e h = given (tree_in text) e in_text h

  pub refuses_parsed : (f : QueryFault) → answer ≡ Err f → Refuses text names scope (Bad f)
  unfolding parsed
  refuses_parsed f h = refused (tree_in text) f in_text h
