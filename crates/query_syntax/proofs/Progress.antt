-- A loop that reads one token after another.
use Rattle.std.proofs.Common.{◌≡◌, ℕ, ◌+◌, ◌-◌, ◌<◌, ◌≤◌, ◌⊎◌, Bool, true, false, ◌&&◌, cond, eqb, List, [], ◌∷◌, ◌++◌, length, take, Option, Some, None, refl, sym, ap, subst, ◌∙◌, arith, slice_get, count_by, inl, inr, option_and_then}
use Rattle.std.proofs.lemmas.Bool.{cases_order, and_parts, eqb-true, eq-eqb}
use Rattle.std.proofs.lemmas.List.{take_all}
use Rattle.std.proofs.lemmas.List.Sums.{sum_by-append}
use Rattle.query_tokens.specs.declared.token.Token.{Token}
use Rattle.query_tokens.specs.declared.token.Token.TheVariants.{Open}
use Rattle.query_tokens.specs.declared.lexer.Placed.{Placed}
use Rattle.query_tokens.specs.Lexing.{Lexes}
use Rattle.query_syntax.specs.declared.fault.QueryWhat.{QueryWhat}
use Rattle.query_syntax.specs.declared.fault.QueryWhat.TheVariants as what
use Rattle.query_syntax.specs.Tree.{Tree}
use Rattle.query_syntax.specs.Faults.{tokens, is_open, is_close, open_behind, HasFault, Reads, Fails}
use Rattle.query_syntax.specs.Machine.{State, step, run, start, whole}
use Rattle.query_syntax.proofs.Standing.{whole_derives}
use Rattle.query_syntax.proofs.Reading.{run-append, read_begins, read_stands, begins_reads, derives_whole}
use Rattle.query_syntax.proofs.First.{Clear, tokens_more, deep_first, syntax_first, token_first, end_first, no_fault}

-- i tokens were read, so many of them opening and closing parentheses, and none was refused
pub record Progress (ps : List Placed) (i : ℕ) (s : State) (opens closes : ℕ) : Type 0 where
  pub reached : run (tokens (take i ps)) start ≡ Some s
  pub opened : opens ≡ count_by is_open (tokens (take i ps))
  pub closed : closes ≡ count_by is_close (tokens (take i ps))
  pub shallow : (k : ℕ) (q : Placed) → k < i → slice_get ps k ≡ Some q → q.token ≡ Open → open_behind (tokens (take k ps)) ≡ 32 → ⊥

clear_of : (ps : List Placed) (i : ℕ) (s : State) (o c : ℕ) → Progress ps i s o c → Clear ps i
clear_of ps i s o c h = record { begins = read_begins _ s h.reached; shallow = h.shallow }

pub progress_start : (ps : List Placed) → Progress ps 0 start 0 0
progress_start ps = record { reached = refl; opened = refl; closed = refl; shallow = λ k q less. absurd (omega arith) }

one_more : (o : Option State) → option_and_then (run []) o ≡ o
one_more None = refl
one_more (Some s) = refl

next_state : (ps : List Placed) (i : ℕ) (s : State) (p : Placed) → run (tokens (take i ps)) start ≡ Some s → slice_get ps i ≡ Some p → run (tokens (take (i + 1) ps)) start ≡ step s p.token
next_state ps i s p e here =
    ap (λ l. run l start) (tokens_more ps i p here)
    ∙ run-append (tokens (take i ps)) (p.token ∷ []) start
    ∙ ap (option_and_then (run (p.token ∷ []))) e
    ∙ one_more (step s p.token)

count_more : (test : Token → Bool) (ts : List Token) (t : Token) → count_by test (ts ++ t ∷ []) ≡ count_by test ts + cond (test t) 1 0
count_more test ts t = let e = sum_by-append (λ x. cond (test x) 1 0) ts (t ∷ []) in omega (arith, e)

pub progress_more : (ps : List Placed) (i : ℕ) (s next : State) (o c : ℕ) (p : Placed) → Progress ps i s o c → slice_get ps i ≡ Some p
    → ((p.token ≡ Open) → o - c ≡ 32 → ⊥) → step s p.token ≡ Some next
    → Progress ps (i + 1) next (o + cond (is_open p.token) 1 0) (c + cond (is_close p.token) 1 0)
progress_more ps i s next o c p h here fits e = record {
  reached = next_state ps i s p h.reached here ∙ e;
  opened = ap (λ n. n + cond (is_open p.token) 1 0) h.opened ∙ sym (ap (count_by is_open) (tokens_more ps i p here) ∙ count_more is_open (tokens (take i ps)) p.token);
  closed = ap (λ n. n + cond (is_close p.token) 1 0) h.closed ∙ sym (ap (count_by is_close) (tokens_more ps i p here) ∙ count_more is_close (tokens (take i ps)) p.token);
  shallow = λ k q less at opened deep. go k q less at opened deep (cases_order k i);
}
  where
    go : (k : ℕ) (q : Placed) → k < i + 1 → slice_get ps k ≡ Some q → q.token ≡ Open → open_behind (tokens (take k ps)) ≡ 32 → (k ≡ i) ⊎ ((k < i) ⊎ (i < k)) → ⊥
    go k q less at opened deep (inr (inl lower)) = h.shallow k q lower at opened deep
    go k q less at opened deep (inr (inr more)) = omega arith
    go k q less at opened deep (inl same) =
        let pq = some_is (sym (rw same at at) ∙ here) in
        let deep_here = rw same at deep in
        fits (ap (λ (x : Placed). x.token) (sym pq) ∙ opened) (omega (arith, deep_here, h.opened, h.closed))
      where
        some_is : {x y : Placed} → ◌≡◌ {A = Option Placed} (Some x) (Some y) → x ≡ y
        some_is e = cc

-- ---- how reading ends

module _ (text : List ℕ) (ps : List Placed) (stop : Option ℕ) (i : ℕ) (s : State) (o c : ℕ) (lexed : Lexes text 0 ps stop) (h : Progress ps i s o c) where
  pub fails_deep : (p : Placed) → slice_get ps i ≡ Some p → p.token ≡ Open → o - c ≡ 32 → Fails text what.Deep p.at
  fails_deep p here opened deep =
      (ps, stop, lexed, deep_first text ps stop i p lexed here (clear_of ps i s o c h) opened (omega (arith, h.opened, h.closed)))

  pub fails_syntax : (p : Placed) → slice_get ps i ≡ Some p → ((p.token ≡ Open) → o - c ≡ 32 → ⊥) → step s p.token ≡ None → Fails text what.Syntax p.at
  fails_syntax p here fits e = (
    ps,
    stop,
    lexed,
    syntax_first text ps stop i p lexed here (clear_of ps i s o c h)
        (λ b. begins_reads _ b (next_state ps i s p h.reached here ∙ e))
        (λ d. fits d.0 (omega (arith, d.1, h.opened, h.closed))),
  )

  at_end : length ps ≤ i → Progress ps (length ps) s o c
  at_end end =
      let all : take i ps ≡ take (length ps) ps = take_all i ps end ∙ sym (take_all (length ps) ps (omega arith)) in
      record {
        reached = rw all at h.reached;
        opened = rw all at h.opened;
        closed = rw all at h.closed;
        shallow = λ k q less. h.shallow k q (omega arith);
      }

  all_read : length ps ≤ i → run (tokens ps) start ≡ Some s
  all_read end = subst (λ l. run (tokens l) start ≡ Some s) (take_all i ps end) h.reached

  pub fails_token : length ps ≤ i → (at : ℕ) → stop ≡ Some at → Fails text what.Token at
  fails_token end at e = (ps, stop, lexed, token_first text ps stop (clear_of _ _ _ _ _ (at_end end)) at e)

  pub fails_end : length ps ≤ i → stop ≡ None → whole s ≡ None → Fails text what.Syntax (length text)
  fails_end end e none = (ps, stop, lexed, end_first text ps stop (clear_of _ _ _ _ _ (at_end end)) e (λ x. never (sym none ∙ derives_whole (tokens ps) x.0 s x.1 (all_read end))))
    where
      never : {x : Tree} → ◌≡◌ {A = Option Tree} None (Some x) → ⊥
      never e = cc

  pub reads_whole : length ps ≤ i → stop ≡ None → (t : Tree) → whole s ≡ Some t → Reads text t
  reads_whole end e t found =
      let derives = whole_derives (tokens ps) s t (read_stands (tokens ps) s (all_read end)) found in
      (ps, subst (Lexes text 0 ps) e lexed, derives, subst (λ st. (w : QueryWhat) (b : ℕ) → HasFault (length text) ps st w b → ⊥) e (no_fault text ps stop (clear_of _ _ _ _ _ (at_end end)) e (t, derives)))

-- ---- the test for a parenthesis that is too deep

open_is : (t : Token) → is_open t ≡ true → t ≡ Open
open_is Open e = refl
open_is _ e = cc

pub deep_test : (t : Token) (o c : ℕ) → (is_open t && eqb (o - c) 32) ≡ true → (t ≡ Open) × (o - c ≡ 32)
deep_test t o c e = let parts = and_parts _ _ e in (open_is t parts.0, eqb-true _ _ parts.1)

pub shallow_test : (t : Token) (o c : ℕ) → (is_open t && eqb (o - c) 32) ≡ false → t ≡ Open → o - c ≡ 32 → ⊥
shallow_test t o c e opened deep = never (sym (rw (opened, eq-eqb _ _ deep) at e))
  where
    never : false ≡ true → ⊥
    never e = cc

pub one_most : (b : Bool) → cond b 1 0 ≤ 1
one_most true = omega arith
one_most false = omega arith
