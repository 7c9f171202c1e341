-- The function of a text's syntax tree answers what the grammar says.
use Rattle.std.proofs.Common.{◌≡◌, ℕ, zero, suc, ◌+◌, ◌-◌, ◌≤◌, Bool, true, false, ◌&&◌, eqb, cond, List, [], ◌∷◌, length, drop, slice_get, Option, Some, None, Result, Ok, Err, refl, ap, ◌∙◌, arith, add-one}
use Rattle.query_tokens.specs.declared.lexer.Placed.{Placed}
use Rattle.query_tokens.specs.Lexing.{Lexes}
use Rattle.query_syntax.specs.declared.fault.QueryFault.{QueryFault}
use Rattle.query_syntax.specs.declared.fault.QueryWhat.TheVariants as what
use Rattle.query_syntax.specs.Tree.{Tree}
use Rattle.query_syntax.specs.Faults.{is_open, is_close, Reads, Fails}
use Rattle.query_syntax.specs.Machine.{State, step, whole}
use Rattle.query_syntax.proofs.Progress.{Progress, progress_more, fails_deep, fails_syntax, fails_token, fails_end, reads_whole, deep_test, shallow_test}
use Rattle.job_values.specs.Parsed.{refusal, ended, stepped, one_if, tree_from}

-- what the grammar says of such an answer
abbrev pub Says : List ℕ → Result Tree QueryFault → Type 0
Says text (Ok t) = Reads text t
Says text (Err f) = Fails text f.what f.at

end_of : {A : Type 0} (xs : List A) (i : ℕ) → drop i xs ≡ [] → length xs ≤ i
end_of [] i e = omega arith
end_of (x ∷ xs) zero e = cc
end_of (x ∷ xs) (suc i) e = omega (arith, end_of xs i e)

nil_cons : {A : Type 0} {B : Type 0} {y : A} {ys : List A} → [] ≡ y ∷ ys → B
nil_cons e = cc

head_of : {A : Type 0} (xs : List A) (i : ℕ) (y : A) (ys : List A) → drop i xs ≡ y ∷ ys → (slice_get xs i ≡ Some y) × (drop (suc i) xs ≡ ys)
head_of [] zero y ys e = nil_cons e
head_of [] (suc i) y ys e = nil_cons e
head_of (x ∷ xs) zero y ys e = (head e, tail e)
  where
    head : x ∷ xs ≡ y ∷ ys → Some x ≡ Some y
    head e = cc

    tail : x ∷ xs ≡ y ∷ ys → xs ≡ ys
    tail e = cc
head_of (x ∷ xs) (suc i) y ys e = head_of xs i y ys e

module _ (text : List ℕ) (ps : List Placed) (stop : Option ℕ) (lexed : Lexes text 0 ps stop) where
  at_end : (i : ℕ) (s : State) (o c : ℕ) → length ps ≤ i → Progress ps i s o c → (st : Option ℕ) → stop ≡ st → (w : Option Tree) → whole s ≡ w → Says text (ended (length text) st w)
  at_end i s o c end h (Some at) e w f = fails_token text ps stop i s o c lexed h end at e
  at_end i s o c end h None e (Some t) f = reads_whole text ps stop i s o c lexed h end e t f
  at_end i s o c end h None e None f = fails_end text ps stop i s o c lexed h end e f

  abbrev goes : Placed → List Placed → ℕ → ℕ → State → Result Tree QueryFault
  goes p rest o c next = tree_from (length text) stop rest next (o + one_if (is_open p.token)) (c + one_if (is_close p.token))

  abbrev Behind : Placed → List Placed → ℕ → ℕ → ℕ → Type 0
  Behind p rest i o c = (next : State) → Progress ps (i + 1) next (o + one_if (is_open p.token)) (c + one_if (is_close p.token)) → Says text (goes p rest o c next)

  pub tree_says : (rest : List Placed) (i : ℕ) (s : State) (o c : ℕ) → drop i ps ≡ rest → Progress ps i s o c → Says text (tree_from (length text) stop rest s o c)
  unfolding tree_from
  tree_says [] i s o c e h = at_end i s o c (end_of ps i e) h stop refl (whole s) refl
  tree_says (p ∷ rest) i s o c e h =
      by_test (λ next g. tree_says rest (i + 1) next (o + one_if (is_open p.token)) (c + one_if (is_close p.token)) (ap (λ n. drop n ps) (add-one i) ∙ (head_of ps i p rest e).1) g)
      (is_open p.token && eqb (o - c) 32) refl
    where
      here : slice_get ps i ≡ Some p
      here = (head_of ps i p rest e).0

      by_step : Behind p rest i o c → (is_open p.token && eqb (o - c) 32) ≡ false → (n : Option State) → step s p.token ≡ n → Says text (stepped p.at n (goes p rest o c))
      by_step behind fits None f = fails_syntax text ps stop i s o c lexed h p here (shallow_test p.token o c fits) f
      by_step behind fits (Some next) f = behind next (progress_more ps i s next o c p h here (shallow_test p.token o c fits) f)

      by_test : Behind p rest i o c → (b : Bool) → (is_open p.token && eqb (o - c) 32) ≡ b
          → Says text (cond b (Err (refusal what.Deep p.at)) (stepped p.at (step s p.token) (goes p rest o c)))
      by_test behind true deep = let d = deep_test p.token o c deep in fails_deep text ps stop i s o c lexed h p here d.0 d.1
      by_test behind false fits = by_step behind fits (step s p.token) refl
