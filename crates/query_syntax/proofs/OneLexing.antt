-- A text is lexed in one way, and so has one outcome.
use Rattle.std.proofs.Common.{◌≡◌, ℕ, ◌+◌, ◌<◌, ◌≤◌, ◌⊎◌, List, [], ◌∷◌, length, drop, Option, Some, None, refl, sym, ap, subst, ◌∙◌, arith, inl, inr}
use Rattle.query_tokens.specs.declared.token.Token.{Token}
use Rattle.query_tokens.specs.declared.lexer.Placed.{Placed}
use Rattle.query_tokens.specs.Lexing.{Lexes, Stops, token_at}
use Rattle.query_syntax.specs.declared.fault.QueryWhat.{QueryWhat}
use Rattle.query_syntax.specs.declared.fault.QueryWhat.TheVariants as what
use Rattle.query_syntax.specs.Tree.{Tree}
use Rattle.query_syntax.specs.Grammar.{Derives}
use Rattle.query_syntax.specs.Faults.{tokens, HasFault, order, IsFirst, Reads, Fails}
use Rattle.query_syntax.proofs.Reading.{one_tree}

some_token : {x y : Token × ℕ} → ◌≡◌ {A = Option (Token × ℕ)} (Some x) (Some y) → x ≡ y
some_token e = cc

never_token : {x : Token × ℕ} → ◌≡◌ {A = Option (Token × ℕ)} None (Some x) → ⊥
never_token e = cc

stops_once : (text : List ℕ) (at : ℕ) (r s : Option ℕ) → Stops text at r → Stops text at s → r ≡ s
stops_once text at r s (inl h) (inl k) = h.1 ∙ sym k.1
stops_once text at r s (inl h) (inr k) = absurd (omega (arith, h.0, k.0))
stops_once text at r s (inr h) (inl k) = absurd (omega (arith, h.0, k.0))
stops_once text at r s (inr h) (inr k) = h.2 ∙ sym k.2

no_stop : (text : List ℕ) (at : ℕ) (r : Option ℕ) (q : Placed) (len : ℕ) → Stops text at r → q.at ≡ at → q.at < length text → token_at q.at (drop q.at text) ≡ Some (q.token, len) → ⊥
no_stop text at r q len (inl h) e within found = omega (arith, h.0, e, within)
no_stop text at r q len (inr h) e within found = never_token (sym h.1 ∙ subst (λ n. token_at n (drop n text) ≡ Some (q.token, len)) e found)

placed_same : (p q : Placed) → p.at ≡ q.at → p.token ≡ q.token → p ≡ q
placed_same p q e f = ap (λ n. record { at = n; token = p.token }) e ∙ ap (λ t. record { at = q.at; token = t }) f

pub record Same (ps qs : List Placed) (r s : Option ℕ) : Type 0 where
  pub list : ps ≡ qs
  pub stop : r ≡ s

pub one_lexing : (text : List ℕ) (at : ℕ) (ps qs : List Placed) (r s : Option ℕ) → Lexes text at ps r → Lexes text at qs s → Same ps qs r s
one_lexing text at [] [] r s h k = record { list = refl; stop = stops_once text _ r s h k }
one_lexing text at [] (q ∷ qs) r s h k = absurd (no_stop text _ r q k.2.0 h k.0 k.1 k.2.2)
one_lexing text at (p ∷ ps) [] r s h k = absurd (no_stop text _ s p h.2.0 k h.0 h.1 h.2.2)
one_lexing text at (p ∷ ps) (q ∷ qs) r s h k =
    let place : p.at ≡ q.at = h.0 ∙ sym k.0 in
    let pair = some_token (sym h.2.2 ∙ subst (λ n. token_at n (drop n text) ≡ Some (q.token, k.2.0)) (sym place) k.2.2) in
    let token : p.token ≡ q.token = ap (λ (x : Token × ℕ). x.0) pair in
    let len : h.2.0 ≡ k.2.0 = ap (λ (x : Token × ℕ). x.1) pair in
    let next : p.at + h.2.0 ≡ q.at + k.2.0 = omega (arith, place, len) in
    let rest = one_lexing text (p.at + h.2.0) ps qs r s h.2.3 (subst (λ n. Lexes text n qs s) (sym next) k.2.3) in
    record { list = ap (λ x. x ∷ ps) (placed_same p q place token) ∙ ap (λ l. q ∷ l) rest.list; stop = rest.stop }

pub one_read : (text : List ℕ) (t u : Tree) → Reads text t → Reads text u → t ≡ u
one_read text t u h k =
    let same = one_lexing text 0 h.0 k.0 None None h.1 k.1 in
    one_tree (tokens k.0) t u (subst (λ l. Derives (tokens l) t) same.list h.2) k.2

same_order : (w v : QueryWhat) → order w ≡ order v → w ≡ v
same_order what.Token what.Token e = refl
same_order what.Deep what.Deep e = refl
same_order what.Syntax what.Syntax e = refl
same_order what.Name what.Name e = refl
same_order _ _ e = absurd (omega (arith, e))

one_first : (len : ℕ) (ps : List Placed) (stop : Option ℕ) (w v : QueryWhat) (a b : ℕ) → IsFirst len ps stop w a → IsFirst len ps stop v b → (w ≡ v) × (a ≡ b)
one_first len ps stop w v a b h k = go (h.first v b k.stands) (k.first w a h.stands)
  where
    go : (a < b) ⊎ ((a ≡ b) × (order w ≤ order v)) → (b < a) ⊎ ((b ≡ a) × (order v ≤ order w)) → (w ≡ v) × (a ≡ b)
    go (inl x) (inl y) = absurd (omega (arith, x, y))
    go (inl x) (inr y) = absurd (omega (arith, x, y.0))
    go (inr x) (inl y) = absurd (omega (arith, x.0, y))
    go (inr x) (inr y) = (same_order w v (omega (arith, x.1, y.1)), x.0)

pub one_fault : (text : List ℕ) (w v : QueryWhat) (a b : ℕ) → Fails text w a → Fails text v b → (w ≡ v) × (a ≡ b)
one_fault text w v a b h k =
    let same = one_lexing text 0 h.0 k.0 h.1 k.1 h.2 k.2 in
    one_first (length text) k.0 k.1 w v a b (subst (λ l. IsFirst (length text) l k.1 w a) same.list (subst (λ s. IsFirst (length text) h.0 s w a) same.stop h.3)) k.3

pub never_both : (text : List ℕ) (t : Tree) (w : QueryWhat) (a : ℕ) → Reads text t → Fails text w a → ⊥
never_both text t w a h k =
    let same = one_lexing text 0 h.0 k.0 None k.1 h.1 k.2 in
    h.3 w a (subst (λ l. HasFault (length text) l None w a) (sym same.list) (subst (λ s. HasFault (length text) k.0 s w a) (sym same.stop) k.3.stands))
