-- The places of tokens rise, and lie before the text's end and before its first place of no token.
use Rattle.std.proofs.Common.{◌≡◌, ℕ, zero, suc, ◌+◌, ◌<◌, ◌≤◌, List, [], ◌∷◌, length, Option, Some, None, sym, ap, ◌∙◌, arith, slice_get, inl, inr}
use Rattle.query_tokens.specs.declared.lexer.Placed.{Placed}
use Rattle.query_tokens.specs.Lexing.{Lexes}

some_is : {p q : Placed} → ◌≡◌ {A = Option Placed} (Some p) (Some q) → p ≡ q
some_is e = cc

-- no token stands before the place where the lexing begins
pub place_from : (text : List ℕ) (at : ℕ) (ps : List Placed) (stop : Option ℕ) (k : ℕ) (q : Placed) → Lexes text at ps stop → slice_get ps k ≡ Some q → at ≤ q.at
place_from text at [] stop k q h e = absurd (never e)
  where
    never : ◌≡◌ {A = Option Placed} None (Some q) → ⊥
    never e = cc
place_from text at (p ∷ ps) stop zero q h e = let f = ap (λ (x : Placed). x.at) (some_is e) in omega (arith, h.0, f)
place_from text at (p ∷ ps) stop (suc k) q h e = let rest = place_from text (p.at + h.2.0) ps stop k q h.2.3 e in omega (arith, h.0, rest)

pub place_within : (text : List ℕ) (at : ℕ) (ps : List Placed) (stop : Option ℕ) (k : ℕ) (q : Placed) → Lexes text at ps stop → slice_get ps k ≡ Some q → q.at < length text
place_within text at [] stop k q h e = absurd (never e)
  where
    never : ◌≡◌ {A = Option Placed} None (Some q) → ⊥
    never e = cc
place_within text at (p ∷ ps) stop zero q h e = let f = ap (λ (x : Placed). x.at) (some_is e) in omega (arith, h.1, f)
place_within text at (p ∷ ps) stop (suc k) q h e = place_within text (p.at + h.2.0) ps stop k q h.2.3 e

stop_from : (text : List ℕ) (at : ℕ) (ps : List Placed) (stop : Option ℕ) (b : ℕ) → Lexes text at ps stop → stop ≡ Some b → at ≤ b
stop_from text at [] stop b (inl h) e = absurd (never (sym h.1 ∙ e))
  where
    never : ◌≡◌ {A = Option ℕ} None (Some b) → ⊥
    never e = cc
stop_from text at [] stop b (inr h) e = let f = same (sym h.2 ∙ e) in omega (arith, f)
  where
    same : {x y : ℕ} → ◌≡◌ {A = Option ℕ} (Some x) (Some y) → x ≡ y
    same e = cc
stop_from text at (p ∷ ps) stop b h e = let rest = stop_from text (p.at + h.2.0) ps stop b h.2.3 e in omega (arith, h.0, rest)

pub place_before_stop : (text : List ℕ) (at : ℕ) (ps : List Placed) (stop : Option ℕ) (k : ℕ) (q : Placed) (b : ℕ) → Lexes text at ps stop → slice_get ps k ≡ Some q → stop ≡ Some b → q.at < b
place_before_stop text at [] stop k q b h e f = absurd (never e)
  where
    never : ◌≡◌ {A = Option Placed} None (Some q) → ⊥
    never e = cc
place_before_stop text at (p ∷ ps) stop zero q b h e f =
    let same = ap (λ (x : Placed). x.at) (some_is e) in
    let rest = stop_from text (p.at + h.2.0) ps stop b h.2.3 f in
    omega (arith, same, rest, h.2.1)
place_before_stop text at (p ∷ ps) stop (suc k) q b h e f = place_before_stop text (p.at + h.2.0) ps stop k q b h.2.3 e f

pub places_rise : (text : List ℕ) (at : ℕ) (ps : List Placed) (stop : Option ℕ) (j k : ℕ) (p q : Placed) → Lexes text at ps stop → slice_get ps j ≡ Some p → slice_get ps k ≡ Some q → j < k → p.at < q.at
places_rise text at [] stop j k p q h e f less = absurd (never e)
  where
    never : ◌≡◌ {A = Option Placed} None (Some p) → ⊥
    never e = cc
places_rise text at (x ∷ ps) stop zero zero p q h e f less = absurd (omega arith)
places_rise text at (x ∷ ps) stop (suc j) zero p q h e f less = absurd (omega arith)
places_rise text at (x ∷ ps) stop zero (suc k) p q h e f less =
    let same = ap (λ (y : Placed). y.at) (some_is e) in
    let rest = place_from text (x.at + h.2.0) ps stop k q h.2.3 f in
    omega (arith, same, rest, h.2.1)
places_rise text at (x ∷ ps) stop (suc j) (suc k) p q h e f less = places_rise text (x.at + h.2.0) ps stop j k p q h.2.3 e f (omega arith)
