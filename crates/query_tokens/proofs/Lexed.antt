-- A loop that takes one token after another off a text.
use Rattle.std.proofs.Common.{◌≡◌, ℕ, ◌+◌, ◌<◌, ◌≤◌, List, [], ◌∷◌, ◌++◌, length, drop, Option, Some, None, refl, sym, subst, inl, inr, arith, append_assoc, append-nil}
use Rattle.std.specs.List.{prefix_len}
use Rattle.std.proofs.lemmas.List.Sums.{prefix_len-le-length}
use Rattle.query_tokens.specs.Lexing.{is_blank, behind_blanks, token_at, Stops, Lexes}
use Rattle.query_tokens.specs.declared.token.Token.{Token}
use Rattle.query_tokens.specs.declared.lexer.Placed.{Placed}

-- the same as Lexes, from a place that no blank stands at
abbrev pub Goes : List ℕ → ℕ → List Placed → Option ℕ → Type 0
Goes text at [] stop = Stops text at stop
Goes text at (p ∷ ps) stop = (p.at ≡ at) × (p.at < length text)
    × ((len : ℕ) × (0 < len) × (token_at p.at (drop p.at text) ≡ Some (p.token, len)) × Lexes text (p.at + len) ps stop)

lexes_from : (text : List ℕ) (at : ℕ) (ps : List Placed) (stop : Option ℕ) → Goes text (behind_blanks text at) ps stop → Lexes text at ps stop
lexes_from text at [] stop h = h
lexes_from text at (p ∷ ps) stop h = h

-- whatever goes on from `at` completes the text
pub record Lexed (text : List ℕ) (at : ℕ) (done : List Placed) : Type 0 where
  pub within : at ≤ length text
  pub completes : (ps : List Placed) (stop : Option ℕ) → Goes text at ps stop → Lexes text 0 (done ++ ps) stop

pub lexed_start : (text : List ℕ) (at : ℕ) → at ≡ prefix_len is_blank text → Lexed text at []
lexed_start text at e = record {
  within = omega (arith, prefix_len-le-length is_blank text);
  completes = λ ps stop h. lexes_from text 0 ps stop (subst (λ n. Goes text n ps stop) first h);
}
  where
    first : at ≡ behind_blanks text 0
    first = omega arith

pub lexed_more : (text : List ℕ) (at next len : ℕ) (done : List Placed) (token : Token) → Lexed text at done
    → at < length text → 0 < len → token_at at (drop at text) ≡ Some (token, len)
    → next ≡ at + len + prefix_len is_blank (drop (at + len) text) → next ≤ length text
    → Lexed text next (done ++ record { at = at; token = token } ∷ [])
lexed_more text at next len done token h here some found e within = record {
  within = within;
  completes = λ ps stop g.
      let p : Placed = record { at = at; token = token } in
      subst (λ l. Lexes text 0 l stop) (sym (append_assoc done (p ∷ []) ps))
      (h.completes (p ∷ ps) stop (refl, here, (len, some, found, lexes_from text (at + len) ps stop (subst (λ n. Goes text n ps stop) e g))));
}

pub lexed_end : (text : List ℕ) (at : ℕ) (done : List Placed) → Lexed text at done → length text ≤ at → Lexes text 0 done None
lexed_end text at done h end =
    let same : at ≡ length text = omega (arith, h.within) in
    subst (λ l. Lexes text 0 l None) (append-nil done) (h.completes [] None (inl (same, refl)))

pub lexed_stop : (text : List ℕ) (at : ℕ) (done : List Placed) → Lexed text at done → at < length text
    → token_at at (drop at text) ≡ None → Lexes text 0 done (Some at)
lexed_stop text at done h below none =
    subst (λ l. Lexes text 0 l (Some at)) (append-nil done) (h.completes [] (Some at) (inr (below, none, refl)))
