-- The function of a text's tokens is its one lexing.
use Rattle.std.proofs.Common.{◌≡◌, ℕ, zero, suc, ◌+◌, ◌<◌, ◌≤◌, Bool, ◌&&◌, true, false, List, [], ◌∷◌, length, drop, Option, Some, None, refl, sym, ap, subst, inl, inr, ◌⊎◌, cond, take, arith, lt-ltb}
use Rattle.std.proofs.lemmas.Bool.{le-ltb, ltb-true, ltb-false}
use Rattle.std.proofs.lemmas.List.{length-drop}
use Rattle.std.proofs.lemmas.List.Sums.{prefix_len-le-length}
use Rattle.std.specs.List.{prefix_len}
use Rattle.std.specs.Option.{option_or}
use Rattle.std.specs.Prelude.{nat_lt, slice_index, option_map, ◌==◌}
use Rattle.query_tokens.specs.Numbers.{is_digit, is_number_byte, number_of}
use Rattle.query_tokens.specs.Words.{begins_word, is_word_byte, word_token}
use Rattle.query_tokens.specs.Signs.{double_sign, single_sign, sign}
use Rattle.query_tokens.specs.declared.token.Token.{Token}
use Rattle.query_tokens.specs.declared.token.Token.TheVariants.{Number}
use Rattle.query_tokens.proofs.Prefixes.{prefix_len_positive}
use Rattle.query_tokens.specs.Lexing.{is_blank, behind_blanks, number_token, token_at, Lexes}
use Rattle.query_tokens.specs.declared.lexer.Placed.{Placed}
use Rattle.job_values.specs.Parsed.{Lexed, placed, lexed_from, lexed}

pub lexed_is : (n : ℕ) (text : List ℕ) (at : ℕ) (ps : List Placed) (stop : Option ℕ) → length text < at + n → Lexes text at ps stop → lexed_from n text at ≡ (ps, stop)
unfolding lexed_from
lexed_is zero text at [] stop room (inl h) = absurd (omega (arith, h.0))
lexed_is zero text at [] stop room (inr h) = absurd (omega (arith, h.0))
lexed_is zero text at (p ∷ ps) stop room h = absurd (omega (arith, h.0, h.1))
lexed_is (suc n) text at [] stop room (inl h) =
    let off : nat_lt (behind_blanks text at) (length text) ≡ false = le-ltb (behind_blanks text at) (length text) (omega (arith, h.0)) in
    rw (off, h.1) refl
lexed_is (suc n) text at [] stop room (inr h) =
    let on : nat_lt (behind_blanks text at) (length text) ≡ true = lt-ltb (behind_blanks text at) (length text) h.0 in
    rw (on, h.1, h.2) refl
lexed_is (suc n) text at (p ∷ ps) stop room h =
    let on : nat_lt (behind_blanks text at) (length text) ≡ true = lt-ltb (behind_blanks text at) (length text) (omega (arith, h.0, h.1)) in
    let here : token_at (behind_blanks text at) (drop (behind_blanks text at) text) ≡ Some (p.token, h.2.0) = subst (λ a. token_at a (drop a text) ≡ Some (p.token, h.2.0)) h.0 h.2.2 in
    let more : lexed_from n text (p.at + h.2.0) ≡ (ps, stop) = lexed_is n text (p.at + h.2.0) ps stop (omega (arith, h.0, h.2.1)) h.2.3 in
    rw (on, here, sym h.0, more) refl

-- ---- it is one

-- a token's length: at least a byte, and no more than there are
abbrev Fits : List ℕ → ℕ → Type 0
Fits bytes len = (0 < len) × (len ≤ length bytes)

none_some : {A B : Type 0} {x : A} → ◌≡◌ {A = Option A} None (Some x) → B
none_some e = cc

some_same : {A : Type 0} {x y : A} → ◌≡◌ {A = Option A} (Some x) (Some y) → x ≡ y
some_same e = cc

fits_as : (bytes : List ℕ) (t u : Token) (n m : ℕ) → ◌≡◌ {A = Option (Token × ℕ)} (Some (t, n)) (Some (u, m)) → Fits bytes n → Fits bytes m
fits_as bytes t u n m e h = subst (Fits bytes) (ap (λ p. p.1) (some_same e)) h

number_fits : (bytes : List ℕ) (o : Option ℕ) (t : Token) (n len : ℕ) → Fits bytes n → option_map {U = Token × ℕ} (λ k. (Number k, n)) o ≡ Some (t, len) → Fits bytes len
number_fits bytes None t n len h e = none_some e
number_fits bytes (Some k) t n len h e = fits_as bytes (Number k) t n len e h

never : (t : Bool) → (t && false) ≡ false
never true = refl
never false = refl

no_double : (a : ℕ) → double_sign a 0 ≡ None
no_double a = rw (never (a == 124), never (a == 38), never (a == 61), never (a == 33), never (a == 60), never (a == 62)) refl

either_sign : (bytes : List ℕ) (two one : Option Token) (t : Token) (len : ℕ) → (two ≡ None) ⊎ (2 ≤ length bytes) → 0 < length bytes
    → option_or {T = Token × ℕ} (option_map (λ k. (k, 2)) two) (option_map (λ k. (k, 1)) one) ≡ Some (t, len) → Fits bytes len
either_sign bytes (Some k) one t len (inl none) some e = none_some (sym none)
either_sign bytes (Some k) one t len (inr long) some e = fits_as bytes k t 2 len e (omega arith, long)
either_sign bytes None (Some k) t len long some e = fits_as bytes k t 1 len e (omega arith, omega (arith, some))
either_sign bytes None None t len long some e = none_some e

sign_fits : (bytes : List ℕ) (t : Token) (len : ℕ) → 0 < length bytes → sign bytes ≡ Some (t, len) → Fits bytes len
sign_fits [] t len some e = absurd (omega (arith, some))
sign_fits (a ∷ []) t len some e = either_sign (a ∷ []) (double_sign a 0) (single_sign a) t len (inl (no_double a)) some e
sign_fits (a ∷ b ∷ bytes) t len some e = either_sign (a ∷ b ∷ bytes) (double_sign a b) (single_sign a) t len (inr (omega arith)) some e

token_fits : (at : ℕ) (bytes : List ℕ) (t : Token) (len : ℕ) → 0 < length bytes → token_at at bytes ≡ Some (t, len) → Fits bytes len
token_fits at bytes t len some e = by_class (is_digit (slice_index bytes 0)) (begins_word (slice_index bytes 0)) refl refl e
  where
    by_class : (d w : Bool) → is_digit (slice_index bytes 0) ≡ d → begins_word (slice_index bytes 0) ≡ w
        → ◌≡◌ {A = Option (Token × ℕ)} (cond d (number_token bytes) (cond w (Some (word_token at (take (prefix_len is_word_byte bytes) bytes), prefix_len is_word_byte bytes)) (sign bytes))) (Some (t, len))
        → Fits bytes len
    by_class true w digit word e =
        number_fits bytes (number_of (take (prefix_len is_number_byte bytes) bytes)) t (prefix_len is_number_byte bytes) len
        (prefix_len_positive is_number_byte bytes some (rw digit refl), prefix_len-le-length is_number_byte bytes) e
    by_class false true digit word e =
        fits_as bytes _ t (prefix_len is_word_byte bytes) len e
        (prefix_len_positive is_word_byte bytes some (rw word refl), prefix_len-le-length is_word_byte bytes)
    by_class false false digit word e = sign_fits bytes t len some e

module _ (text : List ℕ) where
  within : (at : ℕ) → at ≤ length text → behind_blanks text at ≤ length text
  within at low = omega (arith, low, prefix_len-le-length is_blank (drop at text), length-drop at text)

  abbrev HasLexed : ℕ → Lexed → Type 0
  HasLexed at l = Lexes text at l.0 l.1

  at_token : (n at : ℕ) → ((next : ℕ) → at < next → next ≤ length text → HasLexed next (lexed_from n text next)) → behind_blanks text at < length text
      → (o : Option (Token × ℕ)) → token_at (behind_blanks text at) (drop (behind_blanks text at) text) ≡ o
      → HasLexed at (placed (behind_blanks text at) o (lexed_from n text))
  at_token n at more less None e = inr (less, e, refl)
  at_token n at more less (Some (token, len)) e =
      let b = behind_blanks text at in
      let size = length-drop b text in
      let fits = token_fits b (drop b text) token len (omega (arith, size, less)) e in
      (refl, less, (len, fits.0, e, more (b + len) (omega (arith, fits.0)) (omega (arith, size, less, fits.1))))

  by_end : (n at : ℕ) → ((next : ℕ) → at < next → next ≤ length text → HasLexed next (lexed_from n text next)) → at ≤ length text
      → (t : Bool) → nat_lt (behind_blanks text at) (length text) ≡ t
      → HasLexed at (cond t (placed (behind_blanks text at) (token_at (behind_blanks text at) (drop (behind_blanks text at) text)) (lexed_from n text)) ([], None))
  by_end n at more low true e =
      at_token n at more (ltb-true (behind_blanks text at) (length text) e) (token_at (behind_blanks text at) (drop (behind_blanks text at) text)) refl
  by_end n at more low false e = inl (omega (arith, ltb-false (behind_blanks text at) (length text) e, within at low), refl)

  from_lexed : (n at : ℕ) → at ≤ length text → length text < at + n → HasLexed at (lexed_from n text at)
  unfolding lexed_from
  from_lexed zero at low room = absurd (omega (arith, low, room))
  from_lexed (suc n) at low room =
      by_end n at (λ next later low_next. from_lexed n next low_next (omega (arith, room, later))) low (nat_lt (behind_blanks text at) (length text)) refl

  pub lexes_lexed : HasLexed 0 (lexed text)
  lexes_lexed = from_lexed (suc (length text)) 0 (omega arith) (omega arith)
