-- A text that is one number token has that number alone.
use Rattle.std.proofs.Common.{◌≡◌, ℕ, ◌<◌, Bool, true, false, ◌&&◌, List, [], ◌∷◌, length, drop, Option, Some, None, refl, sym, ap, ◌∙◌, subst, arith, inl, inr}
use Rattle.std.specs.List.{list_all, prefix_len}
use Rattle.std.specs.Prelude.{slice_index, option_map, nat_le, ◌==◌}
use Rattle.std.proofs.lemmas.Bool.{leb-true}
use Rattle.std.proofs.lemmas.List.{take_all}
use Rattle.query_tokens.specs.Numbers.{is_digit, is_number_byte, number_of}
use Rattle.query_tokens.specs.Lexing.{is_blank, behind_blanks, token_at, Lexes}
use Rattle.query_tokens.specs.declared.token.Token.{Token}
use Rattle.query_tokens.specs.declared.token.Token.TheVariants.{Number}
use Rattle.query_tokens.specs.declared.lexer.Placed.{Placed}
use Rattle.job_values.specs.Wide.{is_number_run, number_text, only_number}

and_parts : (a b : Bool) → (a && b) ≡ true → (a ≡ true) × (b ≡ true)
and_parts true b h = (refl, h)
and_parts false b h = cc

whole_run : (p : ℕ → Bool) (xs : List ℕ) → list_all p xs ≡ true → prefix_len p xs ≡ length xs
whole_run p [] e = refl
whole_run p (x ∷ xs) e = let parts = and_parts (p x) (list_all p xs) e in rw (parts.0, whole_run p xs parts.1) (omega arith)

no_blank : (b : ℕ) → is_digit b ≡ true → is_blank b ≡ false
no_blank b e = let low = leb-true 48 b (and_parts (nat_le 48 b) (nat_le b 57) e).0 in neq b 32 (omega arith)
  where
    neq : (a c : ℕ) → c < a → (a == c) ≡ false
    neq a c less = Prim.grind arith

some_same : {A : Type 0} {x y : A} → Some x ≡ Some y → x ≡ y
some_same e = cc

none_some : {A B : Type 0} {x : A} → None ≡ Some x → B
none_some e = cc

nonempty : (xs : List ℕ) → is_digit (slice_index xs 0) ≡ true → 0 < length xs
nonempty [] e = cc
nonempty (x ∷ xs) e = omega arith

module _ (text : List ℕ) (digit : is_digit (slice_index text 0) ≡ true) (run : list_all is_number_byte text ≡ true) where
  starts : (xs : List ℕ) → is_digit (slice_index xs 0) ≡ true → behind_blanks xs 0 ≡ 0
  starts [] e = refl
  starts (b ∷ bs) e = rw (no_blank b e) refl

  abbrev found : Option ℕ → Option (Token × ℕ)
  found o = option_map (λ n. (Number n, length text)) o

  token_is : token_at 0 text ≡ found (number_of text)
  token_is = rw (digit, whole_run is_number_byte text run, take_all (length text) text (omega arith)) refl

  first : (p : Placed) (ps : List Placed) (stop : Option ℕ) (h : Lexes text 0 (p ∷ ps) stop) → token_at 0 text ≡ Some (p.token, h.2.0)
  first p ps stop h = subst (λ at. token_at at (drop at text) ≡ Some (p.token, h.2.0)) (h.0 ∙ starts text digit) h.2.2

  first_token : (p : Placed) (ps : List Placed) (stop : Option ℕ) (n : ℕ) → number_of text ≡ Some n → (h : Lexes text 0 (p ∷ ps) stop)
      → (p.token ≡ Number n) × (h.2.0 ≡ length text)
  first_token p ps stop n e h =
      let same : (p.token, h.2.0) ≡ (Number n, length text) = some_same (sym (first p ps stop h) ∙ token_is ∙ ap found e) in
      (ap (λ x. x.0) same, ap (λ x. x.1) same)

  pub only_is : (ps : List Placed) (stop : Option ℕ) → Lexes text 0 ps stop → only_number ps ≡ number_of text
  only_is ps stop h = go ps stop (number_of text) refl h
    where
      go : (ps : List Placed) (stop : Option ℕ) (o : Option ℕ) → number_of text ≡ o → Lexes text 0 ps stop → only_number ps ≡ o
      go [] stop None e h = refl
      go [] stop (Some n) e (inl h) = absurd (omega (arith, nonempty text digit, h.0, starts text digit))
      go [] stop (Some n) e (inr h) =
          none_some (sym (subst (λ at. token_at at (drop at text) ≡ None) (starts text digit) h.1) ∙ token_is ∙ ap found e)
      go (p ∷ ps) stop None e h = none_some (sym (ap found e) ∙ sym token_is ∙ first p ps stop h)
      go (p ∷ []) stop (Some n) e h = rw (first_token p [] stop n e h).0 refl
      go (p ∷ q ∷ ps) stop (Some n) e h = absurd (omega (arith, (first_token p (q ∷ ps) stop n e h).1, h.2.3.0, h.2.3.1))

pub number_is : (text : List ℕ) (ps : List Placed) (stop : Option ℕ) → is_number_run text ≡ true → Lexes text 0 ps stop → only_number ps ≡ number_text text
number_is text ps stop run h =
    let parts = and_parts (is_digit (slice_index text 0)) (list_all is_number_byte text) run in
    only_is text parts.0 parts.1 ps stop h ∙ rw run refl
