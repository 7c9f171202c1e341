-- The hexadecimal digits of a number of at most 128 bits, the last one apart.
use Rattle.std.proofs.Common.{◌≡◌, ℕ, zero, suc, ◌/◌, ◌%◌, ◌<◌, ◌≤◌, ◌^◌, cond, false, List, [], ◌∷◌, ◌++◌, refl, sym, ap, ◌∙◌, append_assoc, ⊎_elim, arith, eq-eqb, ne_eqb}
use Rattle.std.proofs.lemmas.Bool.{cases_lt}
use Rattle.std.specs.Fmt.{digit_glyph, digits_onto, digits}

abbrev spell : ℕ → ℕ → List ℕ → List ℕ
spell k n acc = digits_onto k 16 false n acc

abbrev last_glyph : ℕ → ℕ
last_glyph n = digit_glyph false (n % 16)

spell_last : (k n : ℕ) (acc : List ℕ) → n < 16 → spell (suc k) n acc ≡ last_glyph n ∷ acc
spell_last k n acc h = ap (λ t. cond t (last_glyph n ∷ acc) (spell k (n / 16) (last_glyph n ∷ acc))) (eq-eqb (n / 16) 0 (omega arith))

spell_next : (k n : ℕ) (acc : List ℕ) → 16 ≤ n → spell (suc k) n acc ≡ spell k (n / 16) (last_glyph n ∷ acc)
spell_next k n acc h = ap (λ t. cond t (last_glyph n ∷ acc) (spell k (n / 16) (last_glyph n ∷ acc))) (ne_eqb (n / 16) 0 (λ e. omega arith))

spell-append : (k n : ℕ) (acc : List ℕ) → spell k n acc ≡ spell k n [] ++ acc
spell-append zero n acc = refl
spell-append (suc k) n acc = ⊎_elim
    (λ l. spell_last k n acc l ∙ ap (λ x. x ++ acc) (sym (spell_last k n [] l)))
    (λ l. spell_next k n acc l ∙ (spell-append k (n / 16) (last_glyph n ∷ acc) ∙ (sym (append_assoc (spell k (n / 16) []) (last_glyph n ∷ []) acc) ∙ ap (λ x. x ++ acc) (sym (spell_next k n [] l ∙ spell-append k (n / 16) (last_glyph n ∷ []))))))
    (cases_lt n 16)

-- how many digits may stand does not matter where all of them may
spell_enough : (j k n : ℕ) (acc : List ℕ) → n < 16 ^ suc j → n < 16 ^ suc k → spell (suc j) n acc ≡ spell (suc k) n acc
spell_enough zero k n acc p q = spell_last zero n acc (omega arith) ∙ sym (spell_last k n acc (omega arith))
spell_enough (suc j) zero n acc p q = spell_last (suc j) n acc (omega arith) ∙ sym (spell_last zero n acc (omega arith))
spell_enough (suc j) (suc k) n acc p q = ⊎_elim
    (λ l. spell_last (suc j) n acc l ∙ sym (spell_last (suc k) n acc l))
    (λ l. spell_next (suc j) n acc l ∙ (spell_enough j k (n / 16) (last_glyph n ∷ acc) (omega arith) (omega arith) ∙ sym (spell_next (suc k) n acc l)))
    (cases_lt n 16)

pub hex_digit : (n : ℕ) → n < 16 → digits 16 false n ≡ digit_glyph false n ∷ []
unfolding digits
hex_digit n h = spell_last 63 n [] h ∙ ap (λ d. digit_glyph false d ∷ []) (let same : n % 16 ≡ n = omega arith in same)

pub hex_step : (n : ℕ) → 16 ≤ n → n < 2 ^ 128 → digits 16 false n ≡ digits 16 false (n / 16) ++ (digit_glyph false (n % 16) ∷ [])
unfolding digits
hex_step n h small =
    spell_next 63 n [] h ∙ (spell_enough 62 63 (n / 16) (last_glyph n ∷ []) (omega arith) (omega arith) ∙ spell-append 64 (n / 16) (last_glyph n ∷ []))

-- one digit written after a text
pub pushed_digit : (old new : List ℕ) (n glyph : ℕ) → n < 16 → new ≡ old ++ (glyph ∷ []) → glyph ≡ digit_glyph false n → new ≡ old ++ digits 16 false n
pushed_digit old new n glyph small written is =
    written ∙ ap (λ g. old ++ g) (ap (λ g. g ∷ []) is ∙ sym (hex_digit n small))

-- the last digit written after the others
pub pushed_last : (old front new : List ℕ) (n glyph : ℕ) → 16 ≤ n → n < 2 ^ 128 → front ≡ old ++ digits 16 false (n / 16) → new ≡ front ++ (glyph ∷ []) → glyph ≡ digit_glyph false (n % 16) → new ≡ old ++ digits 16 false n
pushed_last old front new n glyph large fits before written is =
    written
    ∙ (ap (λ g. front ++ (g ∷ [])) is
    ∙ (ap (λ f. f ++ (digit_glyph false (n % 16) ∷ [])) before
    ∙ (append_assoc old (digits 16 false (n / 16)) (digit_glyph false (n % 16) ∷ [])
    ∙ ap (λ d. old ++ d) (sym (hex_step n large fits)))))
