-- A loop that reads digits.
use Rattle.std.proofs.Common.{◌≡◌, ℕ, ◌+◌, ◌*◌, ◌<◌, ◌≤◌, Bool, true, false, ◌&&◌, cond, leb, List, [], ◌∷◌, length, get_or, drop, Some, None, refl, ap, ◌∙◌, arith}
use Rattle.std.specs.Char.{digit_value}
use Rattle.std.specs.Str.Parse.{digits_value, digits_value_after}
use Rattle.std.proofs.lemmas.List.{at_drop_more, at_drop_all}
use Rattle.std.proofs.lemmas.Bool.{le-ltb, lt-ltb, lt-leb}
use Rattle.std.proofs.Math.Nat.{mul-le-mul_left}
use Rattle.query_tokens.specs.Numbers.{all_digits, numeral}

-- digits behind a number make it no less
pub after_ge : (base n : ℕ) (ds : List ℕ) → 1 ≤ base → n ≤ digits_value_after base n ds
after_ge base n [] h = omega arith
after_ge base n (d ∷ ds) h =
    let rest = after_ge base (n * base + digit_value d) ds h in
    omega (arith, rest, mul-le-mul_left n h)

-- the first i bytes are digits, and write n
pub record Reads (base : ℕ) (digits : List ℕ) (n i : ℕ) : Type 0 where
  pub digits_so_far : all_digits base digits ≡ all_digits base (drop i digits)
  pub value_so_far : digits_value base digits ≡ digits_value_after base n (drop i digits)

-- one digit more
pub reads_more : (base : ℕ) (digits : List ℕ) (n i : ℕ) → Reads base digits n i → i < length digits
    → digit_value (get_or digits i 0) < base → Reads base digits (n * base + digit_value (get_or digits i 0)) (i + 1)
reads_more base digits n i h here small = record {
  digits_so_far = h.digits_so_far ∙ at_drop_more (all_digits base) digits i 0 here ∙ ap (λ b. b && all_digits base (drop (i + 1) digits)) (lt-ltb _ _ small);
  value_so_far = h.value_so_far ∙ at_drop_more (digits_value_after base n) digits i 0 here;
}

refused : (all fits : Bool) (n : ℕ) → (all ≡ false) → cond (all && fits) (Some n) None ≡ None
refused all fits n e = rw e refl

too_large : (all fits : Bool) (n : ℕ) → (fits ≡ false) → cond (all && fits) (Some n) None ≡ None
too_large true fits n e = rw e refl
too_large false fits n e = refl

-- a byte that is no digit
pub reads_bad : (base most : ℕ) (digits : List ℕ) (n i : ℕ) → Reads base digits n i → i < length digits
    → base ≤ digit_value (get_or digits i 0) → numeral base most digits ≡ None
reads_bad base most digits n i h here large =
    refused _ _ _ (h.digits_so_far ∙ at_drop_more (all_digits base) digits i 0 here ∙ ap (λ b. b && all_digits base (drop (i + 1) digits)) (le-ltb _ _ large))

-- a number that is too large
pub reads_over : (base most : ℕ) (digits : List ℕ) (n i : ℕ) → Reads base digits n i → i < length digits → 1 ≤ base
    → most < n * base + digit_value (get_or digits i 0) → numeral base most digits ≡ None
reads_over base most digits n i h here positive over =
    let more : digits_value base digits ≡ digits_value_after base (n * base + digit_value (get_or digits i 0)) (drop (i + 1) digits) = h.value_so_far ∙ at_drop_more (digits_value_after base n) digits i 0 here in
    let large = after_ge base (n * base + digit_value (get_or digits i 0)) (drop (i + 1) digits) positive in
    let past : most < digits_value base digits = omega arith in
    too_large _ _ _ (lt-leb _ _ past)

-- all are read
pub reads_all : (base most : ℕ) (digits : List ℕ) (n i : ℕ) → Reads base digits n i → length digits ≤ i
    → numeral base most digits ≡ cond (leb n most) (Some n) None
reads_all base most digits n i h end =
    let all = h.digits_so_far ∙ at_drop_all (all_digits base) digits i end in
    let value = h.value_so_far ∙ at_drop_all (digits_value_after base n) digits i end in
    rw (all, value) refl
