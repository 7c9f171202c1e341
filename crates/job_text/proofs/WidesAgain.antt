-- Wide numbers, as they are printed, are read as the same.
use Rattle.std.proofs.Common.{◌≡◌, ℕ, ◌^◌, ◌<◌, ◌-◌, Bool, true, false, cond, List, [], ◌∷◌, ◌++◌, length, map, refl, ◌∙◌, arith, append_assoc, append-nil, Some}
use Rattle.std.specs.Prelude.{Ok, nat_lt}
use Rattle.std.specs.Char.{digit_value}
use Rattle.std.specs.Fmt.{decimal}
use Rattle.std.specs.List.{list_all}
use Rattle.std.specs.Str.Parse.{AllDigits}
use Rattle.std.proofs.lemmas.Bool.{lt-ltb, le-leb}
use Rattle.std.proofs.lemmas.Fmt.{decimal_is_IsNumeral_wide}
use Rattle.std.proofs.lemmas.Str.Parse.{digit_from_value}
use Rattle.query_tokens.specs.Numbers.{is_digit, is_number_byte, all_digits}
use Rattle.serde_json.specs.Data.{number, unsigned, string}
use Rattle.serde_json.specs.View.{items_of}
use Rattle.job_values.specs.declared.member.Member.{Member}
use Rattle.job_values.specs.Values.{each}
use Rattle.job_values.specs.Wide.{is_number_run, number_text, wide}
use Rattle.job_text.specs.Parts.{wide_value, row_value}
use Rattle.job_table.specs.Limits.{IsRow}
use Rattle.job_table.specs.QueryTable.{row}

digit : (b : ℕ) → digit_value b < 10 → is_digit b ≡ true
digit b less = let range = digit_from_value b less in rw (le-leb 48 b range.0, le-leb b 57 range.1) refl

digits_all : (ds : List ℕ) → AllDigits 10 ds → all_digits 10 ds ≡ true
digits_all [] all = refl
digits_all (d ∷ ds) all = rw (lt-ltb (digit_value d) 10 all.0) (digits_all ds all.1)

run_all : (ds : List ℕ) → AllDigits 10 ds → list_all is_number_byte ds ≡ true
run_all [] all = refl
run_all (d ∷ ds) all = rw (digit d all.0) (run_all ds all.1)

run : (ds : List ℕ) → 0 < length ds → AllDigits 10 ds → is_number_run ds ≡ true
run [] some all = absurd (omega (arith, some))
run (d ∷ ds) some all = rw (digit d all.0) (run_all ds all.1)

text_again : (n : ℕ) → n < 2 ^ 128 → number_text (decimal n) ≡ Some n
text_again n less =
    let known = decimal_is_IsNumeral_wide n (omega (arith, less)) in
    rw (run (decimal n) known.0.0 known.0.1, digits_all (decimal n) known.0.1, known.1, le-leb n (2 ^ 128 - 1) (omega (arith, less))) refl

pub wide_again : (at : Member) (i n : ℕ) → n < 2 ^ 128 → wide at i (wide_value n) ≡ Ok n
wide_again at i n less = by_size (nat_lt n (2 ^ 64))
  where
    by_size : (t : Bool) → wide at i (cond t (number (unsigned n)) (string (decimal n))) ≡ Ok n
    by_size true = refl
    by_size false = rw (text_again n less) refl

row_again : (i : ℕ) (earlier : List (ℕ × ℕ)) (r : ℕ × ℕ) → IsRow r → row i earlier (row_value r) ≡ Ok (earlier ++ r ∷ [])
row_again i earlier r small = rw (wide_again _ i r.0 small.0, wide_again _ i r.1 small.1) refl

abbrev pub AllRows : List (ℕ × ℕ) → Type 0
AllRows [] = Unit {0}
AllRows (r ∷ rows) = IsRow r × AllRows rows

pub rows_again : (i : ℕ) (earlier more : List (ℕ × ℕ)) → AllRows more → each (row i) earlier (items_of (map row_value more)) ≡ Ok (earlier ++ more)
rows_again i earlier [] all = rw (append-nil earlier) refl
rows_again i earlier (r ∷ more) all = rw (row_again i earlier r all.0) (rows_again i (earlier ++ r ∷ []) more all.1 ∙ rw (append_assoc earlier (r ∷ []) more) refl)
