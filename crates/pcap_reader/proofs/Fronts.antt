-- What stands at the front of bytes stays when bytes follow.
use Rattle.std.proofs.Common.{◌≡◌, ◌≤◌, ◌<◌, ℕ, ◌+◌, ◌-◌, List, ◌++◌, length, take, drop, Bool, true, false, refl, sym, ap, ◌∙◌, arith, length-drop, length-append}
use Rattle.std.specs.Prelude.{nat_le, ◌&&◌, ◌⊎◌, nat_lt, Option, Some, None, Result, Err}
use Rattle.std.proofs.lemmas.Bool.{cases_lt}
use Rattle.pcap_reader.specs.declared.format.Precision.{Precision}
use Rattle.std.proofs.Common.{cond, inl, inr}
use Rattle.ds_base.specs.declared.capture.Bad.{Bad}
use Rattle.ds_base.specs.declared.capture.PcapFault.TheVariants.{TooLong, TooMany}
use Rattle.std.proofs.lemmas.Bool.Decides.{nat_tests}
use Rattle.std.proofs.lemmas.List.{take-append-le, drop-append-le, drop_at, take_all, length-take, take-append-drop}
use Rattle.capture_bytes.specs.declared.endian.Endian.{Endian}
use Rattle.capture_bytes.specs.declared.endian.Endian.TheVariants.{Little, Big}
use Rattle.pcap_reader.specs.declared.format.Format.{Format}
use Rattle.capture_bytes.specs.Number.{number}
use Rattle.pcap_reader.specs.Format.{word, is_link, bad_at, header_of, format_by_magic, magic_of, short_header, is_short_header}
use Rattle.pcap_reader.specs.Records.{most_records, record_fault, IsLast, longest, captured_length, record_length, begins_record, shown, first_record}

-- four bytes that are all there
four_append : (xs ys : List ℕ) (at : ℕ) → at + 4 ≤ length xs → take 4 (drop at (xs ++ ys)) ≡ take 4 (drop at xs)
four_append xs ys at fits =
    ap (take 4) (drop-append-le at xs ys (omega arith))
    ∙ take-append-le 4 (drop at xs) ys (omega (arith, length-drop at xs))

pub word_append : (e : Endian) (xs ys : List ℕ) (at : ℕ) → at + 4 ≤ length xs → word e (xs ++ ys) at ≡ word e xs at
unfolding number
word_append Little xs ys at fits = rw (four_append xs ys at fits) refl
word_append Big xs ys at fits = rw (four_append xs ys at fits) refl

-- what the test of a whole record says
pub record Fits (f : Format) (xs : List ℕ) : Type 0 where
  pub header : 16 ≤ length xs
  pub lawful : captured_length f xs ≤ longest
  pub whole : record_length f xs ≤ length xs

pub begins_fits : (f : Format) (xs : List ℕ) → begins_record f xs ≡ true → Fits f xs
unfolding begins_record
begins_fits f xs h = record {
  header = grind (arith, nat_tests);
  lawful = grind (arith, nat_tests);
  whole = grind (arith, nat_tests);
}

pub fits_begins : (f : Format) (xs : List ℕ) → Fits f xs → begins_record f xs ≡ true
unfolding begins_record
fits_begins f xs h = grind (arith, nat_tests, h.header, h.lawful, h.whole)

pub length_stays : (f : Format) (xs ys : List ℕ) → 16 ≤ length xs → record_length f (xs ++ ys) ≡ record_length f xs
length_stays f xs ys h = ap (λ n. 16 + n) (word_append f.endian xs ys 8 (omega arith))

pub begins_append : (f : Format) (xs ys : List ℕ) → begins_record f xs ≡ true → begins_record f (xs ++ ys) ≡ true
begins_append f xs ys h =
    let p : Fits f xs = begins_fits f xs h in
    let e : record_length f (xs ++ ys) ≡ record_length f xs = length_stays f xs ys p.header in
    fits_begins f (xs ++ ys) (record {
      header = omega (arith, p.header, length-append xs ys);
      lawful = omega (arith, p.lawful, e);
      whole = omega (arith, p.whole, e, length-append xs ys);
    })

-- the first record and what stands after it, where bytes follow
pub first_append : (f : Format) (number : ℕ) (xs ys : List ℕ) → begins_record f xs ≡ true → first_record f number (xs ++ ys) ≡ first_record f number xs
first_append f number xs ys h =
    let p : Fits f xs = begins_fits f xs h in
    ap (shown f number) (ap (λ n. take n (xs ++ ys)) (length_stays f xs ys p.header) ∙ take-append-le (record_length f xs) xs ys p.whole)

pub behind_append : (f : Format) (xs ys : List ℕ) → begins_record f xs ≡ true
    → drop (record_length f (xs ++ ys)) (xs ++ ys) ≡ drop (record_length f xs) xs ++ ys
behind_append f xs ys h =
    let p : Fits f xs = begins_fits f xs h in
    ap (λ n. drop n (xs ++ ys)) (length_stays f xs ys p.header) ∙ drop-append-le (record_length f xs) xs ys p.whole

-- the last bytes of a list that had them put at its end
pub last_of_append : (xs ys zs : List ℕ) (n : ℕ) → zs ≡ xs ++ ys → length ys ≡ n → drop (length zs - n) zs ≡ ys
last_of_append xs ys zs n e h =
    let at : length xs ≡ length zs - n = omega (arith, ap length e, length-append xs ys, h) in
    ap (drop (length zs - n)) e ∙ drop_at xs ys (length zs - n) at

pub length_last : (xs : List ℕ) (n : ℕ) → n ≤ length xs → length (drop (length xs - n) xs) ≡ n
length_last xs n h = omega (arith, length-drop (length xs - n) xs, h)

pub shown_link : (f : Format) (number : ℕ) (slice : List ℕ) → (shown f number slice).link ≡ f.link
unfolding shown
shown_link f number slice = refl

pub shown_number : (f : Format) (number : ℕ) (slice : List ℕ) → (shown f number slice).number ≡ number
unfolding shown
shown_number f number slice = refl

pub length-shown : (f : Format) (number : ℕ) (slice : List ℕ) → length (shown f number slice).bytes ≡ length slice - 16
unfolding shown
length-shown f number slice = length-drop 16 slice

-- a lawful link type word
pub link_cases : (link : ℕ) → is_link link ≡ true → (link ≡ 1) ⊎ (link ≡ 101)
link_cases link h = grind (arith, nat_tests)

-- which of two faults a choice is
chosen : (p q r : Bool) (x y b : Bad) → cond p (cond q (Some x) None) (cond r (Some y) None) ≡ Some b
    → ((p ≡ true) × (q ≡ true) × (x ≡ b)) ⊎ ((p ≡ false) × (r ≡ true) × (y ≡ b))
chosen true true r x y b h = inl (refl, refl, cc)
chosen true false r x y b h = cc
chosen false q true x y b h = inr (refl, refl, cc)
chosen false q false x y b h = cc

choose_first : (p q r : Bool) (x y b : Bad) → p ≡ true → q ≡ true → x ≡ b → cond p (cond q (Some x) None) (cond r (Some y) None) ≡ Some b
choose_first p q r x y b hp hq hx = rw (hp, hq, hx) refl

choose_second : (p q r : Bool) (x y b : Bad) → p ≡ false → r ≡ true → y ≡ b → cond p (cond q (Some x) None) (cond r (Some y) None) ≡ Some b
choose_second p q r x y b hp hr hy = rw (hp, hr, hy) refl

-- the two malformed places after whole records
pub record IsTooLong (f : Format) (count at : ℕ) (xs : List ℕ) (b : Bad) : Type 0 where
  pub few : count < most_records
  pub header : 16 ≤ length xs
  pub long : longest < captured_length f xs
  pub place : bad_at (at + 8) (TooLong count (captured_length f xs)) ≡ b

pub record IsTooMany (count at : ℕ) (xs : List ℕ) (b : Bad) : Type 0 where
  pub many : most_records ≤ count
  pub some : 0 < length xs
  pub place : bad_at at TooMany ≡ b

pub fault_cases : (f : Format) (count at : ℕ) (xs : List ℕ) (b : Bad) → record_fault f count at xs ≡ Some b
    → IsTooLong f count at xs b ⊎ IsTooMany count at xs b
unfolding record_fault
fault_cases f count at xs b h =
    elim (chosen (nat_lt count most_records) (nat_le 16 (length xs) && nat_lt longest (captured_length f xs)) (nat_lt 0 (length xs))
    (bad_at (at + 8) (TooLong count (captured_length f xs))) (bad_at at TooMany) b h) [
      | inl p ↦ inl (record {
        few = grind (arith, nat_tests, p.0);
        header = grind (arith, nat_tests, p.1);
        long = grind (arith, nat_tests, p.1);
        place = p.2;
      })
      | inr p ↦ inr (record {
        many = grind (arith, nat_tests, p.0);
        some = grind (arith, nat_tests, p.1);
        place = p.2;
      })
    ]

unlawful : (f : Format) (xs : List ℕ) → longest < captured_length f xs → begins_record f xs ≡ false
unfolding begins_record
unlawful f xs h = grind (arith, nat_tests)

both_true : (a b c d : ℕ) → a ≤ b → c < d → (nat_le a b && nat_lt c d) ≡ true
both_true a b c d h k = grind (arith, nat_tests)

-- a record of unlawful length is no record
too_long_last : (f : Format) (xs ys : List ℕ) → 16 ≤ length xs → longest < captured_length f xs → begins_record f (xs ++ ys) ≡ false
too_long_last f xs ys header long =
    let same : captured_length f (xs ++ ys) ≡ captured_length f xs = word_append f.endian xs ys 8 (omega arith) in
    unlawful f (xs ++ ys) (omega (arith, long, same))

-- a malformed place at the front of the rest stays, whatever bytes follow
pub last_append : (f : Format) (count at : ℕ) (xs ys : List ℕ) (b : Bad) → record_fault f count at xs ≡ Some b → IsLast f count (xs ++ ys)
last_append f count at xs ys b h few =
    elim (fault_cases f count at xs b h) [
      | inl p ↦ too_long_last f xs ys p.header p.long
      | inr p ↦ absurd (omega (arith, p.many, few))
    ]

pub fault_append : (f : Format) (count at : ℕ) (xs ys : List ℕ) (b : Bad) → record_fault f count at xs ≡ Some b → record_fault f count at (xs ++ ys) ≡ Some b
unfolding record_fault
fault_append f count at xs ys b h =
    elim (fault_cases f count at xs b h) [
      | inl p ↦
          let same : captured_length f (xs ++ ys) ≡ captured_length f xs = word_append f.endian xs ys 8 (omega (arith, p.header)) in
          choose_first (nat_lt count most_records) (nat_le 16 (length (xs ++ ys)) && nat_lt longest (captured_length f (xs ++ ys))) (nat_lt 0 (length (xs ++ ys)))
          (bad_at (at + 8) (TooLong count (captured_length f (xs ++ ys)))) (bad_at at TooMany) b
          (grind (arith, nat_tests, p.few))
          (both_true 16 (length (xs ++ ys)) longest (captured_length f (xs ++ ys)) (omega (arith, p.header, length-append xs ys)) (omega (arith, p.long, same)))
          (ap (λ (n : ℕ). bad_at (at + 8) (TooLong count n)) same ∙ p.place)
      | inr p ↦
          let some : 0 < length (xs ++ ys) = omega (arith, p.some, length-append xs ys) in
          choose_second (nat_lt count most_records) (nat_le 16 (length (xs ++ ys)) && nat_lt longest (captured_length f (xs ++ ys))) (nat_lt 0 (length (xs ++ ys)))
          (bad_at (at + 8) (TooLong count (captured_length f (xs ++ ys)))) (bad_at at TooMany) b
          (grind (arith, nat_tests, p.many)) (grind (arith, nat_tests, some)) p.place
    ]

-- a file that is too short for its header is told apart from every other fault
not_short : (r : Result Format Bad) (xs : List ℕ) (b : Bad) → r ≡ Err (short_header xs) → r ≡ Err b → is_short_header b.what ≡ false → ⊥
not_short r xs b short h long =
    let e : short_header xs ≡ b = cc in
    let t : true ≡ is_short_header b.what = ap (λ (c : Bad). is_short_header c.what) e in
    cc

magic_append : (m : Option (Endian × Precision)) (xs zs : List ℕ) (b : Bad) → length xs < 24
    → format_by_magic m xs ≡ Err b → is_short_header b.what ≡ false → format_by_magic m zs ≡ Err b
magic_append None xs zs b few h long = h
magic_append (Some m) xs zs b few h long =
    let test : nat_lt (length xs) 24 ≡ true = grind (arith, nat_tests) in
    absurd (not_short (format_by_magic (Some m) xs) xs b (rw test refl) h long)

-- the first four bytes of a header to which bytes come
first_word : (xs ys : List ℕ) → 4 ≤ length xs → word Big (take 24 (xs ++ ys)) 0 ≡ word Big xs 0
first_word xs ys h =
    let long : 4 ≤ length (take 24 (xs ++ ys)) = omega (arith, h, length-take 24 (xs ++ ys), length-append xs ys) in
    sym (word_append Big (take 24 (xs ++ ys)) (drop 24 (xs ++ ys)) 0 (omega (arith, long)))
    ∙ ap (λ (zs : List ℕ). word Big zs 0) (take-append-drop 24 (xs ++ ys))
    ∙ word_append Big xs ys 0 (omega (arith, h))

-- a malformed place in a header that is not whole
pub header_of_long : (xs : List ℕ) → 4 ≤ length xs → header_of xs ≡ format_by_magic (magic_of (word Big xs 0)) xs
unfolding header_of
header_of_long xs h =
    let test : nat_lt (length xs) 4 ≡ false = grind (arith, nat_tests) in
    rw test refl

pub header_of_short : (xs : List ℕ) → length xs < 4 → header_of xs ≡ Err (short_header xs)
unfolding header_of
header_of_short xs h =
    let test : nat_lt (length xs) 4 ≡ true = grind (arith, nat_tests) in
    rw test refl

part_append : (xs ys : List ℕ) (b : Bad) → length xs < 24 → header_of xs ≡ Err b → is_short_header b.what ≡ false → header_of (take 24 (xs ++ ys)) ≡ Err b
part_append xs ys b few h long =
    elim (cases_lt (length xs) 4) [
      | inl tiny ↦ absurd (not_short (header_of xs) xs b (header_of_short xs tiny) h long)
      | inr four ↦
          let e : word Big (take 24 (xs ++ ys)) 0 ≡ word Big xs 0 = first_word xs ys four in
          header_of_long (take 24 (xs ++ ys)) (omega (arith, four, length-take 24 (xs ++ ys), length-append xs ys))
          ∙ ap (λ (w : ℕ). format_by_magic (magic_of w) (take 24 (xs ++ ys))) e
          ∙ magic_append (magic_of (word Big xs 0)) xs (take 24 (xs ++ ys)) b few (sym (header_of_long xs four) ∙ h) long
    ]

pub header_append : (xs ys : List ℕ) (b : Bad) → header_of (take 24 xs) ≡ Err b → is_short_header b.what ≡ false → header_of (take 24 (xs ++ ys)) ≡ Err b
header_append xs ys b h long =
    elim (cases_lt (length xs) 24) [
      | inl few ↦ part_append xs ys b few (ap header_of (sym (take_all 24 xs (omega (arith, few)))) ∙ h) long
      | inr whole ↦ ap header_of (take-append-le 24 xs ys whole) ∙ h
    ]
