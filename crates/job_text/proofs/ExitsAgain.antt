-- Exits, as they are printed, are read as the same set.
use Rattle.std.proofs.Common.{◌≡◌, ℕ, suc, ◌+◌, ◌*◌, ◌%◌, ◌^◌, ◌<◌, ◌≤◌, Bool, true, false, cond, List, [], ◌∷◌, ◌++◌, length, map, refl, sym, ap, ◌∙◌, arith, append_assoc}
use Rattle.std.specs.Prelude.{◌==◌, Ok, bit_or, bit_and}
use Rattle.std.specs.Int.{bit_at}
use Rattle.std.specs.List.{list_any, fold}
use Rattle.std.proofs.lemmas.Bool.{eqb-true}
use Rattle.std.proofs.lemmas.Nat.{or_disjoint, mod-pow-add, pow_pos}
use Rattle.std.proofs.lemmas.Nat.Bits.{and_pow, bit_at_above, bit_at-lt}
use Rattle.std.proofs.Math.Nat.{mod-lt, mod-one, mod-eq_of_lt}
use Rattle.serde_json.specs.Data.{string}
use Rattle.job_values.specs.declared.member.Member.TheVariants.{QueryExits}
use Rattle.job_text.specs.Parts.{named, name_at, set_names, drop_value}
use Rattle.job_table.specs.QueryTable.{exits}
use Rattle.job_table.specs.Words.{is_identifier}
use Rattle.job_text.proofs.KeyAgain.{AllOther, numbers_again}
use Rattle.job_text.proofs.NewNames.{AllNew}
use Rattle.job_text.proofs.Said.{counted}
use Rattle.job_text.proofs.VarsAgain.{items_many}

-- the numbers whose bit is set, of those from n on
abbrev pub set_bits : ℕ → ℕ → List (List ℕ) → List ℕ
set_bits set n [] = []
set_bits set n (name ∷ names) = cond (bit_at set n == 1) (n ∷ set_bits set (n + 1) names) (set_bits set (n + 1) names)

-- ---- their names

at_end : (front : List (List ℕ)) (name : List ℕ) (names : List (List ℕ)) → name_at (front ++ name ∷ names) (length front) ≡ name
at_end [] name names = refl
at_end (f ∷ front) name names = at_end front name names

step_on : (front : List (List ℕ)) (name : List ℕ) → length (front ++ name ∷ []) ≡ length front + 1
step_on [] name = refl
step_on (f ∷ front) name = omega (arith, step_on front name)

names_are : (set n : ℕ) (front names : List (List ℕ)) → n ≡ length front
    → map string (set_names set n names) ≡ map (named (front ++ names)) (set_bits set n names)
names_are set n front [] e = refl
names_are set n front (name ∷ names) e =
    by_bit (bit_at set n == 1)
    (names_are set (n + 1) (front ++ name ∷ []) names (ap (λ k. k + 1) e ∙ sym (step_on front name))
    ∙ ap (λ xs. map (named xs) (set_bits set (n + 1) names)) (append_assoc front (name ∷ []) names))
  where
    by_bit : (t : Bool) → map string (set_names set (n + 1) names) ≡ map (named (front ++ name ∷ names)) (set_bits set (n + 1) names)
        → map string (cond t (name ∷ set_names set (n + 1) names) (set_names set (n + 1) names))
        ≡ map (named (front ++ name ∷ names)) (cond t (n ∷ set_bits set (n + 1) names) (set_bits set (n + 1) names))
    by_bit true rest = rw (rest, e, at_end front name names) refl
    by_bit false rest = rest

-- ---- each is another one

abbrev AllLess : ℕ → List ℕ → Type 0
AllLess n [] = Unit {0}
AllLess n (m ∷ ms) = (m < n) × AllLess n ms

less_more : (n : ℕ) (ms : List ℕ) → AllLess n ms → AllLess (n + 1) ms
less_more n [] all = tt
less_more n (m ∷ ms) all = (omega (arith, all.0), less_more n ms all.1)

less_end : (n : ℕ) (ms : List ℕ) → AllLess n ms → AllLess (n + 1) (ms ++ n ∷ [])
less_end n [] all = (omega arith, tt)
less_end n (m ∷ ms) all = (omega (arith, all.0), less_end n ms all.1)

apart : (m n : ℕ) → m < n → (m == n) ≡ false
apart m n less = Prim.grind arith

less_none : (n : ℕ) (ms : List ℕ) → AllLess n ms → list_any (λ m. m == n) ms ≡ false
less_none n [] all = refl
less_none n (m ∷ ms) all = rw (apart m n all.0) (less_none n ms all.1)

bits_other : (set n most : ℕ) (names : List (List ℕ)) (earlier : List ℕ) → n + length names ≡ most → AllLess n earlier → AllOther most earlier (set_bits set n names)
bits_other set n most [] earlier e all = tt
bits_other set n most (name ∷ names) earlier e all =
    by_bit (bit_at set n == 1)
    (bits_other set (n + 1) most names (earlier ++ n ∷ []) (omega (arith, e)) (less_end n earlier all))
    (bits_other set (n + 1) most names earlier (omega (arith, e)) (less_more n earlier all))
  where
    by_bit : (t : Bool) → AllOther most (earlier ++ n ∷ []) (set_bits set (n + 1) names) → AllOther most earlier (set_bits set (n + 1) names)
        → AllOther most earlier (cond t (n ∷ set_bits set (n + 1) names) (set_bits set (n + 1) names))
    by_bit true one none = (omega (arith, e), less_none n earlier all, one)
    by_bit false one none = none

-- ---- they are the set

bit_on : (set n : ℕ) → bit_at set n ≡ 1 → bit_or (set % 2 ^ n) (2 ^ n) ≡ set % 2 ^ (n + 1)
bit_on set n e =
    let low = mod-lt set (pow_pos n) in
    let free : bit_and (set % 2 ^ n) (2 ^ n) ≡ 0 = omega (arith, and_pow (set % 2 ^ n) n, ap (λ b. b * 2 ^ n) (bit_at_above (set % 2 ^ n) n n low (omega arith))) in
    let split : set % 2 ^ (n + 1) ≡ bit_at set n * 2 ^ n + set % 2 ^ n = ap (λ k. set % 2 ^ k) (omega arith) ∙ mod-pow-add set 1 n in
    or_disjoint (set % 2 ^ n) (2 ^ n) free ∙ omega (arith, split ∙ ap (λ b. b * 2 ^ n + set % 2 ^ n) e)

bit_off : (set n : ℕ) → bit_at set n ≡ 0 → set % 2 ^ n ≡ set % 2 ^ (n + 1)
bit_off set n e =
    let split : set % 2 ^ (n + 1) ≡ bit_at set n * 2 ^ n + set % 2 ^ n = ap (λ k. set % 2 ^ k) (omega arith) ∙ mod-pow-add set 1 n in
    omega (arith, split ∙ ap (λ b. b * 2 ^ n + set % 2 ^ n) e)

is_off : (set n : ℕ) → (bit_at set n == 1) ≡ false → bit_at set n ≡ 0
is_off set n e = Prim.grind (arith, bit_at-lt set n, e)

abbrev together : ℕ → List ℕ → ℕ
together sofar numbers = fold (λ set c. bit_or set (2 ^ c)) sofar numbers

bits_are : (set n : ℕ) (names : List (List ℕ)) (sofar : ℕ) → sofar ≡ set % 2 ^ n → together sofar (set_bits set n names) ≡ set % 2 ^ (n + length names)
bits_are set n [] sofar e = e ∙ ap (λ k. set % 2 ^ k) (omega arith)
bits_are set n (name ∷ names) sofar e = by_bit (bit_at set n == 1) refl (bits_are set (n + 1) names)
  where
    more : n + 1 + length names ≡ n + suc (length names)
    more = omega arith

    by_bit : (t : Bool) → (bit_at set n == 1) ≡ t
        → ((sofar : ℕ) → sofar ≡ set % 2 ^ (n + 1) → together sofar (set_bits set (n + 1) names) ≡ set % 2 ^ (n + 1 + length names))
        → together sofar (cond t (n ∷ set_bits set (n + 1) names) (set_bits set (n + 1) names)) ≡ set % 2 ^ (n + suc (length names))
    by_bit true on rest =
        rest (bit_or sofar (2 ^ n)) (ap (λ s. bit_or s (2 ^ n)) e ∙ bit_on set n (eqb-true _ _ on)) ∙ ap (λ k. set % 2 ^ k) more
    by_bit false off rest = rest sofar (e ∙ bit_off set n (is_off set n off)) ∙ ap (λ k. set % 2 ^ k) more

-- ---- how many

bits_few : (set n : ℕ) (names : List (List ℕ)) → length (set_bits set n names) ≤ length names
bits_few set n [] = omega arith
bits_few set n (name ∷ names) = by_bit (bit_at set n == 1) (bits_few set (n + 1) names)
  where
    by_bit : (t : Bool) → length (set_bits set (n + 1) names) ≤ length names
        → length (cond t (n ∷ set_bits set (n + 1) names) (set_bits set (n + 1) names)) ≤ suc (length names)
    by_bit true few = omega (arith, few)
    by_bit false few = omega (arith, few)

small : (set most : ℕ) → set < 2 ^ most → set % 2 ^ most ≡ set
small set most less = mod-eq_of_lt less

set_again : (set : ℕ) (names : List (List ℕ)) → set < 2 ^ length names → together 0 (set_bits set 0 names) ≡ set
set_again set names less = bits_are set 0 names 0 (sym (mod-one set)) ∙ ap (λ k. set % 2 ^ k) (omega arith) ∙ small set (length names) less

some : (set : ℕ) (numbers : List ℕ) → together 0 numbers ≡ set → 0 < set → 1 ≤ length numbers
some set [] e less = absurd (omega (arith, e, less))
some set (n ∷ numbers) e less = omega arith

pub exits_again : (captures : List (List ℕ)) (set : ℕ) → AllNew is_identifier [] captures → length captures ≤ 64 → 0 < set → set < 2 ^ length captures
    → exits captures (drop_value captures set) ≡ Ok set
exits_again captures set all most positive less =
    let many = items_many (named captures) (set_bits set 0 captures) in
    let numbers = numbers_again QueryExits is_identifier captures [] (set_bits set 0 captures) all (bits_other set 0 (length captures) captures [] (omega arith) tt) in
    let fits = counted 1 64 (length (set_bits set 0 captures)) (some set (set_bits set 0 captures) (set_again set captures less) positive) (omega (arith, bits_few set 0 captures, most)) in
    rw (names_are set 0 [] captures refl, many, fits, numbers, set_again set captures less) refl
