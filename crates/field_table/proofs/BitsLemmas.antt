-- The number of some bits depends on the bytes that hold them alone.
use Rattle.std.proofs.Common.{bit_and, subst, append_assoc, get_or-drop, zero, take-append-drop, length-take, length-drop, ◌≡◌, ℕ, suc, ◌+◌, ◌-◌, ◌*◌, ◌/◌, ◌%◌, ◌^◌, ◌<◌, ◌≤◌, List, [], ◌∷◌, ◌++◌, length, take, drop, refl, sym, ap, ◌∙◌, get_or, lit<, arith}
use Rattle.std.proofs.Math.Nat.{mul_assoc, mul-add-mod_self_right, pow-suc}
use Rattle.std.proofs.lemmas.Nat.{shr-shr, shr_high, field_of, pow-add, mul-add-lt, and_mask}
use Rattle.std.proofs.lemmas.Nat.Bits.{ones_shr}
use Rattle.std.proofs.lemmas.Int.Digits.{number_after_append}
use Rattle.std.specs.Int.Digits.{number_from_digits, number_from_digits_after}
use Rattle.field_table.specs.Bits.{number_of_bits}

-- 256 to the n is 2 to the 8 * n
pub pow_bytes : (n : ℕ) → 256 ^ n ≡ 2 ^ (8 * n)
pow_bytes zero = refl
pow_bytes (suc n) =
    let left : 256 ^ suc n ≡ 256 ^ n * 256 = pow-suc 256 n in
    let more : 8 * suc n ≡ 8 * n + 8 = omega arith in
    left ∙ (ap (λ q. q * 256) (pow_bytes n) ∙ (sym (pow-add 2 (8 * n) 8) ∙ ap (λ k. 2 ^ k) (sym more)))

digit_shifted : (n d p m : ℕ) → (n * 256 + d) * p + m ≡ n * (p * 256) + ((0 + d) * p + m)
digit_shifted n d p m = grind arith

-- what was read before counts for each byte that follows
number_after_from : (n : ℕ) (ds : List ℕ) → number_from_digits_after 256 n ds ≡ n * 256 ^ length ds + number_from_digits 256 ds
number_after_from n [] = omega arith
number_after_from n (d ∷ ds) =
    let power : 256 ^ suc (length ds) ≡ 256 ^ length ds * 256 = pow-suc 256 (length ds) in
    number_after_from (n * 256 + d) ds
    ∙ (digit_shifted n d (256 ^ length ds) (number_from_digits 256 ds)
    ∙ (ap (λ q. n * q + ((0 + d) * 256 ^ length ds + number_from_digits 256 ds)) (sym power)
    ∙ ap (λ q. n * 256 ^ suc (length ds) + q) (sym (number_after_from (0 + d) ds))))

pub number-append : (xs ys : List ℕ) → number_from_digits 256 (xs ++ ys) ≡ number_from_digits 256 xs * 256 ^ length ys + number_from_digits 256 ys
number-append xs ys = number_after_append 256 0 xs ys ∙ number_after_from (number_from_digits 256 xs) ys

power_split : (k n : ℕ) → n ≤ k → 2 ^ k ≡ 2 ^ (k - n) * 2 ^ n
power_split k n within = let sum : k ≡ (k - n) + n = omega arith in ap (λ m. 2 ^ m) sum ∙ pow-add 2 (k - n) n

moved : (a b p q r : ℕ) → p ≡ q * r → a * p + b ≡ a * q * r + b
moved a b p q r e = ap (λ n. a * n + b) e ∙ ap (λ n. n + b) (sym (mul_assoc a q r))

-- the part of a number between what stands before and after
middle_of : (before middle after k j count behind : ℕ) → after < 2 ^ j → count + behind ≤ k → ((before * 2 ^ k + middle) * 2 ^ j + after) / 2 ^ (j + behind) % 2 ^ count ≡ middle / 2 ^ behind % 2 ^ count
middle_of before middle after k j count behind small within =
    let whole = ((before * 2 ^ k + middle) * 2 ^ j + after) in
    let front : whole / 2 ^ (j + behind) ≡ (before * 2 ^ k + middle) / 2 ^ behind = sym (shr-shr whole j behind) ∙ ap (λ n. n / 2 ^ behind) (shr_high (before * 2 ^ k + middle) j after small) in
    let power : 2 ^ k ≡ 2 ^ (k - (count + behind)) * 2 ^ (count + behind) = power_split k (count + behind) within in
    let apart : before * 2 ^ k + middle ≡ before * 2 ^ (k - (count + behind)) * 2 ^ (count + behind) + middle = omega (arith, ap (λ n. before * n) power) in
    let apart : before * 2 ^ k + middle ≡ before * 2 ^ (k - (count + behind)) * 2 ^ (count + behind) + middle = moved before middle (2 ^ k) (2 ^ (k - (count + behind))) (2 ^ (count + behind)) power in
    let low : (before * 2 ^ k + middle) % 2 ^ (count + behind) ≡ middle % 2 ^ (count + behind) = ap (λ n. n % 2 ^ (count + behind)) apart ∙ mul-add-mod_self_right (before * 2 ^ (k - (count + behind))) (2 ^ (count + behind)) middle in
    ap (λ n. n % 2 ^ count) front ∙ (sym (field_of (before * 2 ^ k + middle) count behind) ∙ (ap (λ n. n / 2 ^ behind) low ∙ field_of middle count behind))

-- a number of bytes is below 256 to their number
pub number_below : (ds : List ℕ) → ((i : ℕ) → get_or ds i 0 < 256) → number_from_digits 256 ds < 256 ^ length ds
number_below [] fits = lit< tt
number_below (d ∷ ds) fits =
    let first : d < 256 = fits 0 in
    let rest : number_from_digits 256 ds < 256 ^ length ds = number_below ds (λ i. fits (suc i)) in
    let power : 256 ^ suc (length ds) ≡ 256 ^ length ds * 256 = pow-suc 256 (length ds) in
    omega (arith, number_after_from (0 + d) ds, mul-add-lt d (256 ^ length ds) (number_from_digits 256 ds) 256 first rest)

number-append_bits : (xs ys : List ℕ) (k : ℕ) → length ys ≡ k → number_from_digits 256 (xs ++ ys) ≡ number_from_digits 256 xs * 2 ^ (8 * k) + number_from_digits 256 ys
number-append_bits xs ys k e =
    number-append xs ys ∙ ap (λ p. number_from_digits 256 xs * p + number_from_digits 256 ys) (pow_bytes (length ys) ∙ ap (λ n. 2 ^ (8 * n)) e)

number_below_bits : (ds : List ℕ) (k : ℕ) → ((i : ℕ) → get_or ds i 0 < 256) → length ds ≡ k → number_from_digits 256 ds < 2 ^ (8 * k)
number_below_bits ds k fits e =
    subst (λ p. number_from_digits 256 ds < p) (pow_bytes (length ds) ∙ ap (λ n. 2 ^ (8 * n)) e) (number_below ds fits)

fits-drop : (n : ℕ) (ds : List ℕ) → ((i : ℕ) → get_or ds i 0 < 256) → (i : ℕ) → get_or (drop n ds) i 0 < 256
fits-drop n ds fits i = rw get_or-drop (fits (n + i))

-- the bits between two lists of bytes
pub bits_between : (xs ys zs : List ℕ) (j k count behind : ℕ) → ((i : ℕ) → get_or zs i 0 < 256) → length ys ≡ j → length zs ≡ k → count + behind ≤ 8 * j → number_from_digits 256 ((xs ++ ys) ++ zs) / 2 ^ (8 * k + behind) % 2 ^ count ≡ number_from_digits 256 ys / 2 ^ behind % 2 ^ count
bits_between xs ys zs j k count behind fits ys_len zs_len within =
    let number : number_from_digits 256 ((xs ++ ys) ++ zs) ≡ (number_from_digits 256 xs * 2 ^ (8 * j) + number_from_digits 256 ys) * 2 ^ (8 * k) + number_from_digits 256 zs =
    number-append_bits (xs ++ ys) zs k zs_len ∙ ap (λ n. n * 2 ^ (8 * k) + number_from_digits 256 zs) (number-append_bits xs ys j ys_len) in
    ap (λ n. n / 2 ^ (8 * k + behind) % 2 ^ count) number
    ∙ middle_of (number_from_digits 256 xs) (number_from_digits 256 ys) (number_from_digits 256 zs) (8 * j) (8 * k) count behind (number_below_bits zs k fits zs_len) within

-- the bits from first on lie in the bytes from one to another
pub bits_within : (bytes : List ℕ) (first count from end : ℕ) → ((i : ℕ) → get_or bytes i 0 < 256) → from ≤ end → end ≤ length bytes → 8 * from ≤ first → first + count ≤ 8 * end → number_from_digits 256 (take (end - from) (drop from bytes)) / 2 ^ (end * 8 - (first + count)) % 2 ^ count ≡ number_of_bits bytes first count
unfolding number_of_bits
bits_within bytes first count from end fits order inside begins ends =
    let span = take (end - from) (drop from bytes) in
    let rest = drop (end - from) (drop from bytes) in
    let whole : bytes ≡ (take from bytes ++ span) ++ rest =
    sym (append_assoc (take from bytes) span rest ∙ (ap (λ bs. take from bytes ++ bs) (take-append-drop (end - from) (drop from bytes)) ∙ take-append-drop from bytes)) in
    let span_len : length span ≡ end - from = simp (length-take, length-drop) (omega arith) in
    let rest_len : length rest ≡ length bytes - end = simp (length-drop) (omega arith) in
    let shift : 8 * length bytes - (first + count) ≡ 8 * (length bytes - end) + (end * 8 - (first + count)) = omega arith in
    sym (ap (λ k. number_from_digits 256 bytes / 2 ^ k % 2 ^ count) shift
    ∙ (ap (λ bs. number_from_digits 256 bs / 2 ^ (8 * (length bytes - end) + (end * 8 - (first + count))) % 2 ^ count) whole
    ∙ bits_between (take from bytes) span rest (end - from) (length bytes - end) count (end * 8 - (first + count)) (fits-drop (end - from) (drop from bytes) (fits-drop from bytes fits)) span_len rest_len (omega arith)))

-- the shifts and the mask of the code
pub shifted_and_masked : (n behind count : ℕ) → count ≤ 128 → bit_and (n / 2 ^ behind) ((2 ^ 128 - 1) / 2 ^ (128 - count)) ≡ n / 2 ^ behind % 2 ^ count
shifted_and_masked n behind count within =
    let less : 128 - (128 - count) ≡ count = omega arith in
    ap (λ m. bit_and (n / 2 ^ behind) m) (ones_shr 128 (128 - count) (omega arith) ∙ ap (λ k. 2 ^ k - 1) less) ∙ and_mask (n / 2 ^ behind) count
