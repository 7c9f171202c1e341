-- Bytes as numbers: what the bytes of a number read as, and that a number has one spelling.
use Rattle.std.proofs.Common.{◌≡◌, ℕ, zero, suc, ◌+◌, ◌*◌, ◌/◌, ◌^◌, ◌<◌, ◌≤◌, List, [], ◌∷◌, ◌++◌, length, take, drop, slice_index, refl, sym, ap, ◌∙◌, arith, mod-lt}
use Rattle.std.proofs.lemmas.Nat.{div-mul-add}
use Rattle.std.proofs.lemmas.List.{take-append-drop}
use Rattle.std.specs.Int.{byte_at, bytes_high_first}
use Rattle.byteorder.specs.Endian.{big_from}
use Rattle.byteorder.specs.Numbers.{big_from-cons, big_from-lt, big_from-take, big_from-append, length-bytes_high_first, big_number-reads_back}
use Rattle.node_frames.specs.Fields.{bytes_of}

-- each is a byte
abbrev pub AreBytes : List ℕ → Type 0
AreBytes bytes = (i : ℕ) → slice_index bytes i < 256

pub tail_bytes : (b : ℕ) (bytes : List ℕ) → AreBytes (b ∷ bytes) → AreBytes bytes
tail_bytes b bytes are i = are (suc i)

pub back_bytes : (front back : List ℕ) → AreBytes (front ++ back) → AreBytes back
back_bytes [] back are = are
back_bytes (b ∷ front) back are = back_bytes front back (tail_bytes b (front ++ back) are)

byte_below : (k n : ℕ) → byte_at k n < 256
byte_below zero n = mod-lt n (omega arith)
byte_below (suc k) n = mod-lt (n / 256 ^ suc k) (omega arith)

number_bytes : (k n : ℕ) → AreBytes (bytes_high_first k n)
number_bytes zero n i = omega arith
number_bytes (suc k) n zero = byte_below k n
number_bytes (suc k) n (suc i) = number_bytes k n i

-- two lists of n bytes with one number are one list
one_number : (n : ℕ) (xs ys : List ℕ) → AreBytes xs → AreBytes ys → length xs ≡ n → length ys ≡ n → big_from 0 n xs ≡ big_from 0 n ys → xs ≡ ys
one_number zero [] [] bx by lx ly e = refl
one_number zero (x ∷ xs) ys bx by lx ly e = absurd (omega arith)
one_number zero [] (y ∷ ys) bx by lx ly e = absurd (omega arith)
one_number (suc n) [] ys bx by lx ly e = absurd (omega arith)
one_number (suc n) (x ∷ xs) [] bx by lx ly e = absurd (omega arith)
one_number (suc n) (x ∷ xs) (y ∷ ys) bx by lx ly e =
    let tx : big_from 1 n (x ∷ xs) ≡ big_from 0 n xs = big_from-cons 0 n x xs in
    let ty : big_from 1 n (y ∷ ys) ≡ big_from 0 n ys = big_from-cons 0 n y ys in
    let bxs : AreBytes xs = tail_bytes x xs bx in
    let bys : AreBytes ys = tail_bytes y ys by in
    let lowx : big_from 0 n xs < 256 ^ n = big_from-lt 0 n xs bxs in
    let lowy : big_from 0 n ys < 256 ^ n = big_from-lt 0 n ys bys in
    let whole : x * 256 ^ n + big_from 0 n xs ≡ y * 256 ^ n + big_from 0 n ys =
    ap (λ r. x * 256 ^ n + r) (sym tx) ∙ e ∙ ap (λ r. y * 256 ^ n + r) ty in
    let heads : x ≡ y =
    sym (div-mul-add x (256 ^ n) (big_from 0 n xs) lowx) ∙ ap (λ v. v / 256 ^ n) whole ∙ div-mul-add y (256 ^ n) (big_from 0 n ys) lowy in
    let same : x * 256 ^ n ≡ y * 256 ^ n = ap (λ v. v * 256 ^ n) heads in
    let tails : xs ≡ ys = one_number n xs ys bxs bys (omega arith) (omega arith) (omega (arith, whole, same)) in
    ap (λ v. v ∷ xs) heads ∙ ap (λ vs. y ∷ vs) tails

pub front_bytes : (n : ℕ) (bytes : List ℕ) → AreBytes bytes → AreBytes (take n bytes)
front_bytes zero bytes are i = omega arith
front_bytes (suc n) [] are i = omega arith
front_bytes (suc n) (b ∷ bytes) are zero = are zero
front_bytes (suc n) (b ∷ bytes) are (suc i) = front_bytes n bytes (tail_bytes b bytes are) i

pub length-take_fits : (n : ℕ) (bytes : List ℕ) → n ≤ length bytes → length (take n bytes) ≡ n
length-take_fits zero bytes h = refl
length-take_fits (suc n) [] h = absurd (omega arith)
length-take_fits (suc n) (b ∷ bytes) h = let e = length-take_fits n bytes (omega arith) in omega (arith, e)

-- the bytes of the number at the front of bytes are these bytes
pub number_front : (n : ℕ) (bytes : List ℕ) → AreBytes bytes → n ≤ length bytes → bytes ≡ bytes_of n (big_from 0 n bytes) ++ drop n bytes
unfolding bytes_of
number_front n bytes are le =
    let lt : big_from 0 n bytes < 256 ^ n = big_from-lt 0 n bytes are in
    let back : big_from 0 n (bytes_high_first n (big_from 0 n bytes) ++ []) ≡ big_from 0 n bytes = big_number-reads_back n (big_from 0 n bytes) [] lt in
    let first : big_from 0 n (bytes_high_first n (big_from 0 n bytes) ++ []) ≡ big_from 0 n (bytes_high_first n (big_from 0 n bytes)) =
    big_from-append n (bytes_high_first n (big_from 0 n bytes)) [] (omega (arith, length-bytes_high_first n (big_from 0 n bytes))) in
    let cut : big_from 0 n (take n bytes) ≡ big_from 0 n bytes = big_from-take 0 n n bytes (omega arith) in
    let same : take n bytes ≡ bytes_high_first n (big_from 0 n bytes) =
    one_number n (take n bytes) (bytes_high_first n (big_from 0 n bytes)) (front_bytes n bytes are) (number_bytes n (big_from 0 n bytes))
    (length-take_fits n bytes le) (length-bytes_high_first n (big_from 0 n bytes)) (cut ∙ sym back ∙ first) in
    sym (take-append-drop n bytes) ∙ ap (λ front. front ++ drop n bytes) same

pub length-bytes_of : (n x : ℕ) → length (bytes_of n x) ≡ n
unfolding bytes_of
length-bytes_of n x = length-bytes_high_first n x

pub number_back : (n x : ℕ) (rest : List ℕ) → x < 256 ^ n → big_from 0 n (bytes_of n x ++ rest) ≡ x
unfolding bytes_of
number_back n x rest lt = big_number-reads_back n x rest lt

pub number_below : (n : ℕ) (bytes : List ℕ) → AreBytes bytes → big_from 0 n bytes < 256 ^ n
number_below n bytes are = big_from-lt 0 n bytes are
