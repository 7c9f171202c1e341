-- A hash, one number at a time.
use Rattle.std.proofs.Common.{◌≡◌, ℕ, ◌+◌, ◌≤◌, List, ◌∷◌, ◌++◌, [], drop, length, refl, sym, ap, ◌∙◌}
use Rattle.std.proofs.lemmas.List.{drop_all}
use Rattle.std.specs.List.{fold}
use Rattle.std.specs.Int.{bytes_high_first}
use Rattle.ds_base.specs.Keys.{fnv_step, key_bytes}

pub fold-append : (hash : ℕ) (xs ys : List ℕ) → fold fnv_step hash (xs ++ ys) ≡ fold fnv_step (fold fnv_step hash xs) ys
fold-append hash [] ys = refl
fold-append hash (x ∷ xs) ys = fold-append (fnv_step hash x) xs ys

-- a number more was hashed
pub hash_next : (key : List ℕ) (i n hash next : ℕ) → drop i key ≡ n ∷ drop (i + 1) key → next ≡ fold fnv_step hash (bytes_high_first 16 n)
    → fold fnv_step hash (key_bytes (drop i key)) ≡ fold fnv_step next (key_bytes (drop (i + 1) key))
hash_next key i n hash next here e =
    ap (λ xs. fold fnv_step hash (key_bytes xs)) here
    ∙ fold-append hash (bytes_high_first 16 n) (key_bytes (drop (i + 1) key))
    ∙ ap (λ h. fold fnv_step h (key_bytes (drop (i + 1) key))) (sym e)

-- all bytes were hashed
pub all_hashed : (from hash i : ℕ) (bytes : List ℕ) → length bytes ≤ i → fold fnv_step from bytes ≡ fold fnv_step hash (drop i bytes) → hash ≡ fold fnv_step from bytes
all_hashed from hash i bytes le e = sym (e ∙ ap (fold fnv_step hash) (drop_all i bytes le))
