-- The options of a block, one after the other.
use Rattle.std.proofs.Common.{◌≡◌, ℕ, suc, ◌+◌, List, drop, true, false, Some, None, refl, ap, ◌∙◌, sym}
use Rattle.std.proofs.lemmas.List.{drop-drop}
use Rattle.capture_bytes.specs.declared.endian.Endian.{Endian}
use Rattle.pcapng_reader.specs.Options.{ends_options, option_size, is_option, option_at}

pub scan_none : (order : Endian) (code len most at : ℕ) (bytes : List ℕ) → most ≡ 0 → option_at order code len most at bytes ≡ None
unfolding option_at
scan_none order code len most at bytes e = ap (λ n. option_at order code len n at bytes) e

pub scan_ends : (order : Endian) (code len most next at : ℕ) (bytes : List ℕ) → most ≡ suc next → ends_options order bytes ≡ true
    → option_at order code len most at bytes ≡ None
unfolding option_at
scan_ends order code len most next at bytes e h = ap (λ n. option_at order code len n at bytes) e ∙ rw h refl

pub scan_hit : (order : Endian) (code len most next at : ℕ) (bytes : List ℕ) → most ≡ suc next → ends_options order bytes ≡ false
    → is_option order code len bytes ≡ true → option_at order code len most at bytes ≡ Some (at + 4)
unfolding option_at
scan_hit order code len most next at bytes e h k = ap (λ n. option_at order code len n at bytes) e ∙ rw (h, k) refl

pub scan_miss : (order : Endian) (code len most next at size : ℕ) (bytes : List ℕ) → most ≡ suc next → ends_options order (drop at bytes) ≡ false
    → is_option order code len (drop at bytes) ≡ false → size ≡ option_size order (drop at bytes)
    → option_at order code len most at (drop at bytes) ≡ option_at order code len next (at + size) (drop (at + size) bytes)
unfolding option_at
scan_miss order code len most next at size bytes e h k s =
    ap (λ n. option_at order code len n at (drop at bytes)) e
    ∙ rw (h, k) refl
    ∙ ap (λ n. option_at order code len next (at + n) (drop n (drop at bytes))) (sym s)
    ∙ ap (λ xs. option_at order code len next (at + size) xs) (drop-drop size at bytes)
