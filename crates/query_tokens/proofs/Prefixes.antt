-- Where the first byte passes, at least one does.
use Rattle.std.proofs.Common.{◌≡◌, ℕ, ◌<◌, Bool, true, List, [], ◌∷◌, length, get_or, arith}
use Rattle.std.specs.List.{prefix_len}

pub prefix_len_positive : (p : ℕ → Bool) (bytes : List ℕ) → 0 < length bytes → p (get_or bytes 0 0) ≡ true → 0 < prefix_len p bytes
prefix_len_positive p [] some e = absurd (omega arith)
prefix_len_positive p (x ∷ xs) some e = rw e (omega arith)
