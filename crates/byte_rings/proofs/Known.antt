-- What was known of a ring before a call is taken in it or is known afterwards.
use Rattle.std.proofs.Common.{ℕ, ◌≡◌, ◌≤◌, ◌+◌, List, ◌++◌, length, take, ap, arith}
use Rattle.std.proofs.lemmas.List.{length-append, length-take}

pub known_or_taken : (old rest new buf : List ℕ) (n : ℕ) → old ++ rest ≡ take n buf ++ new → length old ≤ length new + n
known_or_taken old rest new buf n e = omega (arith, length-append old rest, length-append (take n buf) new, length-take n buf, ap length e)
