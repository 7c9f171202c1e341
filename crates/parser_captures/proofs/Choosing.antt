-- The order in which captures are taken up.
use Rattle.std.proofs.Common.{ℕ, ◌<◌, ◌≤◌, ◌+◌, ◌≡◌, Bool, List, Option, Some, None, false, true, sym, subst, arith, ◌∙◌, ap, ⊎_elim}
use Rattle.std.specs.Prelude.{◌⊎◌}
use Rattle.key_select.specs.Tally.{newest_of}
use Rattle.parser_captures.specs.Choice.{IsLeast, capture_in}
use Rattle.net_law.specs.Parsers.{IsBehind, FromNone, FromSome}
use Rattle.parser_captures.specs.declared.capture.OneCapture.{OneCapture}
use Rattle.parser_captures.proofs.Keeping.{same_or_not}
use Rattle.parser_captures.proofs.Taking.{untold}

pub behind_both : (a b : Option ℕ) (m n : ℕ) → a ≡ Some m → b ≡ Some n → m ≤ n → IsBehind a b
behind_both a b m n p q le = subst (λ (o : Option ℕ). IsBehind o b) (sym p) (subst (λ (o : Option ℕ). IsBehind (Some m) o) (sym q) (FromSome m n le))

pub behind_itself : (a : Option ℕ) → IsBehind a a
behind_itself None = FromNone None
behind_itself (Some n) = FromSome n n (omega arith)

pub behind_trans : (a b c : Option ℕ) → IsBehind a b → IsBehind b c → IsBehind a c
behind_trans None b c h k = FromNone c
behind_trans (Some m) None c h k = elim h [ ]
behind_trans (Some m) (Some n) None h k = elim k [ ]
behind_trans (Some m) (Some n) (Some o) (FromSome _ _ le) (FromSome _ _ more) = FromSome m o (omega (arith, le, more))

module _ (captures : List OneCapture) (i : ℕ) where
  abbrev EndedAt : ℕ → OneCapture → Bool
  EndedAt j d = (capture_in captures j d).ended

  -- the place is the next one, or one before it
  by_place : (P : ℕ → Type 0) (j : ℕ) → j < i + 1 → P i → (j < i → P j) → P j
  by_place P j less here before = ⊎_elim (λ (e : j ≡ i). subst P (sym e) here) (λ differ. before (omega (arith, less, differ))) (same_or_not j i)

  -- it is the first that goes on
  pub first_least : ((j : ℕ) (d : OneCapture) → j < i → (capture_in captures j d).ended ≡ true) → ((d : OneCapture) → (capture_in captures i d).ended ≡ false) → IsLeast captures (i + 1) i
  first_least ended going = record {
    there = omega arith;
    going = going;
    least = λ j d less goes.
        by_place (λ (k : ℕ). EndedAt k d ≡ false → IsBehind (newest_of (capture_in captures i d).tally) (newest_of (capture_in captures k d).tally)) j less
        (λ _. behind_itself (newest_of (capture_in captures i d).tally)) (λ before open'. untold _ (sym open' ∙ ended j d before)) goes;
  }

  -- it comes before the best of those before it
  pub next_least : (b : ℕ) → IsLeast captures i b → ((d : OneCapture) → (capture_in captures i d).ended ≡ false)
      → ((d : OneCapture) → IsBehind (newest_of (capture_in captures i d).tally) (newest_of (capture_in captures b d).tally)) → IsLeast captures (i + 1) i
  next_least b best going first = record {
    there = omega arith;
    going = going;
    least = λ j d less goes.
        by_place (λ (k : ℕ). EndedAt k d ≡ false → IsBehind (newest_of (capture_in captures i d).tally) (newest_of (capture_in captures k d).tally)) j less
        (λ _. behind_itself (newest_of (capture_in captures i d).tally))
        (λ before open'.
        behind_trans (newest_of (capture_in captures i d).tally) (newest_of (capture_in captures b d).tally) (newest_of (capture_in captures j d).tally) (first d) (best.least j d before open'))
        goes;
  }
