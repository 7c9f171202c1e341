-- The place of a capture among those of its parser, and the number of the capture at a place.
use Rattle.std.proofs.Common.{ℕ, zero, suc, ◌+◌, ◌*◌, ◌/◌, ◌%◌, ◌≡◌, ◌≢◌, ◌<◌, ◌≤◌, ap, ◌∙◌, arith}
use Rattle.std.proofs.lemmas.Nat.{div-mul-add, div-add-mod', mul-le}

-- a number's row of so many, and what is behind it
pub at_place : (me parsers i : ℕ) → me < parsers → (me + i * parsers) / parsers ≡ i
at_place me parsers i place =
    let e : me + i * parsers ≡ i * parsers + me = omega arith in
    ap (λ (n : ℕ). n / parsers) e ∙ div-mul-add i parsers me place

pub own_at : (me parsers c : ℕ) → c % parsers ≡ me → c ≡ me + c / parsers * parsers
own_at me parsers c own =
    let e : c / parsers * parsers + c % parsers ≡ c = div-add-mod' c parsers in
    omega (arith, e, own)

-- another capture of the parser has another place
pub other_place : (me parsers i c : ℕ) → c % parsers ≡ me → c ≢ me + i * parsers → c / parsers ≢ i
other_place me parsers i c own differ e = differ (own_at me parsers c own ∙ ap (λ (n : ℕ). me + n * parsers) e)

-- there are no more places than captures
pub places_few : (me parsers n many : ℕ) → 0 < parsers → ((i : ℕ) → i < n → me + i * parsers < many) → n ≤ many
places_few me parsers n many some own = by_last n own
  where
    spread : (i : ℕ) → 0 < parsers → i ≤ i * parsers
    spread i some = let e : i * 1 ≤ i * parsers = mul-le i 1 i parsers (omega arith) (omega (arith, some)) in omega (arith, e)

    by_last : (n : ℕ) → ((i : ℕ) → i < n → me + i * parsers < many) → n ≤ many
    by_last zero own = omega arith
    by_last (suc i) own =
        let last : me + i * parsers < many = own i (omega arith) in
        let enough : i ≤ i * parsers = spread i some in
        omega (arith, last, enough)
