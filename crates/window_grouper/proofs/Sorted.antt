-- A list in which each stamp is before the next is in stamp order.
use Rattle.std.proofs.Common.{ℕ, zero, suc, List, [], ◌∷◌, ◌≡◌, ◌<◌, Some, refl, subst, arith, length, ◌≤◌}
use Rattle.std.specs.Prelude.{slice_get}
use Rattle.std.proofs.lemmas.Option.{slice_get_within}
use Rattle.ds_base.specs.Order.{Precedes, PrecedesAll, InStampOrder}
use Rattle.ds_base.specs.declared.stamp.Stamp.{Stamp}
use Rattle.ds_base.specs.declared.summary.Summary.{Summary}

precedes_both : (a b c : Stamp) → Precedes a b → Precedes b c → Precedes a c
precedes_both a b c h k = grind arith

all_behind : (a b : Stamp) (l : List Summary) → Precedes a b → PrecedesAll b l → PrecedesAll a l
all_behind a b [] h k = tt
all_behind a b (s ∷ l) h k = (precedes_both a b s.at h k.0, all_behind a b l h k.1)

pub ordered_from_neighbours : (l : List Summary)
    → ((k : ℕ) (a b : Summary) → slice_get l k ≡ Some a → slice_get l (suc k) ≡ Some b → Precedes a.at b.at) → InStampOrder l
ordered_from_neighbours [] h = tt
ordered_from_neighbours (s ∷ []) h = (tt, tt)
ordered_from_neighbours (s ∷ t ∷ l) h =
    let rest = ordered_from_neighbours (t ∷ l) (λ k a b e f. h (suc k) a b e f) in
    let next : Precedes s.at t.at = h 0 s t refl refl in
    ((next, all_behind s.at t.at l next rest.0), rest)

pub neighbours_from_ordered : (l : List Summary) (k : ℕ) (a b : Summary) → InStampOrder l → slice_get l k ≡ Some a
    → slice_get l (suc k) ≡ Some b → Precedes a.at b.at
neighbours_from_ordered [] k a b h e f = absurd (cc)
neighbours_from_ordered (s ∷ []) k a b h e f = absurd (cc)
neighbours_from_ordered (s ∷ t ∷ l) zero a b h e f =
    let first : s ≡ a = cc in
    let second : t ≡ b = cc in
    subst (λ (x : Summary). Precedes x.at b.at) first (subst (λ (x : Summary). Precedes s.at x.at) second h.0.0)
neighbours_from_ordered (s ∷ t ∷ l) (suc k) a b h e f = neighbours_from_ordered (t ∷ l) k a b h.1 e f

pub within_neighbours : (l : List Summary) (i : ℕ) → length l ≤ i
    → ((k : ℕ) (a b : Summary) → suc k < i → slice_get l k ≡ Some a → slice_get l (suc k) ≡ Some b → Precedes a.at b.at) → InStampOrder l
within_neighbours l i long h = ordered_from_neighbours l (λ k a b e f.
    let here : suc k < length l = slice_get_within l (suc k) b f in
    h k a b (omega arith) e f)
