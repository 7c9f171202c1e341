-- The delays of a group, one after another.
use Rattle.std.proofs.Common.{ℕ, List, [], ◌∷◌, ◌≡◌, ◌<◌, ◌≤◌, ◌+◌, ◌^◌, inl, inr, suc, zero, refl, sym, ap, subst, ◌∙◌, arith, length, drop, length-drop}
use Rattle.std.specs.Prelude.{Some, All, slice_get}
use Rattle.std.specs.List.{AllByRecursion}
use Rattle.ds_base.specs.Times.{hour}
use Rattle.ds_base.proofs.Places.{drop_at}
use Rattle.ds_base.specs.Order.{Precedes, InStampOrder}
use Rattle.ds_base.specs.declared.stamp.Stamp.{Stamp}
use Rattle.ds_base.specs.declared.summary.Summary.{Summary}
use Rattle.ds_base.specs.declared.profile_row.ProfileRow.{ProfileRow}
use Rattle.profiles.specs.Delays.{Delay, delay_between, delays, times_between}
use Rattle.profiles.specs.Rows.{count_of}
use Rattle.profiles.specs.Put.{AreKept, IsLawful, CanCount, put, single, count_all}
use Rattle.profiles.proofs.Counting.{CanCount-next, few-first}

pub delays-at : (l : List Summary) (i : ℕ) (a b : Summary) → slice_get l i ≡ Some a → slice_get l (i + 1) ≡ Some b
    → delays (drop i l) ≡ delay_between a b ∷ delays (drop (i + 1) l)
delays-at l i a b h k =
    let one = drop_at l i a h in
    let two = drop_at l (i + 1) b k in
    ap delays one ∙ ap (λ (m : List Summary). delays (a ∷ m)) two ∙ ap (λ (m : List Summary). delay_between a b ∷ delays m) (sym two)

delays-short : (l : List Summary) → length l ≤ 1 → delays l ≡ []
delays-short [] le = refl
delays-short (a ∷ []) le = refl
delays-short (a ∷ b ∷ l) le = absurd (omega arith)

-- after the last member there is no delay
pub delays-end : (l : List Summary) (i : ℕ) → length l ≤ i + 1 → delays (drop i l) ≡ []
delays-end l i le = delays-short (drop i l) (omega (arith, length-drop i l))

time-first : (a b : Stamp) → Precedes a b → a.time ≤ b.time
time-first a b (inl lt) = omega arith
time-first a b (inr e) = omega (arith, e.0)

order-drop : (l : List Summary) (i : ℕ) → InStampOrder l → InStampOrder (drop i l)
order-drop l zero o = o
order-drop [] (suc i) o = tt
order-drop (x ∷ l) (suc i) o = order-drop l i o.1

-- times do not fall
pub times-rise : (l : List Summary) (i : ℕ) (a b : Summary) → InStampOrder l → slice_get l i ≡ Some a → slice_get l (i + 1) ≡ Some b → a.at.time ≤ b.at.time
times-rise l i a b o h k =
    let P : List Summary → Type 0 = InStampOrder in
    let two = subst P (drop_at l i a h ∙ ap (λ (m : List Summary). a ∷ m) (drop_at l (i + 1) b k)) (order-drop l i o) in
    time-first a.at b.at two.0.0

-- the delays of a group can be counted
all-rest : {X : Type 0} (P : X → Type 0) (x : X) (xs : List X) → All P (x ∷ xs) → All P xs
all-rest P x xs h k d lt = h (suc k) d (omega arith)

lawful : (l : List Summary) → All (λ member. member.at.capture < 64) l → All (λ d. d.time ≤ hour) (delays l) → AllByRecursion IsLawful (delays l)
lawful [] c h = tt
lawful (a ∷ []) c h = tt
lawful (a ∷ b ∷ l) c h = (
  (c 0 a (omega arith), c 1 a (omega arith), h 0 (delay_between a b) (omega arith)),
  lawful (b ∷ l) (all-rest (λ (m : Summary). m.at.capture < 64) a (b ∷ l) c) (all-rest (λ (d : Delay). d.time ≤ hour) (delay_between a b) (delays (b ∷ l)) h),
)

pub CanCount-group : (l : List Summary) (rows : List ProfileRow) → AreKept rows → All (λ member. member.at.capture < 64) l → All (λ d. d.time ≤ hour) (delays l)
    → ((from to : ℕ) → count_of from to rows + length (times_between from to (delays l)) < 2 ^ 55) → CanCount (delays l) rows
CanCount-group l rows k c h few = record { kept = k; lawful = lawful l c h; few = few }

-- ---- a step of the loop

pub record IsNext (d : Delay) (rows : List ProfileRow) : Type 0 where
  pub lawful : IsLawful d
  pub few : count_of d.from d.to rows + 1 < 2 ^ 55

pub next-can : (l : List Summary) (i : ℕ) (a b : Summary) (rows : List ProfileRow) → slice_get l i ≡ Some a → slice_get l (i + 1) ≡ Some b
    → CanCount (delays (drop i l)) rows → IsNext (delay_between a b) rows
next-can l i a b rows h k c =
    let can = subst (λ (ds : List Delay). CanCount ds rows) (delays-at l i a b h k) c in
    record { lawful = can.lawful.0; few = few-first (delay_between a b) (delays (drop (i + 1) l)) rows can }

pub next-counted : (l : List Summary) (i : ℕ) (a b : Summary) (rows new all : List ProfileRow) → slice_get l i ≡ Some a → slice_get l (i + 1) ≡ Some b
    → CanCount (delays (drop i l)) rows → new ≡ put (single (delay_between a b)) rows → count_all (delays (drop i l)) rows ≡ all
    → CanCount (delays (drop (i + 1) l)) new × (count_all (delays (drop (i + 1) l)) new ≡ all)
next-counted l i a b rows new all h k c is e =
    let at = delays-at l i a b h k in
    let ds = delays (drop (i + 1) l) in
    let d = delay_between a b in
    let can = subst (λ (m : List Delay). CanCount m rows) at c in
    let next = CanCount-next d ds rows can in
    (subst (CanCount ds) (sym is) next, ap (count_all ds) is ∙ sym (ap (λ (m : List Delay). count_all m rows) at) ∙ e)
