-- What the rows tell of once more delays are counted.
use Rattle.std.proofs.Common.{ℕ, List, [], ◌∷◌, ◌++◌, ◌≡◌, ◌<◌, ◌+◌, ◌^◌, refl, sym, ap, subst, ◌∙◌, arith, length, length-append, append-nil, append_assoc}
use Rattle.std.specs.Prelude.{Option, Some, None}
use Rattle.std.specs.Option.{option_map_or}
use Rattle.std.proofs.lemmas.Grind.{flat_map-append}
use Rattle.ds_base.specs.Copies.{Copies}
use Rattle.ds_base.specs.declared.profile_row.ProfileRow.{ProfileRow}
use Rattle.profiles.specs.Delays.{Delay, delays, delays_of, times_between}
use Rattle.profiles.specs.Rows.{TellsOf, row_of, count_of, joined_if_any}
use Rattle.profiles.specs.Profile.{TellOf, IsProfile}
use Rattle.profiles.specs.Put.{AreKept, CanCount, put, single, count_all}
use Rattle.profiles.proofs.Put.{row_of-put}
use Rattle.profiles.proofs.Places.{RiseFrom-kept}
use Rattle.profiles.proofs.Kept.{AreKept-put, IsSound-single, width-single, count_of-here}
use Rattle.profiles.proofs.Tells.{TellsOf-joined, TellsOf-single, times-append}

-- the count of a row, and 0 where there is none
abbrev pub counted : Option ProfileRow → ℕ
counted row = option_map_or (λ (r : ProfileRow). r.count) row 0

pub counted-joined : (a b : Option ProfileRow) → counted (joined_if_any a b) ≡ counted a + counted b
counted-joined None b = omega arith
counted-joined (Some a) None = omega arith
counted-joined (Some a) (Some b) = refl

pub counted-tells : (times : List ℕ) (row : Option ProfileRow) → TellsOf times row → counted row ≡ length times
counted-tells times None h = sym (ap length h)
counted-tells times (Some row) h = h.count_is

-- how many times a delay has for a pair
count-single : (from to : ℕ) (d : Delay) → count_of from to (single d ∷ []) ≡ length (times_between from to (d ∷ []))
count-single from to d = counted-tells (times_between from to (d ∷ [])) (row_of from to (single d ∷ [])) (TellsOf-single from to d)

length-times : (from to : ℕ) (d : Delay) (ds : List Delay) → length (times_between from to (d ∷ ds)) ≡ length (times_between from to (d ∷ [])) + length (times_between from to ds)
length-times from to d ds = ap length (times-append from to (d ∷ []) ds) ∙ length-append (times_between from to (d ∷ [])) (times_between from to ds)

-- the first of them can be counted
pub few-first : (d : Delay) (ds : List Delay) (rows : List ProfileRow) → CanCount (d ∷ ds) rows → count_of d.from d.to rows + 1 < 2 ^ 55
few-first d ds rows c = omega (arith, c.few d.from d.to, length-times d.from d.to d ds, count-single d.from d.to d, count_of-here (single d) (single d) [] refl refl)

kept-first : (d : Delay) (ds : List Delay) (rows : List ProfileRow) → CanCount (d ∷ ds) rows → AreKept (put (single d) rows)
kept-first d ds rows c =
    AreKept-put (single d) rows c.kept (IsSound-single d c.lawful.0.0 c.lawful.0.1 c.lawful.0.2) (width-single d) (few-first d ds rows c)

row_of-first : (from to : ℕ) (d : Delay) (ds : List Delay) (rows : List ProfileRow) → CanCount (d ∷ ds) rows
    → row_of from to (put (single d) rows) ≡ joined_if_any (row_of from to rows) (row_of from to (single d ∷ []))
row_of-first from to d ds rows c = row_of-put from to 0 (single d) rows (RiseFrom-kept rows c.kept) c.kept.sound c.lawful.0.1

-- and then the others can be
pub CanCount-next : (d : Delay) (ds : List Delay) (rows : List ProfileRow) → CanCount (d ∷ ds) rows → CanCount ds (put (single d) rows)
CanCount-next d ds rows c = record {
  kept = kept-first d ds rows c;
  lawful = c.lawful.1;
  few = λ from to.
      let more : count_of from to (put (single d) rows) ≡ count_of from to rows + count_of from to (single d ∷ []) =
      ap counted (row_of-first from to d ds rows c) ∙ counted-joined (row_of from to rows) (row_of from to (single d ∷ [])) in
      omega (arith, c.few from to, more, length-times from to d ds, count-single from to d);
}

TellOf-next : (es : List Delay) (d : Delay) (ds : List Delay) (rows : List ProfileRow) → CanCount (d ∷ ds) rows → TellOf es rows → TellOf (es ++ d ∷ []) (put (single d) rows)
TellOf-next es d ds rows c t = record {
  rising = (kept-first d ds rows c).rising;
  each = λ from to.
      let both = TellsOf-joined (times_between from to es) (times_between from to (d ∷ [])) (row_of from to rows) (row_of from to (single d ∷ [])) (t.each from to) (TellsOf-single from to d) in
      let P : List ℕ → Type 0 = λ l. TellsOf l (row_of from to (put (single d) rows)) in
      subst P (sym (times-append from to es (d ∷ [])))
      (subst (TellsOf (times_between from to es ++ times_between from to (d ∷ []))) (sym (row_of-first from to d ds rows c)) both);
}

-- the rows tell of what they told of, and of the delays that were counted
pub TellOf-count : (es ds : List Delay) (rows : List ProfileRow) → CanCount ds rows → TellOf es rows → TellOf (es ++ ds) (count_all ds rows)
TellOf-count es [] rows c t = subst (λ (l : List Delay). TellOf l rows) (sym (append-nil es)) t
TellOf-count es (d ∷ ds) rows c t =
    subst (λ (l : List Delay). TellOf l (count_all ds (put (single d) rows))) (append_assoc es (d ∷ []) ds)
    (TellOf-count (es ++ d ∷ []) ds (put (single d) rows) (CanCount-next d ds rows c) (TellOf-next es d ds rows c t))

-- the profile of one group more
pub IsProfile-count : (groups : List Copies) (g : Copies) (rows new : List ProfileRow) → CanCount (delays g.members) rows → new ≡ count_all (delays g.members) rows
    → IsProfile groups rows → IsProfile (groups ++ g ∷ []) new
IsProfile-count groups g rows new c is p =
    let all = flat_map-append (λ (h : Copies). delays h.members) groups (g ∷ []) ∙ ap (λ (l : List Delay). delays_of groups ++ l) (append-nil (delays g.members)) in
    subst (λ (l : List Delay). TellOf l new) (sym all)
    (subst (TellOf (delays_of groups ++ delays g.members)) (sym is) (TellOf-count (delays_of groups) (delays g.members) rows c p))

-- how the counts grow
pub count_of-count_all : (from to : ℕ) (ds : List Delay) (rows : List ProfileRow) → CanCount ds rows
    → count_of from to (count_all ds rows) ≡ count_of from to rows + length (times_between from to ds)
count_of-count_all from to [] rows c = omega arith
count_of-count_all from to (d ∷ ds) rows c =
    let rest = count_of-count_all from to ds (put (single d) rows) (CanCount-next d ds rows c) in
    let more : count_of from to (put (single d) rows) ≡ count_of from to rows + count_of from to (single d ∷ []) =
    ap counted (row_of-first from to d ds rows c) ∙ counted-joined (row_of from to rows) (row_of from to (single d ∷ [])) in
    omega (arith, rest, more, length-times from to d ds, count-single from to d)
