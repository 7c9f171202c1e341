-- What a profile keeps of its rows is kept by putting one more.
use Rattle.std.proofs.Common.{ℕ, Bool, cond, List, [], ◌∷◌, ◌≡◌, ◌<◌, ◌≤◌, ◌+◌, ◌*◌, ◌^◌, refl, sym, ap, subst, ◌∙◌, arith, length, max, replicate, get_or, set, length-set}
use Rattle.std.specs.Prelude.{Some}
use Rattle.std.specs.List.{AllByRecursion}
use Rattle.std.specs.Option.{option_map_or}
use Rattle.std.proofs.Math.Nat.{add-mul, mul-le-mul_left, le-max_left, le-max_right}
use Rattle.ds_base.specs.Times.{hour}
use Rattle.ds_base.specs.declared.profile_row.ProfileRow.{ProfileRow}
use Rattle.profiles.specs.Delays.{Delay}
use Rattle.profiles.specs.Rows.{IsSound, row_of, count_of, joined, class_of}
use Rattle.profiles.specs.Put.{pair_number, AreKept, HasRoom, PutsAt, InsertsAt, put, single}
use Rattle.profiles.proofs.Put.{RiseFrom, put_by, is_of-true, is_of-other, same_pair}
use Rattle.profiles.proofs.Places.{RiseFrom-kept, AreRising-from, room-for-new}
use Rattle.profiles.proofs.Classes.{sum-added, sum-one, class-few, length-added}

RiseFrom-put : (n : ℕ) (row : ProfileRow) (rows : List ProfileRow) → RiseFrom n rows → n ≤ pair_number row → RiseFrom n (put row rows)
RiseFrom-put n row [] h le = (le, tt)
RiseFrom-put n row (x ∷ xs) h le =
    put_by (RiseFrom n) row x xs (λ lt. (le, (omega arith, h.1))) (λ e. (h.0, h.1))
    (λ lt. (h.0, RiseFrom-put (pair_number x + 1) row xs h.1 (omega arith)))

joined_sum : (a b s t g h m : ℕ) → s ≤ a * g → t ≤ b * h → g ≤ m → h ≤ m → s + t ≤ (a + b) * m
joined_sum a b s t g h m p q u v = omega (arith, add-mul a b m, mul-le-mul_left a u, mul-le-mul_left b v, p, q)

IsSound-joined : (x row : ProfileRow) → IsSound x → IsSound row → length x.classes ≡ 64 → length row.classes ≡ 64 → x.count + row.count < 2 ^ 55
    → IsSound (joined x row)
IsSound-joined x row s t w v few = record {
  from_below = s.from_below;
  to_below = s.to_below;
  some = omega (arith, s.some);
  few = few;
  classes_sum = omega (arith, sum-added x.classes row.classes (w ∙ sym v), s.classes_sum, t.classes_sum);
  greatest_within = omega (arith, s.greatest_within, t.greatest_within);
  sum_within = joined_sum x.count row.count x.sum row.sum x.greatest row.greatest (max x.greatest row.greatest) s.sum_within t.sum_within (le-max_left x.greatest row.greatest) (le-max_right x.greatest row.greatest);
}

pub count_of-here : (x row : ProfileRow) (xs : List ProfileRow) → x.from ≡ row.from → x.to ≡ row.to → count_of row.from row.to (x ∷ xs) ≡ x.count
count_of-here x row xs e f =
    let P : Bool → Type 0 = λ b. option_map_or (λ (r : ProfileRow). r.count) (cond b (Some x) (row_of row.from row.to xs)) 0 ≡ x.count in
    subst P (sym (is_of-true row.from row.to x e f)) refl

count_of-behind : (x row : ProfileRow) (xs : List ProfileRow) → pair_number x < pair_number row → count_of row.from row.to (x ∷ xs) ≡ count_of row.from row.to xs
count_of-behind x row xs lt =
    let P : Bool → Type 0 = λ b. option_map_or (λ (r : ProfileRow). r.count) (cond b (Some x) (row_of row.from row.to xs)) 0 ≡ count_of row.from row.to xs in
    subst P (sym (is_of-other row.from row.to x (λ e. omega (arith, e)))) refl

AreSound-put : (row : ProfileRow) (rows : List ProfileRow) → AllByRecursion IsSound rows → AllByRecursion (λ r. length r.classes ≡ 64) rows
    → IsSound row → length row.classes ≡ 64 → count_of row.from row.to rows + row.count < 2 ^ 55 → AllByRecursion IsSound (put row rows)
AreSound-put row [] s w t v few = (t, tt)
AreSound-put row (x ∷ xs) s w t v few =
    put_by (AllByRecursion IsSound) row x xs (λ lt. (t, s))
    (λ e.
    let p = same_pair x row s.0.to_below t.to_below e in
    (IsSound-joined x row s.0 t w.0 v (omega (arith, few, count_of-here x row xs p.0 p.1)), s.1))
    (λ lt. (s.0, AreSound-put row xs s.1 w.1 t v (omega (arith, few, count_of-behind x row xs lt))))

AreWide-put : (row : ProfileRow) (rows : List ProfileRow) → AllByRecursion (λ r. length r.classes ≡ 64) rows → length row.classes ≡ 64
    → AllByRecursion (λ r. length r.classes ≡ 64) (put row rows)
AreWide-put row [] w v = (v, tt)
AreWide-put row (x ∷ xs) w v =
    put_by (AllByRecursion (λ r. length r.classes ≡ 64)) row x xs (λ lt. (v, w))
    (λ e. (length-added x.classes row.classes ∙ w.0, w.1)) (λ lt. (w.0, AreWide-put row xs w.1 v))

pub AreKept-put : (row : ProfileRow) (rows : List ProfileRow) → AreKept rows → IsSound row → length row.classes ≡ 64
    → count_of row.from row.to rows + row.count < 2 ^ 55 → AreKept (put row rows)
AreKept-put row rows k t v few =
    let sound = AreSound-put row rows k.sound k.width t v few in
    record {
      rising = AreRising-from 0 (put row rows) sound (RiseFrom-put 0 row rows (RiseFrom-kept rows k) (omega arith));
      sound = sound;
      width = AreWide-put row rows k.width v;
    }

pub IsSound-single : (d : Delay) → d.from < 64 → d.to < 64 → d.time ≤ hour → IsSound (single d)
IsSound-single d f t h = record {
  from_below = f;
  to_below = t;
  some = omega arith;
  few = omega arith;
  classes_sum = sym (sum-one 64 (class_of d.time) (class-few d.time h));
  greatest_within = h;
  sum_within = omega arith;
}

pub width-single : (d : Delay) → length (single d).classes ≡ 64
width-single d = length-set (replicate 64 0) (class_of d.time) 1

-- ---- what the code does at the place that it found

pub insert-room : (len capacity number : ℕ) (row : ProfileRow) (xs rows : List ProfileRow) (i : ℕ) → AreKept rows → IsSound row → length row.classes ≡ 64
    → count_of row.from row.to rows + row.count < 2 ^ 55 → xs ≡ rows → length xs ≡ len → InsertsAt number xs i → pair_number row ≡ number
    → HasRoom len capacity 1 → len < capacity
insert-room len capacity number row xs rows i k t w few same long found is room =
    let P : List ProfileRow → Type 0 = λ l. AreKept (put row l) in
    room-for-new len capacity row xs i (subst P (sym same) (AreKept-put row rows k t w few)) found.0 (found.1 row is) (sym long) room

pub put-found : (number : ℕ) (row : ProfileRow) (xs rows : List ProfileRow) (i : ℕ) (x y : ProfileRow) → xs ≡ rows → PutsAt number xs i → pair_number row ≡ number
    → x ≡ get_or rows i x → y ≡ joined x row → set rows i y ≡ put row rows
put-found number row xs rows i x y same found is at joins =
    let P : List ProfileRow → Type 0 = λ l. put row l ≡ set l i (joined (get_or l i x) row) in
    let e = subst P same (found.1 row x is) in
    let here : joined (get_or rows i x) row ≡ joined x row = ap (λ (r : ProfileRow). joined r row) (sym at) in
    cc
