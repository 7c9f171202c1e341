-- What the rows tell of once further rows are joined with them.
use Rattle.std.proofs.Common.{ℕ, Bool, true, false, cond, List, [], ◌∷◌, ◌++◌, ◌≡◌, ◌<◌, ◌+◌, ◌^◌, refl, sym, ap, subst, ◌∙◌, arith, ⊎_elim, length, drop, get_or}
use Rattle.std.specs.Prelude.{Option, Some, None}
use Rattle.std.proofs.lemmas.Bool.{cases_Bool}
use Rattle.std.proofs.lemmas.List.{drop_more}
use Rattle.std.proofs.lemmas.Grind.{flat_map-append}
use Rattle.ds_base.specs.Copies.{Copies}
use Rattle.ds_base.specs.declared.profile_row.ProfileRow.{ProfileRow}
use Rattle.profiles.specs.Delays.{Delay, delays, delays_of, times_between}
use Rattle.profiles.specs.Rows.{TellsOf, IsSound, is_of, row_of, count_of, joined_if_any, AreJoined}
use Rattle.profiles.specs.Profile.{TellOf, IsProfile}
use Rattle.profiles.specs.Put.{pair_number, AreKept, CanJoin, put, put_all}
use Rattle.profiles.proofs.Put.{row_of-put, row_of-beyond, joined-none, is_of-number}
use Rattle.profiles.proofs.Places.{RiseFrom-kept, AreRising-from}
use Rattle.profiles.proofs.Kept.{AreKept-put, count_of-here}
use Rattle.profiles.proofs.Tells.{TellsOf-joined, times-append}
use Rattle.profiles.proofs.Counting.{counted, counted-joined}

AreKept-rest : (x : ProfileRow) (xs : List ProfileRow) → AreKept (x ∷ xs) → AreKept xs
AreKept-rest x xs k = record { rising = AreRising-from (pair_number x + 1) xs k.sound.1 (RiseFrom-kept (x ∷ xs) k).1; sound = k.sound.1; width = k.width.1 }

-- no other row is of the first row's pair
row_of-cons : (from to : ℕ) (x : ProfileRow) (xs : List ProfileRow) → AreKept (x ∷ xs) → (old : Option ProfileRow)
    → joined_if_any (joined_if_any old (row_of from to (x ∷ []))) (row_of from to xs) ≡ joined_if_any old (row_of from to (x ∷ xs))
row_of-cons from to x xs k old =
    let P : Bool → Type 0 = λ b. joined_if_any (joined_if_any old (cond b (Some x) None)) (row_of from to xs) ≡ joined_if_any old (cond b (Some x) (row_of from to xs)) in
    ⊎_elim
    (λ (t : is_of from to x ≡ true).
    let number = is_of-number from to x t in
    let none : row_of from to xs ≡ None = row_of-beyond from to (pair_number x + 1) xs (RiseFrom-kept (x ∷ xs) k).1 (omega (arith, number)) in
    let Q : Option ProfileRow → Type 0 = λ o. joined_if_any (joined_if_any old (Some x)) o ≡ joined_if_any old (Some x) in
    subst P (sym t) (subst Q (sym none) (joined-none (joined_if_any old (Some x)))))
    (λ (f : is_of from to x ≡ false). subst P (sym f) (ap (λ (o : Option ProfileRow). joined_if_any o (row_of from to xs)) (joined-none old)))
    (cases_Bool (is_of from to x))

count_of-cons : (from to : ℕ) (x : ProfileRow) (xs : List ProfileRow) → AreKept (x ∷ xs) → count_of from to (x ∷ xs) ≡ count_of from to (x ∷ []) + count_of from to xs
count_of-cons from to x xs k =
    sym (ap counted (row_of-cons from to x xs k None)) ∙ counted-joined (row_of from to (x ∷ [])) (row_of from to xs)

pub few-front : (x : ProfileRow) (xs rows : List ProfileRow) → CanJoin (x ∷ xs) rows → count_of x.from x.to rows + x.count < 2 ^ 55
few-front x xs rows c = omega (arith, c.few x.from x.to, count_of-here x x xs refl refl)

kept-front : (x : ProfileRow) (xs rows : List ProfileRow) → CanJoin (x ∷ xs) rows → AreKept (put x rows)
kept-front x xs rows c = AreKept-put x rows c.kept c.more_kept.sound.0 c.more_kept.width.0 (few-front x xs rows c)

row_of-front : (from to : ℕ) (x : ProfileRow) (xs rows : List ProfileRow) → CanJoin (x ∷ xs) rows
    → row_of from to (put x rows) ≡ joined_if_any (row_of from to rows) (row_of from to (x ∷ []))
row_of-front from to x xs rows c = row_of-put from to 0 x rows (RiseFrom-kept rows c.kept) c.kept.sound c.more_kept.sound.0.to_below

pub CanJoin-next : (x : ProfileRow) (xs rows : List ProfileRow) → CanJoin (x ∷ xs) rows → CanJoin xs (put x rows)
CanJoin-next x xs rows c = record {
  kept = kept-front x xs rows c;
  more_kept = AreKept-rest x xs c.more_kept;
  few = λ from to.
      let more : count_of from to (put x rows) ≡ count_of from to rows + count_of from to (x ∷ []) =
      ap counted (row_of-front from to x xs rows c) ∙ counted-joined (row_of from to rows) (row_of from to (x ∷ [])) in
      omega (arith, c.few from to, more, count_of-cons from to x xs c.more_kept);
}

pub AreKept-put_all : (more rows : List ProfileRow) → CanJoin more rows → AreKept (put_all more rows)
AreKept-put_all [] rows c = c.kept
AreKept-put_all (x ∷ xs) rows c = AreKept-put_all xs (put x rows) (CanJoin-next x xs rows c)

row_of-put_all : (from to : ℕ) (more rows : List ProfileRow) → CanJoin more rows
    → row_of from to (put_all more rows) ≡ joined_if_any (row_of from to rows) (row_of from to more)
row_of-put_all from to [] rows c = sym (joined-none (row_of from to rows))
row_of-put_all from to (x ∷ xs) rows c =
    row_of-put_all from to xs (put x rows) (CanJoin-next x xs rows c)
    ∙ ap (λ (o : Option ProfileRow). joined_if_any o (row_of from to xs)) (row_of-front from to x xs rows c)
    ∙ row_of-cons from to x xs c.more_kept (row_of from to rows)

pub AreJoined-put_all : (more rows : List ProfileRow) → CanJoin more rows → AreJoined rows more (put_all more rows)
AreJoined-put_all more rows c = record { rising = (AreKept-put_all more rows c).rising; each = λ from to. row_of-put_all from to more rows c }

-- rows that are joined tell of the delays of both
pub TellOf-joined : (ds es : List Delay) (a b rows : List ProfileRow) → AreJoined a b rows → TellOf ds a → TellOf es b → TellOf (ds ++ es) rows
TellOf-joined ds es a b rows j s t = record {
  rising = j.rising;
  each = λ from to.
      let both = TellsOf-joined (times_between from to ds) (times_between from to es) (row_of from to a) (row_of from to b) (s.each from to) (t.each from to) in
      let P : List ℕ → Type 0 = λ l. TellsOf l (row_of from to rows) in
      subst P (sym (times-append from to ds es)) (subst (TellsOf (times_between from to ds ++ times_between from to es)) (sym (j.each from to)) both);
}

pub IsProfile-joined : (groups more : List Copies) (a b rows : List ProfileRow) → AreJoined a b rows → IsProfile groups a → IsProfile more b → IsProfile (groups ++ more) rows
IsProfile-joined groups more a b rows j p q =
    let all = flat_map-append (λ (g : Copies). delays g.members) groups more in
    subst (λ (l : List Delay). TellOf l rows) (sym all) (TellOf-joined (delays_of groups) (delays_of more) a b rows j p q)

-- one row alone
pub AreJoined-put : (row : ProfileRow) (rows : List ProfileRow) → AreKept rows → IsSound row → length row.classes ≡ 64 → count_of row.from row.to rows + row.count < 2 ^ 55
    → AreJoined rows (row ∷ []) (put row rows)
AreJoined-put row rows k s w few = record {
  rising = (AreKept-put row rows k s w few).rising;
  each = λ from to. row_of-put from to 0 row rows (RiseFrom-kept rows k) k.sound s.to_below;
}

-- ---- a step of the loop

pub next-joined : (more rows new all : List ProfileRow) (i : ℕ) (d : ProfileRow) → i < length more → CanJoin (drop i more) rows → new ≡ put (get_or more i d) rows
    → put_all (drop i more) rows ≡ all → CanJoin (drop (i + 1) more) new × (put_all (drop (i + 1) more) new ≡ all)
next-joined more rows new all i d lt c is e =
    let at = drop_more more i d lt in
    let rest = drop (i + 1) more in
    let x = get_or more i d in
    let can = subst (λ (m : List ProfileRow). CanJoin m rows) at c in
    (subst (CanJoin rest) (sym is) (CanJoin-next x rest rows can), ap (put_all rest) is ∙ sym (ap (λ (m : List ProfileRow). put_all m rows) at) ∙ e)

-- ---- what the calls leave: `old` is the value, and `rows` the list that the profile holds

pub AreJoined-merged : (old other rows more new : List ProfileRow) → rows ≡ old → more ≡ other → AreKept rows → AreKept more
    → ((from to : ℕ) → count_of from to old + count_of from to other < 2 ^ 55) → new ≡ put_all more rows → AreJoined old other new
AreJoined-merged old other rows more new e f k l few is =
    let can : CanJoin other old = record { kept = subst AreKept e k; more_kept = subst AreKept f l; few = few } in
    let same : new ≡ put_all other old = is ∙ ap (λ (m : List ProfileRow). put_all m rows) f ∙ ap (put_all other) e in
    subst (AreJoined old other) (sym same) (AreJoined-put_all other old can)

pub AreKept-added : (row : ProfileRow) (old rows new : List ProfileRow) → rows ≡ old → AreKept rows → IsSound row → length row.classes ≡ 64
    → count_of row.from row.to old + row.count < 2 ^ 55 → new ≡ put row rows → AreKept new
AreKept-added row old rows new e k s w few is = subst AreKept (sym (is ∙ ap (put row) e)) (AreKept-put row old (subst AreKept e k) s w few)

pub AreJoined-added : (row : ProfileRow) (old rows new : List ProfileRow) → rows ≡ old → AreKept rows → IsSound row → length row.classes ≡ 64
    → count_of row.from row.to old + row.count < 2 ^ 55 → new ≡ put row rows → AreJoined old (row ∷ []) new
AreJoined-added row old rows new e k s w few is = subst (AreJoined old (row ∷ [])) (sym (is ∙ ap (put row) e)) (AreJoined-put row old (subst AreKept e k) s w few)

pub count_of-joined : (from to : ℕ) (a b rows : List ProfileRow) → AreJoined a b rows → count_of from to rows ≡ count_of from to a + count_of from to b
count_of-joined from to a b rows j = ap counted (j.each from to) ∙ counted-joined (row_of from to a) (row_of from to b)
