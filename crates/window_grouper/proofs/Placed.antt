-- What becomes of the groups and of their index when one more summary is placed.
use Rattle.std.proofs.Common.{ℕ, zero, suc, true, false, List, [], ◌∷◌, ◌++◌, ◌≡◌, ◌≢◌, ◌≤◌, ◌<◌, ◌+◌, ◌⊎◌, Some, Option, refl, sym, ap, subst, ◌∙◌, arith, ⊎_elim, inl, inr, leb, map, length}
use Rattle.std.specs.Prelude.{slice_get, slice_set}
use Rattle.std.specs.List.{list_any}
use Rattle.std.proofs.lemmas.Bool.{cases_Bool, both_ways, and_parts, leb-true, cases_eq}
use Rattle.std.proofs.lemmas.Option.{slice_get_within}
use Rattle.ds_base.specs.Copies.{Copies}
use Rattle.ds_base.specs.declared.summary.Summary.{Summary}
use Rattle.window_grouper.specs.Groups.{same_key}
use Rattle.window_grouper.specs.Over.{EndsBefore, BegunBy}
use Rattle.window_grouper.specs.Placing.{members_take, takes, with_member, single, grown, placed, BeganAt, HaveBegun, Slot, IsIndexOf, HasNewest}
use Rattle.window_grouper.proofs.Covers.{same_key-true, same_key-from}

-- ---- an item by its place

set_here : (gs : List Copies) (i : ℕ) (g k : Copies) → slice_get gs i ≡ Some g → slice_get (slice_set gs i k) i ≡ Some k
set_here [] i g k h = absurd (cc)
set_here (x ∷ gs) zero g k h = refl
set_here (x ∷ gs) (suc i) g k h = set_here gs i g k h

set_other : (gs : List Copies) (i j : ℕ) (k : Copies) → j ≢ i → slice_get (slice_set gs i k) j ≡ slice_get gs j
set_other [] i j k apart = refl
set_other (x ∷ gs) zero zero k apart = absurd (apart refl)
set_other (x ∷ gs) zero (suc j) k apart = refl
set_other (x ∷ gs) (suc i) zero k apart = refl
set_other (x ∷ gs) (suc i) (suc j) k apart = set_other gs i j k (λ e. apart (ap suc e))

pushed_here : (gs : List Copies) (k : Copies) → slice_get (gs ++ k ∷ []) (length gs) ≡ Some k
pushed_here [] k = refl
pushed_here (x ∷ gs) k = pushed_here gs k

pushed_before : (gs : List Copies) (i : ℕ) (g k : Copies) → slice_get gs i ≡ Some g → slice_get (gs ++ k ∷ []) i ≡ Some g
pushed_before [] i g k h = absurd (cc)
pushed_before (x ∷ gs) zero g k h = h
pushed_before (x ∷ gs) (suc i) g k h = pushed_before gs i g k h

pushed_cases : (gs : List Copies) (i : ℕ) (g k : Copies) → slice_get (gs ++ k ∷ []) i ≡ Some g
    → (slice_get gs i ≡ Some g) ⊎ ((i ≡ length gs) × (g ≡ k))
pushed_cases [] zero g k h = let same : g ≡ k = cc in inr (refl, same)
pushed_cases [] (suc i) g k h = absurd (cc)
pushed_cases (x ∷ gs) zero g k h = inl h
pushed_cases (x ∷ gs) (suc i) g k h =
    ⊎_elim (λ (before : slice_get gs i ≡ Some g). inl before)
    (λ (last : (i ≡ length gs) × (g ≡ k)). inr (ap suc last.0, last.1)) (pushed_cases gs i g k h)

-- ---- what a group takes

takes_key : (window : ℕ) (g : Copies) (s : Summary) → takes window g s ≡ true → g.key ≡ s.key
takes_key window g s h = by_members g.members h where
  by_members : (m : List Summary) → members_take window g.key m s ≡ true → g.key ≡ s.key
  by_members [] t = absurd (cc)
  by_members (f ∷ fs) t = same_key-true g.key s.key (and_parts (same_key g.key s.key) (leb s.at.time (f.at.time + window)) t).0

began_grown : (t : ℕ) (m : List Summary) (s : Summary) → BeganAt t m → BeganAt t (m ++ s ∷ [])
began_grown t [] s h = absurd h
began_grown t (f ∷ fs) s h = h

ends_grown : (window t : ℕ) (m : List Summary) (s : Summary) → EndsBefore window t m → EndsBefore window t (m ++ s ∷ [])
ends_grown window t [] s h = absurd h
ends_grown window t (f ∷ fs) s h = h

ends_later : (window t u : ℕ) (m : List Summary) → t ≤ u → EndsBefore window t m → EndsBefore window u m
ends_later window t u [] later h = absurd h
ends_later window t u (f ∷ fs) later h = omega arith

ends_from : (window t u : ℕ) (m : List Summary) → BeganAt t m → t + window < u → EndsBefore window u m
ends_from window t u [] began past = absurd began
ends_from window t u (f ∷ fs) began past = omega arith

-- what is over at a time takes no summary of that time or a later one
pub over_takes_not : (window t : ℕ) (key : List ℕ) (m : List Summary) (s : Summary) → EndsBefore window t m → t ≤ s.at.time
    → members_take window key m s ≡ true → ⊥
over_takes_not window t key [] s over later h = over
over_takes_not window t key (f ∷ fs) s over later h =
    let near : s.at.time ≤ f.at.time + window =
    leb-true s.at.time (f.at.time + window) (and_parts (same_key key s.key) (leb s.at.time (f.at.time + window)) h).1 in
    omega arith

began_by : (t u : ℕ) (m : List Summary) → BeganAt t m → BegunBy u m → t ≤ u
began_by t u [] began by = absurd began
began_by t u (f ∷ fs) began by = omega arith

-- ---- the index

begun_at : (time : ℕ) (gs : List Copies) (i : ℕ) (g : Copies) → HaveBegun time gs → slice_get gs i ≡ Some g → BegunBy time g.members
begun_at time [] i g h e = absurd (cc)
begun_at time (x ∷ gs) zero g h e = let same : x ≡ g = cc in subst (λ (k : Copies). BegunBy time k.members) same h.0
begun_at time (x ∷ gs) (suc i) g h e = begun_at time gs i g h.1 e

-- a group that takes s is the newest with its key
OnlyNewestTakes : ℕ → (List ℕ → Option Slot) → List Copies → Summary → Type 0
OnlyNewestTakes window slots gs s = (i : ℕ) (g : Copies) → slice_get gs i ≡ Some g → takes window g s ≡ true
    → (b : Slot) × (slots s.key ≡ Some b) × (b.place ≡ i)

only_newest : (window : ℕ) (s : Summary) (slots : List ℕ → Option Slot) (gs : List Copies) → IsIndexOf slots gs → HasNewest window slots gs
    → HaveBegun s.at.time gs → OnlyNewestTakes window slots gs s
unfolding OnlyNewestTakes
only_newest window s slots gs index last begun i g at t =
    let l = last i g at in
    let own : slots s.key ≡ Some l.0 = subst (λ (key : List ℕ). slots key ≡ Some l.0) (takes_key window g s t) l.1 in
    let there = index g.key l.0 l.1 in
    let by : l.0.began ≤ s.at.time = began_by l.0.began s.at.time there.0.members there.3 (begun_at s.at.time gs l.0.place there.0 begun there.1) in
    ⊎_elim (λ (here : l.0.place ≡ i). (l.0, own, here))
    (λ (past : (i < l.0.place) × EndsBefore window l.0.began g.members).
    absurd (over_takes_not window l.0.began g.key g.members s past.1 by t)) l.2

-- ---- the groups

NoneTakes : ℕ → List Copies → Summary → Type 0
NoneTakes window gs s = (i : ℕ) (g : Copies) → slice_get gs i ≡ Some g → takes window g s ≡ true → ⊥

free : (window : ℕ) (g : Copies) (s : Summary) → (takes window g s ≡ true → ⊥) → takes window g s ≡ false
free window g s h = ⊎_elim (λ (t : takes window g s ≡ true). absurd (h t)) (λ (f : takes window g s ≡ false). f) (cases_Bool (takes window g s))

none_grows : (window : ℕ) (s : Summary) (gs : List Copies) → NoneTakes window gs s
    → (list_any (λ g. takes window g s) gs ≡ false) × (map (grown window s) gs ≡ gs)
unfolding NoneTakes
none_grows window s [] h = (refl, refl)
none_grows window s (g ∷ gs) h =
    let this : takes window g s ≡ false = free window g s (h 0 g refl) in
    let rest = none_grows window s gs (λ i k e. h (suc i) k e) in
    let any : list_any (λ k. takes window k s) gs ≡ false = rest.0 in
    (rw this any, rw this (ap (λ (ks : List Copies). g ∷ ks) rest.1))

one_grows : (window : ℕ) (s : Summary) (gs : List Copies) (i : ℕ) (g : Copies) → slice_get gs i ≡ Some g → takes window g s ≡ true
    → ((j : ℕ) (k : Copies) → slice_get gs j ≡ Some k → takes window k s ≡ true → j ≡ i)
    → (list_any (λ k. takes window k s) gs ≡ true) × (map (grown window s) gs ≡ slice_set gs i (with_member g s))
unfolding NoneTakes
one_grows window s [] i g h t one = absurd (cc)
one_grows window s (x ∷ gs) zero g h t one =
    let same : g ≡ x = cc in
    let this : takes window x s ≡ true = subst (λ (k : Copies). takes window k s ≡ true) same t in
    let rest = none_grows window s gs (λ j k e u. let bad : suc j ≡ 0 = one (suc j) k e u in omega arith) in
    let head : with_member x s ≡ with_member g s = ap (λ (k : Copies). with_member k s) (sym same) in
    (rw this refl, rw this (ap (λ (ks : List Copies). with_member x s ∷ ks) rest.1 ∙ ap (λ (k : Copies). k ∷ gs) head))
one_grows window s (x ∷ gs) (suc i) g h t one =
    let this : takes window x s ≡ false = free window x s (λ u. let bad : 0 ≡ suc i = one 0 x refl u in omega arith) in
    let rest = one_grows window s gs i g h t (λ j k e u. let up : suc j ≡ suc i = one (suc j) k e u in omega arith) in
    let any : list_any (λ k. takes window k s) gs ≡ true = rest.0 in
    (rw this any, rw this (ap (λ (ks : List Copies). x ∷ ks) rest.1))

same_slot : (o : Option Slot) (b c : Slot) → o ≡ Some b → o ≡ Some c → b ≡ c
same_slot o b c h k = cc

same_group : (gs : List Copies) (i : ℕ) (g k : Copies) → slice_get gs i ≡ Some g → slice_get gs i ≡ Some k → g ≡ k
same_group gs i g k a b = cc

-- ---- s goes into the newest group with its key

pub index_within : (slots : List ℕ → Option Slot) (gs : List Copies) (i : ℕ) (g : Copies) (s : Summary) → IsIndexOf slots gs
    → slice_get gs i ≡ Some g → IsIndexOf slots (slice_set gs i (with_member g s))
index_within slots gs i g s index at key c e =
    let hs : List Copies = slice_set gs i (with_member g s) in
    let was = index key c e in
    ⊎_elim
    (λ (same : c.place ≡ i).
    let here : slice_get gs i ≡ Some was.0 = subst (λ (n : ℕ). slice_get gs n ≡ Some was.0) same was.1 in
    let one : was.0 ≡ g = same_group gs i was.0 g here at in
    let own : BeganAt c.began g.members = subst (λ (k : Copies). BeganAt c.began k.members) one was.3 in (
      with_member g s,
      subst (λ (n : ℕ). slice_get hs n ≡ Some (with_member g s)) (sym same) (set_here gs i g (with_member g s) at),
      ap (λ (k : Copies). k.key) (sym one) ∙ was.2,
      began_grown c.began g.members s own,
    ))
    (λ (apart : c.place ≡ i → ⊥). (was.0, set_other gs i c.place (with_member g s) apart ∙ was.1, was.2, was.3))
    (cases_eq c.place i)

pub newest_within : (window : ℕ) (slots : List ℕ → Option Slot) (gs : List Copies) (i : ℕ) (g : Copies) (s : Summary)
    → HasNewest window slots gs → slice_get gs i ≡ Some g → HasNewest window slots (slice_set gs i (with_member g s))
newest_within window slots gs i g s last at j k e =
    let hs : List Copies = slice_set gs i (with_member g s) in
    ⊎_elim
    (λ (same : j ≡ i).
    let here : slice_get hs i ≡ Some k = subst (λ (n : ℕ). slice_get hs n ≡ Some k) same e in
    let one : with_member g s ≡ k = same_group hs i (with_member g s) k (set_here gs i g (with_member g s) at) here in
    let l = last i g at in
    subst (λ (n : ℕ). (b : Slot) × (slots k.key ≡ Some b) × ((b.place ≡ n) ⊎ ((n < b.place) × EndsBefore window b.began k.members))) (sym same)
    (subst (λ (c : Copies). (b : Slot) × (slots c.key ≡ Some b) × ((b.place ≡ i) ⊎ ((i < b.place) × EndsBefore window b.began c.members))) one (
      l.0,
      l.1,
      ⊎_elim (λ (own : l.0.place ≡ i). inl own)
          (λ (past : (i < l.0.place) × EndsBefore window l.0.began g.members). inr (past.0, ends_grown window l.0.began g.members s past.1)) l.2,
    )))
    (λ (apart : j ≡ i → ⊥). last j k (sym (set_other gs i j (with_member g s) apart) ∙ e))
    (cases_eq j i)

pub placed_within : (window : ℕ) (s : Summary) (slots : List ℕ → Option Slot) (gs : List Copies) (b : Slot) (g : Copies)
    → IsIndexOf slots gs → HasNewest window slots gs → HaveBegun s.at.time gs → slots s.key ≡ Some b → slice_get gs b.place ≡ Some g
    → takes window g s ≡ true → slice_set gs b.place (with_member g s) ≡ placed window s gs
unfolding OnlyNewestTakes
placed_within window s slots gs b g index last begun found at t =
    let only = only_newest window s slots gs index last begun in
    let grows = one_grows window s gs b.place g at t (λ j k e u.
    let o = only j k e u in
    sym o.2 ∙ ap (λ (c : Slot). c.place) (same_slot (slots s.key) o.0 b o.1 found)) in
    let any : list_any (λ k. takes window k s) gs ≡ true = grows.0 in
    rw any (sym grows.1)

-- ---- s begins a group

-- the slot is that of the key now, and every other key has the slot that it had
pub record PutsSlot (old new : List ℕ → Option Slot) (key : List ℕ) (slot : Slot) : Type 0 where
  pub here : new key ≡ Some slot
  pub others : (other : List ℕ) → other ≢ key → new other ≡ old other

pub index_alone : (s : Summary) (old new : List ℕ → Option Slot) (gs : List Copies) → IsIndexOf old gs
    → PutsSlot old new s.key (record { place = length gs; began = s.at.time }) → IsIndexOf new (gs ++ single s ∷ [])
index_alone s old new gs index put key c e =
    let slot : Slot = record { place = length gs; began = s.at.time } in
    ⊎_elim
    (λ (same : same_key key s.key ≡ true).
    let one : key ≡ s.key = same_key-true key s.key same in
    let found : new s.key ≡ Some c = subst (λ (k : List ℕ). new k ≡ Some c) one e in
    let this : slot ≡ c = same_slot (new s.key) slot c put.here found in (
      single s,
      subst (λ (b : Slot). slice_get (gs ++ single s ∷ []) b.place ≡ Some (single s)) this (pushed_here gs (single s)),
      sym one,
      ap (λ (b : Slot). b.began) this,
    ))
    (λ (apart : same_key key s.key ≡ false).
    let other : key ≢ s.key = λ one. both_ways (same_key key s.key) apart (same_key-from key s.key one) in
    let was = index key c (sym (put.others key other) ∙ e) in
    (was.0, pushed_before gs c.place was.0 (single s) was.1, was.2, was.3))
    (cases_Bool (same_key key s.key))

pub newest_alone : (window : ℕ) (s : Summary) (old new : List ℕ → Option Slot) (gs : List Copies) → IsIndexOf old gs
    → HasNewest window old gs → ((b : Slot) → old s.key ≡ Some b → b.began + window < s.at.time)
    → PutsSlot old new s.key (record { place = length gs; began = s.at.time }) → HasNewest window new (gs ++ single s ∷ [])
newest_alone window s old new gs index last past put j k e =
    let slot : Slot = record { place = length gs; began = s.at.time } in
    ⊎_elim
    (λ (before : slice_get gs j ≡ Some k).
    let l = last j k before in
    ⊎_elim
    (λ (same : same_key k.key s.key ≡ true).
    let one : k.key ≡ s.key = same_key-true k.key s.key same in
    let own : old s.key ≡ Some l.0 = subst (λ (key : List ℕ). old key ≡ Some l.0) one l.1 in
    let above : l.0.began + window < s.at.time = past l.0 own in
    let there = index k.key l.0 l.1 in
    let ends : EndsBefore window s.at.time k.members = ⊎_elim
    (λ (here : l.0.place ≡ j).
    let is : slice_get gs j ≡ Some there.0 = subst (λ (n : ℕ). slice_get gs n ≡ Some there.0) here there.1 in
    let group : there.0 ≡ k = same_group gs j there.0 k is before in
    ends_from window l.0.began s.at.time k.members (subst (λ (c : Copies). BeganAt l.0.began c.members) group there.3) above)
    (λ (over : (j < l.0.place) × EndsBefore window l.0.began k.members).
    ends_later window l.0.began s.at.time k.members (omega arith) over.1) l.2 in
    (slot, ap new one ∙ put.here, inr (slice_get_within gs j k before, ends)))
    (λ (apart : same_key k.key s.key ≡ false).
    (l.0, put.others k.key (λ one. both_ways (same_key k.key s.key) apart (same_key-from k.key s.key one)) ∙ l.1, l.2))
    (cases_Bool (same_key k.key s.key)))
    (λ (behind : (j ≡ length gs) × (k ≡ single s)).
    (slot, ap (λ (c : Copies). new c.key) behind.1 ∙ put.here, inl (sym behind.0)))
    (pushed_cases gs j k (single s) e)

pub placed_alone : (window : ℕ) (s : Summary) (slots : List ℕ → Option Slot) (gs : List Copies) → IsIndexOf slots gs
    → HasNewest window slots gs → HaveBegun s.at.time gs
    → ((b : Slot) (g : Copies) → slots s.key ≡ Some b → slice_get gs b.place ≡ Some g → takes window g s ≡ false)
    → gs ++ single s ∷ [] ≡ placed window s gs
unfolding NoneTakes OnlyNewestTakes
placed_alone window s slots gs index last begun past =
    let only = only_newest window s slots gs index last begun in
    let none : NoneTakes window gs s = λ i g e t.
    let o = only i g e t in
    both_ways (takes window g s) (past o.0 g o.1 (subst (λ (n : ℕ). slice_get gs n ≡ Some g) (sym o.2) e)) t in
    let grows = none_grows window s gs none in
    let any : list_any (λ k. takes window k s) gs ≡ false = grows.0 in
    rw any (ap (λ (ks : List Copies). ks ++ single s ∷ []) (sym grows.1))
