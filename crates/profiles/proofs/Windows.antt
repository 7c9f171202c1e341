-- How many delays a group has, and how long they are.
use Rattle.std.proofs.Common.{ℕ, Bool, List, [], ◌∷◌, ◌≤◌, ◌+◌, inl, inr, suc, zero, arith, length, length-append}
use Rattle.std.specs.Prelude.{◌&&◌, ◌==◌, filter, sum_by, All}
use Rattle.std.specs.List.{AllByRecursion}
use Rattle.std.proofs.lemmas.List.{length-map}
use Rattle.std.proofs.lemmas.List.Sums.{sum_by-cons, length-filter, count_by-le-length}
use Rattle.ds_base.specs.Copies.{Copies}
use Rattle.ds_base.specs.Order.{Precedes, InStampOrder}
use Rattle.ds_base.specs.declared.summary.Summary.{Summary}
use Rattle.profiles.specs.Delays.{Delay, delays, delays_of, times_between}
use Rattle.profiles.specs.Rows.{row_of}
use Rattle.profiles.specs.Laws.{RowByRow, FewInGroup, FewDelays, WithinWindow}
use Rattle.profiles.proofs.Counting.{counted-tells}
use Rattle.profiles.proofs.Merging.{AreJoined-put_all, IsProfile-joined}

few_delays-group : (members : List Summary) → length (delays members) ≤ length members
few_delays-group [] = omega arith
few_delays-group (a ∷ []) = omega arith
few_delays-group (a ∷ b ∷ members) = let rest = few_delays-group (b ∷ members) in omega (arith, rest)

few_delays-all : (groups : List Copies) → length (delays_of groups) ≤ sum_by (λ g. length g.members) groups
few_delays-all [] = omega arith
few_delays-all (g ∷ gs) =
    omega (arith, length-append (delays g.members) (delays_of gs), few_delays-all gs, few_delays-group g.members, sum_by-cons (λ (h : Copies). length h.members) g gs)

few_times : (from to : ℕ) (ds : List Delay) → length (times_between from to ds) ≤ length ds
few_times from to ds =
    let p : Delay → Bool = λ d. (d.from == from) && (d.to == to) in
    omega (arith, length-map (filter p ds) (λ (d : Delay). d.time), length-filter p ds, count_by-le-length p ds)

pub few_in_group : FewInGroup
few_in_group members from to = let some = few_delays-group members in omega (arith, few_times from to (delays members), some)

pub few_delays : FewDelays
few_delays groups rows from to h =
    let same = counted-tells (times_between from to (delays_of groups)) (row_of from to rows) (h.each from to) in
    omega (arith, same, few_times from to (delays_of groups), few_delays-all groups)

pub row_by_row : RowByRow
row_by_row groups more old rows can p q = IsProfile-joined groups more old rows _ (AreJoined-put_all rows old can) p q

before : (a b : Summary) → Precedes a.at b.at → a.at.time ≤ b.at.time
before a b (inl lt) = omega arith
before a b (inr e) = omega (arith, e.0)

-- each delay ends in the window, and none begins before the first
within-from : (window least : ℕ) (a : Summary) (members : List Summary) → least ≤ a.at.time → InStampOrder (a ∷ members)
    → AllByRecursion (λ member. member.at.time ≤ least + window) members → All (λ delay. delay.time ≤ window) (delays (a ∷ members))
within-from window least a [] le o w k d lt = absurd (omega arith)
within-from window least a (b ∷ members) le o w zero d lt = omega (arith, le, w.0)
within-from window least a (b ∷ members) le o w (suc k) d lt =
    within-from window least b members (omega (arith, le, before a b o.0.0)) o.1 w.1 k d (omega arith)

pub within_window : WithinWindow
within_window window first members o w = within-from window first.at.time first members (omega arith) o w.1
