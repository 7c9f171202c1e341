-- What a processor puts is lawful: answers of whole groups, and rows of their profile.
use Rattle.std.proofs.Common.{ℕ, Bool, true, false, List, [], ◌∷◌, ◌++◌, ◌≡◌, ◌<◌, ◌≤◌, ◌+◌, ◌*◌, ◌^◌, Option, Some, None, inl, inr, refl, sym, ap, subst, ◌∙◌, ⊎_elim, arith, map, length, eqb}
use Rattle.std.specs.Prelude.{flat_map, slice_get, ◌==◌, ◌&&◌, All}
use Rattle.std.specs.List.{AllByRecursion, find}
use Rattle.std.proofs.lemmas.Bool.{cases_Bool}
use Rattle.std.proofs.lemmas.List.Elements.{All-from_recursion}
use Rattle.std.proofs.lemmas.List.FromFn.{length-range_with_len}
use Rattle.std.proofs.lemmas.List.Sorted.{sum_by-IsPermutation}
use Rattle.std.proofs.lemmas.List.Sums.{sum_by-cons, sum_by-append}
use Rattle.central_report.specs.Progress.{AreRowsAmong}
use Rattle.ds_base.specs.Copies.{Copies}
use Rattle.ds_base.specs.Fronts.{IsIn}
use Rattle.ds_base.specs.declared.profile_row.ProfileRow.{ProfileRow}
use Rattle.ds_base.specs.declared.summary.Summary.{Summary}
use Rattle.node_frames.specs.declared.frame.Frame.{Frame}
use Rattle.profiles.specs.Delays.{Delay, delays, delays_of, times_between}
use Rattle.profiles.specs.Profile.{IsProfile}
use Rattle.profiles.specs.Put.{put, single, count_all}
use Rattle.profiles.specs.Rows.{IsSound, IsRowOf, TellsOf, PairPrecedes, AreRising, is_of, row_of, count_of}
use Rattle.profiles.proofs.Put.{put_by, is_of-true, both_same, not_true}
use Rattle.profiles.proofs.Windows.{few_delays}
use Rattle.summary_spec.specs.Declaration.{Declared}
use Rattle.summary_spec.specs.Lawful.{IsLawful}
use Rattle.window_grouper.specs.Groups.{members_in}
use Rattle.run_law.specs.Links.{IsStampOf, IsAnswerOf, IsRowOf as IsLawfulRow}
use Rattle.run_law.specs.Nodes.{below, first_member, answer_of, groups_arrived}
use Rattle.run_law.specs.Sent.{groups_in}
use Rattle.run_law.specs.Shapes.{with_number}
use Rattle.run_law.proofs.Lists.{of_below}
use Rattle.run_law.proofs.Parts.{perm_numbers}
use Rattle.query_state.specs.States.{Arrives, AddsGroup}
use Rattle.query_state.proofs.Named.{named_in}
use Rattle.query_state.proofs.Putting.{rising_each}
use Rattle.query_state.proofs.Whole.{IsWhole, IsSound as IsSoundMember, brought}

-- ---- answers

captures_of : (job : Declared) (members : List Summary) → AllByRecursion (IsSoundMember job) members → AllByRecursion (λ (m : Summary). m.at.capture < length job.captures) members
captures_of job [] h = tt
captures_of job (m ∷ ms) h = (h.0.0.capture, captures_of job ms h.1)

first_sound : (job : Declared) (members : List Summary) → AllByRecursion (IsSoundMember job) members → 0 < length members → IsStampOf job (first_member members).at
first_sound job [] h some = absurd (omega arith)
first_sound job (m ∷ ms) h some = h.0.0

pub is_answer : (job : Declared) (x : Copies) → IsLawful job → IsWhole job x → IsAnswerOf job (answer_of job x)
is_answer job x lawful h = record {
  stamp = first_sound job x.members h.sound h.filled;
  key = h.key;
  filled = omega (arith, h.filled);
  named = named_in job x.members lawful h.filled (All-from_recursion (λ (m : Summary). m.at.capture < length job.captures) x.members (captures_of job x.members h.sound));
}

-- ---- how many members

few_flat : (f : ℕ → List Copies) (ks : List ℕ) → ((k : ℕ) → IsIn k ks → members_in (f k) ≤ 2 ^ 46) → members_in (flat_map f ks) ≤ length ks * 2 ^ 46
few_flat f [] each = omega arith
few_flat f (k ∷ ks) each =
    let rest = few_flat f ks (λ j l. each j (inr l)) in
    let own = each k (inl refl) in
    let joined : members_in (f k ++ flat_map f ks) ≡ members_in (f k) + members_in (flat_map f ks) = sum_by-append (λ (g : Copies). length g.members) (f k) (flat_map f ks) in
    omega (arith, own, rest, joined)

pub few_members : (job : Declared) (n : ℕ) (taken : ℕ → List Frame) (arrived : List (ℕ × Copies)) (rows : List ProfileRow) → n ≤ 16 → Arrives job n taken arrived rows
    → members_in (groups_arrived arrived) ≤ 2 ^ 50
few_members job n taken arrived rows few h =
    let same : members_in (groups_arrived arrived) ≡ members_in (flat_map (λ k. with_number k arrived) (below n)) =
    sum_by-IsPermutation (λ (g : Copies). length g.members) (flat_map (λ k. with_number k arrived) (below n)) (groups_arrived arrived) (perm_numbers n arrived h.of_links) in
    let each : members_in (flat_map (λ k. with_number k arrived) (below n)) ≤ length (below n) * 2 ^ 46 =
    few_flat (λ k. with_number k arrived) (below n)
    (λ k l.
    let hk = of_below n k l in
    let b = brought job (taken k) (h.lawful k hk) in
    let is : members_in (with_number k arrived) ≡ members_in (groups_in (taken k)) = ap members_in (h.from_links k hk) in
    let counted = b.counted in
    let most = b.few in
    omega (arith, is, counted, most)) in
    let long : length (below n) ≡ n = length-range_with_len 0 n in
    in_all (members_in (groups_arrived arrived)) (length (below n)) n (omega (arith, same, each)) long few
  where
    in_all : (m k n : ℕ) → m ≤ k * 2 ^ 46 → k ≡ n → n ≤ 16 → m ≤ 2 ^ 50
    in_all m k n h e few = omega (arith, h, e, few)

-- ---- rows

row_found : (xs ys : List ProfileRow) (row : ProfileRow) → AllByRecursion (λ (e : ProfileRow). PairPrecedes e row) xs
    → row_of row.from row.to (xs ++ row ∷ ys) ≡ Some row
row_found [] ys row h = let own : is_of row.from row.to row ≡ true = is_of-true row.from row.to row refl refl in rw own refl
row_found (x ∷ xs) ys row h =
    let other : is_of row.from row.to x ≡ false = not_true (is_of row.from row.to x) (λ t. differs x row h.0 (both_same x.from x.to row.from row.to t)) in
    rw other (row_found xs ys row h.1)
  where
    differs : (x row : ProfileRow) → PairPrecedes x row → (x.from ≡ row.from) × (x.to ≡ row.to) → ⊥
    differs x row (inl less) e = absurd (omega (arith, less, e.0))
    differs x row (inr p) e = absurd (omega (arith, p.1, e.1))

among_at : (captures : ℕ) (xs ys : List ProfileRow) (row : ProfileRow) → AreRowsAmong captures (xs ++ row ∷ ys) → (row.from < captures) × (row.to < captures)
among_at captures [] ys row h = h.0
among_at captures (x ∷ xs) ys row h = among_at captures xs ys row h.1

-- the next row of a profile
pub is_row : (job : Declared) (gs : List Copies) (rows xs ys : List ProfileRow) (row : ProfileRow) → rows ≡ xs ++ row ∷ ys → job.profile ≡ true → IsProfile gs rows
    → AreRowsAmong (length job.captures) rows → members_in gs ≤ 2 ^ 50 → IsSound row → IsLawfulRow job row
is_row job gs rows xs ys row e asked profile among few sound =
    let before = rising_each xs ys row (subst AreRising e profile.rising) in
    let found : row_of row.from row.to rows ≡ Some row = ap (row_of row.from row.to) e ∙ row_found xs ys row before in
    let tells : IsRowOf (times_between row.from row.to (delays_of gs)) row =
    subst (TellsOf (times_between row.from row.to (delays_of gs))) found (profile.each row.from row.to) in
    let ends = among_at (length job.captures) xs ys row (subst (AreRowsAmong (length job.captures)) e among) in
    let least = tells.least_is in
    let most : count_of row.from row.to rows ≤ members_in gs = few_delays gs rows row.from row.to profile in
    let count : count_of row.from row.to rows ≡ row.count = counted row rows found in
    record {
      asked = asked;
      from = ends.0;
      to = ends.1;
      some = sound.some;
      few = omega (arith, most, count, few);
      classes = sound.classes_sum;
      least = least_most (times_between row.from row.to (delays_of gs)) row tells;
      greatest = sound.greatest_within;
      sum_within = sound.sum_within;
    }
  where
    counted : (row : ProfileRow) (rows : List ProfileRow) → row_of row.from row.to rows ≡ Some row → count_of row.from row.to rows ≡ row.count
    counted row rows found = rw found refl

    least_most : (times : List ℕ) (row : ProfileRow) → IsRowOf times row → row.least ≤ row.greatest
    least_most times row t =
        let at = t.least_is in
        let less : row.least ≤ row.greatest = subst (λ (k : ℕ). k ≤ row.greatest) at.2 (t.greatest_above at.0 row.least at.1) in
        less

-- ---- the rows are between captures of the job

delays_among : (captures : ℕ) (members : List Summary) → AllByRecursion (λ (m : Summary). m.at.capture < captures) members
    → AllByRecursion (λ (d : Delay). (d.from < captures) × (d.to < captures)) (delays members)
delays_among captures [] h = tt
delays_among captures (a ∷ []) h = tt
delays_among captures (a ∷ b ∷ members) h = ((h.0, h.1.0), delays_among captures (b ∷ members) h.1)

put_among : (captures : ℕ) (row : ProfileRow) (rows : List ProfileRow) → (row.from < captures) × (row.to < captures) → AreRowsAmong captures rows
    → AreRowsAmong captures (put row rows)
put_among captures row [] h k = (h, tt)
put_among captures row (x ∷ xs) h k =
    put_by (AreRowsAmong captures) row x xs (λ lt. (h, k)) (λ e. (k.0, k.1)) (λ lt. (k.0, put_among captures row xs h k.1))

counted_among : (captures : ℕ) (ds : List Delay) (rows : List ProfileRow) → AllByRecursion (λ (d : Delay). (d.from < captures) × (d.to < captures)) ds
    → AreRowsAmong captures rows → AreRowsAmong captures (count_all ds rows)
counted_among captures [] rows h k = k
counted_among captures (d ∷ ds) rows h k = counted_among captures ds (put (single d) rows) h.1 (put_among captures (single d) rows h.0 k)

-- one group more
pub added_among : (job : Declared) (x : Copies) (rows : List ProfileRow) → IsWhole job x → AreRowsAmong (length job.captures) rows
    → AreRowsAmong (length job.captures) (count_all (delays x.members) rows)
added_among job x rows h among =
    counted_among (length job.captures) (delays x.members) rows (delays_among (length job.captures) x.members (captures_of job x.members h.sound)) among
