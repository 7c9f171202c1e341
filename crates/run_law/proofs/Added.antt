-- The profile: the rows of all processors, added up, are those of all groups.
use Rattle.std.proofs.Common.{ℕ, Bool, true, false, List, [], ◌∷◌, ◌++◌, ◌≡◌, ◌≤◌, ◌+◌, ◌^◌, inl, inr, refl, ap, subst, ◌∙◌, arith, map, length, length-append}
use Rattle.std.specs.Prelude.{flat_map}
use Rattle.std.specs.List.{AllByRecursion}
use Rattle.std.specs.List.Sorted.{IsPermutation}
use Rattle.std.proofs.lemmas.List.Sums.{sum_by-append, sum_by-cons}
use Rattle.std.proofs.lemmas.List.Sorted.{IsPermutation-append_comm, sum_by-IsPermutation}
use Rattle.central_report.specs.Answering.{IsAnswerable}
use Rattle.central_report.specs.Laws.{IsSummaryOf}
use Rattle.central_report.specs.Report.{accepted, accepted_from, groups, rows_of, row_texts, profile_texts, names_of}
use Rattle.central_report.proofs.Accepted.{accepted_reportable}
use Rattle.central_report.proofs.Delaying.{IsDelayOf, all_delays, rows_profile}
use Rattle.central_report.proofs.Gathered.{answerable}
use Rattle.central_report.proofs.Profiled.{rows_are_profile}
use Rattle.central_report.proofs.Sorting.{all_sorted, length-by_stamp}
use Rattle.ds_base.specs.Copies.{Copies}
use Rattle.ds_base.specs.Fronts.{IsIn}
use Rattle.ds_base.specs.declared.profile_row.ProfileRow.{ProfileRow}
use Rattle.ds_base.specs.declared.summary.Summary.{Summary}
use Rattle.profiles.specs.Delays.{Delay, delays, delays_of, times_between}
use Rattle.profiles.specs.Profile.{IsProfile}
use Rattle.profiles.specs.Put.{IsLawful as IsLawfulDelay, AreKept, CanCount, CanJoin, count_all, put_all, put, single}
use Rattle.profiles.proofs.Counting.{CanCount-next}
use Rattle.profiles.proofs.Orders.{in_any_order}
use Rattle.profiles.proofs.Unique.{one_profile}
use Rattle.profiles.proofs.Windows.{few_delays, few_in_group, row_by_row}
use Rattle.profiles.proofs.Tells.{times-append}
use Rattle.summary_spec.specs.Declaration.{Declared}
use Rattle.summary_spec.specs.Lawful.{IsLawful}
use Rattle.window_grouper.specs.Groups.{members_in}
use Rattle.window_grouper.proofs.Insertion.{in_order-by_stamp}
use Rattle.window_grouper.proofs.Members.{all_grouped}
use Rattle.run_law.specs.Laws.{IsRun}
use Rattle.run_law.specs.Nodes.{rows_added, IsAskedProfile}
use Rattle.run_law.specs.Shapes.{Shape}
use Rattle.run_law.proofs.Lists.{all_in, in_all, in_left, in_right, in_permutation}

-- rows that were counted are kept
kept_counted : (ds : List Delay) (rows : List ProfileRow) → CanCount ds rows → AreKept (count_all ds rows)
kept_counted [] rows c = c.kept
kept_counted (d ∷ ds) rows c = kept_counted ds (put (single d) rows) (CanCount-next d ds rows c)

all_lawful : (captures : ℕ) (ds : List Delay) → captures ≤ 64 → AllByRecursion (IsDelayOf captures) ds → AllByRecursion IsLawfulDelay ds
all_lawful captures [] most h = tt
all_lawful captures (d ∷ ds) most h = ((omega (arith, h.0.0), omega (arith, h.0.1), h.0.2), all_lawful captures ds most h.1)

few_times : (from to : ℕ) (gs : List Copies) → length (times_between from to (delays_of gs)) ≤ members_in gs
few_times from to [] = omega arith
few_times from to (g ∷ gs) =
    omega (
      arith,
      ap length (times-append from to (delays g.members) (delays_of gs)),
      length-append (times_between from to (delays g.members)) (times_between from to (delays_of gs)),
      few_in_group g.members from to,
      few_times from to gs,
      sum_by-cons (λ (h : Copies). length h.members) g gs,
    )

can_count : (job : Declared) (gs : List Copies) → IsLawful job → AllByRecursion (IsAnswerable job) gs → members_in gs ≤ 2 ^ 46 → CanCount (delays_of gs) []
can_count job gs lawful can few = record {
  kept = record { rising = tt; sound = tt; width = tt };
  lawful = all_lawful (length job.captures) (delays_of gs) lawful.captures.1 (all_delays job gs can);
  few = λ from to. omega (arith, few_times from to gs, few);
}

-- a profile of groups that can be answered is kept
kept_profile : (job : Declared) (gs : List Copies) (rows : List ProfileRow) → IsLawful job → AllByRecursion (IsAnswerable job) gs → members_in gs ≤ 2 ^ 46
    → IsProfile gs rows → AreKept rows
kept_profile job gs rows lawful can few is =
    let own : IsProfile gs (rows_of gs) = rows_profile job gs lawful can few in
    subst AreKept (one_profile gs (rows_of gs) rows own is) (kept_counted (delays_of gs) [] (can_count job gs lawful can few))

-- of several lists of groups
added_up : (job : Declared) (all : List Copies) (going : ℕ → List Copies) (rows : ℕ → List ProfileRow) (qs : List ℕ) → IsLawful job
    → AllByRecursion (IsAnswerable job) (flat_map going qs) → members_in (flat_map going qs) ≤ 2 ^ 46
    → ((q : ℕ) → IsIn q qs → IsProfile (going q) (rows q))
    → IsProfile (flat_map going qs) (rows_added (map rows qs))
added_up job all going rows [] lawful can few each = record { rising = tt; each = λ from to. refl }
added_up job all going rows (q ∷ qs) lawful can few each =
    let one : List Copies = going q in
    let others : List Copies = flat_map going qs in
    let can_one : AllByRecursion (IsAnswerable job) one =
    in_all (IsAnswerable job) one (λ x l. all_in (IsAnswerable job) x (one ++ others) can (in_left x one others l)) in
    let can_others : AllByRecursion (IsAnswerable job) others =
    in_all (IsAnswerable job) others (λ x l. all_in (IsAnswerable job) x (one ++ others) can (in_right x one others l)) in
    let sums : members_in (one ++ others) ≡ members_in one + members_in others = sum_by-append (λ (g : Copies). length g.members) one others in
    let few_one : members_in one ≤ 2 ^ 46 = omega (arith, sums, few) in
    let few_others : members_in others ≤ 2 ^ 46 = omega (arith, sums, few) in
    let rest : IsProfile others (rows_added (map rows qs)) = added_up job all going rows qs lawful can_others few_others (λ k l. each k (inr l)) in
    let own : IsProfile one (rows q) = each q (inl refl) in
    let join : CanJoin (rows q) (rows_added (map rows qs)) = record {
      kept = kept_profile job others (rows_added (map rows qs)) lawful can_others few_others rest;
      more_kept = kept_profile job one (rows q) lawful can_one few_one own;
      few = λ from to. omega (arith, few_delays others (rows_added (map rows qs)) from to rest, few_delays one (rows q) from to own, few_one, few_others);
    } in
    in_any_order (others ++ one) (one ++ others) (put_all (rows q) (rows_added (map rows qs))) (IsPermutation-append_comm others one)
    (row_by_row others one (rows_added (map rows qs)) (rows q) join rest own)

-- no rows
none_added : (rows : ℕ → List ProfileRow) (qs : List ℕ) → ((q : ℕ) → IsIn q qs → rows q ≡ []) → rows_added (map rows qs) ≡ []
none_added rows [] none = refl
none_added rows (q ∷ qs) none =
    ap (λ (rs : List ProfileRow). put_all rs (rows_added (map rows qs))) (none q (inl refl)) ∙ none_added rows qs (λ k l. none k (inr l))

module _ (job : Declared) (files : List (List ℕ)) (shape : Shape) (run : IsRun job files shape) where
  can_answer : AllByRecursion (IsAnswerable job) (groups job files)
  can_answer =
      let list : List Summary = accepted_from job 0 files in
      let h = accepted_reportable job files run.job_is (omega (arith, run.files_are)) in
      answerable job (accepted job files) run.job_is (in_order-by_stamp list h.differ) (all_sorted (IsSummaryOf job) list h.of_job)

  few_members : members_in (groups job files) ≤ 2 ^ 46
  few_members =
      let list : List Summary = accepted_from job 0 files in
      let h = accepted_reportable job files run.job_is (omega (arith, run.files_are)) in
      let ordered = in_order-by_stamp list h.differ in
      omega (arith, (all_grouped job.window (accepted job files) ordered).1, length-by_stamp list, h.few)

  -- the lines of the profile
  pub profile_lines : (going : ℕ → List Copies) (rows : ℕ → List ProfileRow) (qs : List ℕ) → IsPermutation (flat_map going qs) (groups job files)
      → ((q : ℕ) → IsIn q qs → IsAskedProfile job.profile (going q) (rows q))
      → row_texts (names_of job) (rows_added (map rows qs)) ≡ profile_texts (names_of job) job.profile (groups job files)
  profile_lines going rows qs same each = by_asked job.profile each
    where
      by_asked : (asked : Bool) → ((q : ℕ) → IsIn q qs → IsAskedProfile asked (going q) (rows q))
          → row_texts (names_of job) (rows_added (map rows qs)) ≡ profile_texts (names_of job) asked (groups job files)
      by_asked false none = ap (row_texts (names_of job)) (none_added rows qs none)
      by_asked true own =
          let all : List Copies = flat_map going qs in
          let can : AllByRecursion (IsAnswerable job) all =
          in_all (IsAnswerable job) all (λ x l. all_in (IsAnswerable job) x (groups job files) can_answer (in_permutation x all (groups job files) same l)) in
          let few : members_in all ≤ 2 ^ 46 = omega (arith, sum_by-IsPermutation (λ (g : Copies). length g.members) all (groups job files) same, few_members) in
          let added : IsProfile (groups job files) (rows_added (map rows qs)) =
          in_any_order all (groups job files) (rows_added (map rows qs)) same (added_up job all going rows qs run.job_is can few own) in
          ap (row_texts (names_of job)) (one_profile (groups job files) (rows_added (map rows qs)) (rows_of (groups job files)) added
          (rows_are_profile job files run.job_is (omega (arith, run.files_are))))
