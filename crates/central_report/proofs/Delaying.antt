-- The rows of few groups are their profile, and its captures are those of the job.
use Rattle.std.proofs.Common.{ℕ, List, [], ◌∷◌, ◌++◌, ◌≡◌, ◌<◌, ◌≤◌, ◌^◌, length, refl, ap, arith, length-append}
use Rattle.std.specs.List.{AllByRecursion}
use Rattle.std.proofs.lemmas.List.Elements.{recursion_from_All}
use Rattle.std.proofs.lemmas.List.Sums.{sum_by-cons}
use Rattle.ds_base.specs.Copies.{Copies}
use Rattle.ds_base.specs.Times.{hour}
use Rattle.ds_base.specs.declared.profile_row.ProfileRow.{ProfileRow}
use Rattle.ds_base.specs.declared.summary.Summary.{Summary}
use Rattle.profiles.specs.Delays.{Delay, delays, delays_of, times_between}
use Rattle.profiles.specs.Profile.{TellOf, IsProfile}
use Rattle.profiles.specs.Put.{IsLawful as IsLawfulDelay, put, single, count_all}
use Rattle.profiles.proofs.Counting.{TellOf-count}
use Rattle.profiles.proofs.Put.{put_by}
use Rattle.profiles.proofs.Tells.{times-append}
use Rattle.profiles.proofs.Windows.{few_in_group}
use Rattle.summary_spec.specs.Declaration.{Declared}
use Rattle.summary_spec.specs.Lawful.{IsLawful}
use Rattle.window_grouper.specs.Groups.{members_in}
use Rattle.central_report.specs.Answering.{IsAnswerable}
use Rattle.central_report.specs.Laws.{IsSummaryOf}
use Rattle.central_report.specs.Progress.{AreRowsAmong}
use Rattle.central_report.specs.Report.{rows_of}

pub all_append : {X : Type 0} (P : X → Type 0) (xs ys : List X) → AllByRecursion P xs → AllByRecursion P ys → AllByRecursion P (xs ++ ys)
all_append P [] ys h k = k
all_append P (x ∷ xs) ys h k = (h.0, all_append P xs ys h.1 k)

-- ---- delays between captures of the job

-- the delay is between two of so many captures, and no longer than an hour
abbrev pub IsDelayOf : (captures : ℕ) → Delay → Type 0
IsDelayOf captures d = (d.from < captures) × (d.to < captures) × (d.time ≤ hour)

delays_among : (job : Declared) (members : List Summary) → AllByRecursion (IsSummaryOf job) members → AllByRecursion (λ (d : Delay). d.time ≤ hour) (delays members)
    → AllByRecursion (IsDelayOf (length job.captures)) (delays members)
delays_among job [] named short = tt
delays_among job (a ∷ []) named short = tt
delays_among job (a ∷ b ∷ members) named short = ((named.0.0, named.1.0.0, short.0), delays_among job (b ∷ members) named.1 short.1)

pub all_delays : (job : Declared) (gs : List Copies) → AllByRecursion (IsAnswerable job) gs → AllByRecursion (IsDelayOf (length job.captures)) (delays_of gs)
all_delays job [] h = tt
all_delays job (g ∷ gs) h =
    all_append (IsDelayOf (length job.captures)) (delays g.members) (delays_of gs)
    (delays_among job g.members (recursion_from_All (IsSummaryOf job) g.members h.0.of_job) (recursion_from_All (λ (d : Delay). d.time ≤ hour) (delays g.members) h.0.short))
    (all_delays job gs h.1)

all_lawful : (captures : ℕ) (ds : List Delay) → captures ≤ 64 → AllByRecursion (IsDelayOf captures) ds → AllByRecursion IsLawfulDelay ds
all_lawful captures [] most h = tt
all_lawful captures (d ∷ ds) most h = ((omega (arith, h.0.0), omega (arith, h.0.1), h.0.2), all_lawful captures ds most h.1)

-- ---- few of them

few_delays : (from to : ℕ) (gs : List Copies) → length (times_between from to (delays_of gs)) ≤ members_in gs
few_delays from to [] = omega arith
few_delays from to (g ∷ gs) =
    omega (
      arith,
      ap length (times-append from to (delays g.members) (delays_of gs)),
      length-append (times_between from to (delays g.members)) (times_between from to (delays_of gs)),
      few_in_group g.members from to,
      few_delays from to gs,
      sum_by-cons (λ (h : Copies). length h.members) g gs,
    )

none_told : TellOf [] []
none_told = record { rising = tt; each = λ from to. refl }

pub rows_profile : (job : Declared) (gs : List Copies) → IsLawful job → AllByRecursion (IsAnswerable job) gs → members_in gs ≤ 2 ^ 46 → IsProfile gs (rows_of gs)
rows_profile job gs lawful can few =
    TellOf-count [] (delays_of gs) []
    (record {
      kept = record { rising = tt; sound = tt; width = tt };
      lawful = all_lawful (length job.captures) (delays_of gs) lawful.captures.1 (all_delays job gs can);
      few = λ from to. omega (arith, few_delays from to gs, few);
    })
    none_told

-- ---- rows between captures of the job

put_among : (captures : ℕ) (row : ProfileRow) (rows : List ProfileRow) → (row.from < captures) × (row.to < captures) → AreRowsAmong captures rows
    → AreRowsAmong captures (put row rows)
put_among captures row [] h k = (h, tt)
put_among captures row (x ∷ xs) h k =
    put_by (AreRowsAmong captures) row x xs (λ lt. (h, k)) (λ e. (k.0, k.1)) (λ lt. (k.0, put_among captures row xs h k.1))

counted_among : (captures : ℕ) (ds : List Delay) (rows : List ProfileRow) → AllByRecursion (IsDelayOf captures) ds → AreRowsAmong captures rows
    → AreRowsAmong captures (count_all ds rows)
counted_among captures [] rows h k = k
counted_among captures (d ∷ ds) rows h k = counted_among captures ds (put (single d) rows) h.1 (put_among captures (single d) rows (h.0.0, h.0.1) k)

pub rows_among : (job : Declared) (gs : List Copies) → AllByRecursion (IsAnswerable job) gs → AreRowsAmong (length job.captures) (rows_of gs)
rows_among job gs can = counted_among (length job.captures) (delays_of gs) [] (all_delays job gs can) tt

-- ---- one group more

pub count_all-append : (ds es : List Delay) (rows : List ProfileRow) → count_all (ds ++ es) rows ≡ count_all es (count_all ds rows)
count_all-append [] es rows = refl
count_all-append (d ∷ ds) es rows = count_all-append ds es (put (single d) rows)
