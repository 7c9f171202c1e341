-- The groups of summaries of a job can be answered.
use Rattle.std.proofs.Common.{ℕ, List, [], ◌∷◌, ◌≤◌, length, arith}
use Rattle.std.specs.Prelude.{All}
use Rattle.std.specs.List.{AllByRecursion}
use Rattle.std.proofs.lemmas.List.Elements.{All-from_recursion, All-weaker, recursion_from_All}
use Rattle.std.proofs.lemmas.List.Sums.{sum_by-cons}
use Rattle.ds_base.specs.Copies.{Copies}
use Rattle.ds_base.specs.Order.{InStampOrder}
use Rattle.ds_base.specs.Times.{hour}
use Rattle.ds_base.specs.declared.summary.Summary.{Summary}
use Rattle.profiles.specs.Delays.{Delay, delays}
use Rattle.profiles.proofs.Windows.{within_window}
use Rattle.summary_spec.specs.Declaration.{Declared}
use Rattle.summary_spec.specs.Lawful.{IsLawful}
use Rattle.window_grouper.specs.Cut.{IsWithin}
use Rattle.window_grouper.specs.Groups.{groups_of, IsGroup, members_in}
use Rattle.window_grouper.proofs.Members.{all_grouped, behind_each}
use Rattle.central_report.specs.Answering.{IsAnswerable}
use Rattle.central_report.specs.Laws.{IsSummaryOf}

-- no delay is longer than the window
short_delays : (window : ℕ) (members : List Summary) → window ≤ hour → InStampOrder members → IsWithin window members
    → All (λ (d : Delay). d.time ≤ hour) (delays members)
short_delays window [] less ordered within = λ k d lt. absurd (omega arith)
short_delays window (first ∷ others) less ordered within =
    All-weaker (λ (d : Delay). d.time ≤ window) (λ (d : Delay). d.time ≤ hour) (λ d h. omega (arith, h, less)) (delays (first ∷ others))
    (within_window window first others ordered within)

one_answerable : (job : Declared) (g : Copies) → IsLawful job → IsGroup job.window g → AllByRecursion (IsSummaryOf job) g.members → IsAnswerable job g
one_answerable job g lawful h named = record {
  some = h.filled;
  ordered = h.ordered;
  of_job = All-from_recursion (IsSummaryOf job) g.members named;
  short = short_delays job.window g.members lawful.window h.ordered h.within;
}

all_answerable : (job : Declared) (gs : List Copies) → IsLawful job → AllByRecursion (IsGroup job.window) gs → AllByRecursion (λ (g : Copies). AllByRecursion (IsSummaryOf job) g.members) gs
    → AllByRecursion (IsAnswerable job) gs
all_answerable job [] lawful h named = tt
all_answerable job (g ∷ gs) lawful h named = (one_answerable job g lawful h.0 named.0, all_answerable job gs lawful h.1 named.1)

pub answerable : (job : Declared) (l : List Summary) → IsLawful job → InStampOrder l → All (IsSummaryOf job) l → AllByRecursion (IsAnswerable job) (groups_of job.window l)
answerable job l lawful ordered named =
    all_answerable job (groups_of job.window l) lawful (all_grouped job.window l ordered).0
    (behind_each job.window (IsSummaryOf job) [] l (recursion_from_All (IsSummaryOf job) l named))

-- there are no more groups than members
pub few_groups : (job : Declared) (gs : List Copies) → AllByRecursion (IsAnswerable job) gs → length gs ≤ members_in gs
few_groups job [] h = omega arith
few_groups job (g ∷ gs) h =
    omega (arith, few_groups job gs h.1, h.0.some, sum_by-cons (λ (g : Copies). length g.members) g gs)
