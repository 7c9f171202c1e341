-- What is true of the accepted summaries of a job's captures.
use Rattle.std.specs.Prelude.{ℕ, ◌≡◌, ◌<◌, ◌≤◌, ◌^◌, List, Some, length, slice_get, All}
use Rattle.ds_base.specs.Fronts.{IsIn}
use Rattle.ds_base.specs.Order.{InStampOrder}
use Rattle.ds_base.specs.declared.summary.Summary.{Summary}
use Rattle.key_select.specs.Fates.{accepted_of}
use Rattle.key_select.specs.Wanted.{good_of}
use Rattle.profiles.specs.Profile.{IsProfile}
use Rattle.summary_spec.specs.Declaration.{Declared}
use Rattle.summary_spec.specs.Lawful.{IsLawful}
use Rattle.window_grouper.specs.Sorted.{StampsDiffer}
use Rattle.central_report.specs.Report.{accepted, accepted_from, groups, rows_of}

-- the summary is of a capture of the job, and has a value for each of its variables
abbrev pub IsSummaryOf : Declared → Summary → Type 0
IsSummaryOf job s = (s.at.capture < length job.captures) × (length s.vals ≡ length job.vars)

-- what `central_text` asks of its list holds of the accepted summaries of at most as many files as there are captures
pub record AreReportable (job : Declared) (list : List Summary) : Type 0 where
  pub differ : StampsDiffer list
  pub of_job : All (IsSummaryOf job) list
  pub few : length list ≤ 2 ^ 46

abbrev pub AcceptedAreReportable : Type 0
AcceptedAreReportable = (job : Declared) (files : List (List ℕ)) → IsLawful job → length files ≤ length job.captures
    → AreReportable job (accepted_from job 0 files)

-- the summary is accepted of the records of one of the captures
pub record IsAcceptedIn (job : Declared) (files : List (List ℕ)) (s : Summary) : Type 0 where
  pub capture : ℕ
  pub bytes : List ℕ
  pub file : slice_get files capture ≡ Some bytes
  pub accepted : IsIn s (accepted_of job capture (good_of job capture bytes).records)

-- the list has each summary that is accepted of a capture, no other, and each before all later ones
pub record IsAllAccepted (job : Declared) (files : List (List ℕ)) (list : List Summary) : Type 0 where
  pub ordered : InStampOrder list
  pub every : (s : Summary) → IsAcceptedIn job files s → IsIn s list
  pub only : (s : Summary) → IsIn s list → IsAcceptedIn job files s

-- The accepted summaries are such a list, and it is the only one.
abbrev pub AcceptedIsAll : Type 0
AcceptedIsAll = (job : Declared) (files : List (List ℕ)) → IsLawful job → length files ≤ length job.captures
    → IsAllAccepted job files (accepted job files) × ((list : List Summary) → IsAllAccepted job files list → list ≡ accepted job files)

-- the rows of the report are the profile of its groups
abbrev pub RowsAreProfile : Type 0
RowsAreProfile = (job : Declared) (files : List (List ℕ)) → IsLawful job → length files ≤ length job.captures
    → IsProfile (groups job files) (rows_of (groups job files))
