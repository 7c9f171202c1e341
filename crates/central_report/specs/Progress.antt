-- What is written of a report while its groups are answered one after another.
use Rattle.std.specs.Prelude.{ℕ, ◌≡◌, ◌<◌, ◌≤◌, ◌^◌, Bool, true, false, List, [], ◌∷◌, ◌++◌, length, All}
use Rattle.std.specs.List.{AllByRecursion}
use Rattle.ds_base.specs.Copies.{Copies}
use Rattle.ds_base.specs.Items.{Items}
use Rattle.ds_base.specs.Order.{InStampOrder}
use Rattle.ds_base.specs.declared.profile_row.ProfileRow.{ProfileRow}
use Rattle.ds_base.specs.declared.summary.Summary.{Summary}
use Rattle.profiles.specs.Delays.{Delay}
use Rattle.profiles.specs.Put.{count_all}
use Rattle.summary_spec.specs.Declaration.{Declared}
use Rattle.window_grouper.specs.Groups.{groups_of}
use Rattle.window_grouper.specs.Open.{Open, HasPlaced}
use Rattle.central_report.specs.Laws.{IsSummaryOf}
use Rattle.central_report.specs.Report.{group_texts, rows_of}
use Rattle.central_report.specs.declared.written.Written.{Written}

-- the rows of the delays of groups, where the job asks for them
abbrev pub asked_rows : (profile : Bool) → List Copies → List ProfileRow
asked_rows false gs = []
asked_rows true gs = rows_of gs

-- rows with these delays, where the job asks for them
abbrev pub counted_rows : (profile : Bool) → List Delay → List ProfileRow → List ProfileRow
counted_rows false ds rows = rows
counted_rows true ds rows = count_all ds rows

-- these groups were answered: their lines are written, and their delays and they themselves are counted
pub record HasAnswered (names : List (Items ℕ)) (job : Declared) (written : Written) (given : List Copies) : Type 0 where
  pub lines : written.text.items ≡ group_texts names job.query given
  pub rows : written.profile ≡ asked_rows job.profile given
  pub number : written.groups ≡ length given

-- each row is of two of so many captures
abbrev pub AreRowsAmong : (captures : ℕ) → List ProfileRow → Type 0
AreRowsAmong captures rows = AllByRecursion (λ row. (row.from < captures) × (row.to < captures)) rows

-- summaries of the job in the order of their stamps, and not too many
pub record AreInTurn (job : Declared) (front : List Summary) : Type 0 where
  pub ordered : InStampOrder front
  pub of_job : All (IsSummaryOf job) front
  pub few : length front ≤ 2 ^ 46

-- the summaries `front` were taken up, and of their groups all but those that are held were answered
pub record HasLeft (names : List (Items ℕ)) (job : Declared) (held : List Copies) (written : Written) (front : List Summary) : Type 0 where
  pub in_turn : AreInTurn job front
  pub given : List Copies
  pub groups : groups_of job.window front ≡ given ++ held
  pub answered : HasAnswered names job written given

-- the same, and each group that was answered was over at this time
pub record HasTaken (names : List (Items ℕ)) (job : Declared) (groups : Open) (written : Written) (front : List Summary) (time : ℕ) : Type 0 where
  pub in_turn : AreInTurn job front
  pub given : List Copies
  pub placed : HasPlaced groups job.window front given time
  pub answered : HasAnswered names job written given

-- some summaries were taken up by this time
pub record HasTakenSome (names : List (Items ℕ)) (job : Declared) (groups : Open) (written : Written) (time : ℕ) : Type 0 where
  pub front : List Summary
  pub before : ℕ
  pub reached : before ≤ time
  pub taken : HasTaken names job groups written front before

-- the summary can be taken up after those that were
pub record IsNextOf (names : List (Items ℕ)) (job : Declared) (groups : Open) (written : Written) (s : Summary) : Type 0 where
  pub front : List Summary
  pub before : ℕ
  pub reached : before ≤ s.at.time
  pub taken : HasTaken names job groups written front before
  pub in_turn : AreInTurn job (front ++ s ∷ [])
