-- What is asked of a group, so that its line can be written and its delays can be counted.
use Rattle.std.specs.Prelude.{ℕ, ◌<◌, ◌≤◌, ◌+◌, ◌^◌, length, All}
use Rattle.ds_base.specs.Copies.{Copies}
use Rattle.ds_base.specs.Order.{InStampOrder}
use Rattle.ds_base.specs.Times.{hour}
use Rattle.profiles.specs.Delays.{delays, times_between}
use Rattle.profiles.specs.Rows.{count_of}
use Rattle.summary_spec.specs.Declaration.{Declared}
use Rattle.central_report.specs.Laws.{IsSummaryOf}
use Rattle.central_report.specs.declared.written.Written.{Written}

-- the group has members, in stamp order, all of the job, and no delay of more than an hour
pub record IsAnswerable (job : Declared) (g : Copies) : Type 0 where
  pub some : 0 < length g.members
  pub ordered : InStampOrder g.members
  pub of_job : All (IsSummaryOf job) g.members
  pub short : All (λ delay. delay.time ≤ hour) (delays g.members)

-- the group can be answered, and counted beside what was counted so far
pub record IsNext (job : Declared) (written : Written) (g : Copies) : Type 0 where
  pub answerable : IsAnswerable job g
  pub counted : (from to : ℕ) → count_of from to written.profile + length (times_between from to (delays g.members)) < 2 ^ 55
  pub few : written.groups < 2 ^ 63
