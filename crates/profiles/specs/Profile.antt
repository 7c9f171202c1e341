-- The profile of groups.
use Rattle.std.specs.Prelude.{ℕ, List}
use Rattle.ds_base.specs.Copies.{Copies}
use Rattle.ds_base.specs.declared.profile_row.ProfileRow.{ProfileRow}
use Rattle.profiles.specs.Delays.{Delay, delays_of, times_between}
use Rattle.profiles.specs.Rows.{AreRising, row_of, TellsOf}

-- in rising order, the rows of exactly the pairs with a delay, and each tells of the delays of its pair
pub record TellOf (ds : List Delay) (rows : List ProfileRow) : Type 0 where
  pub rising : AreRising rows
  pub each : (from to : ℕ) → TellsOf (times_between from to ds) (row_of from to rows)

-- the rows are the profile of these groups
abbrev pub IsProfile : List Copies → List ProfileRow → Type 0
IsProfile groups rows = TellOf (delays_of groups) rows
