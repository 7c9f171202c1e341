-- The groups of a list while its summaries are placed one after another, and groups are given out.
use Rattle.std.specs.Prelude.{ℕ, List, ◌++◌, ◌≡◌}
use Rattle.std.specs.List.{AllByRecursion}
use Rattle.ds_base.specs.Copies.{Copies}
use Rattle.ds_base.specs.declared.summary.Summary.{Summary}
use Rattle.window_grouper.specs.Groups.{groups_of}
use Rattle.window_grouper.specs.Over.{IsOver}

-- what contracts see of open groups: the window, and the groups that are held, in the order of their firsts
pub record Open : Type 0 where
  pub window : ℕ
  pub held : List Copies

-- The summaries `front` were placed by this window, the groups `given` were given out, each of which was over
-- at `time`, and the other groups are held.
pub record HasPlaced (now : Open) (window : ℕ) (front : List Summary) (given : List Copies) (time : ℕ) : Type 0 where
  pub one_window : now.window ≡ window
  pub groups : groups_of window front ≡ given ++ now.held
  pub over : AllByRecursion (IsOver window time) given

-- The same, whether or not the groups given out were over: the groups of `front` by this window are those given
-- and those held.
pub record HasGiven (now : Open) (window : ℕ) (front : List Summary) (given : List Copies) : Type 0 where
  pub one_window : now.window ≡ window
  pub groups : groups_of window front ≡ given ++ now.held
