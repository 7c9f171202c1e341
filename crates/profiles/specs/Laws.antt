-- What is true of every profile.
use Rattle.std.specs.Prelude.{ℕ, List, ◌∷◌, ◌++◌, ◌≡◌, ◌<◌, ◌≤◌, ◌+◌, ◌^◌, All, length, sum_by}
use Rattle.std.specs.List.{AllByRecursion}
use Rattle.std.specs.List.Sorted.{IsPermutation}
use Rattle.ds_base.specs.Copies.{Copies}
use Rattle.ds_base.specs.Order.{InStampOrder}
use Rattle.ds_base.specs.declared.profile_row.ProfileRow.{ProfileRow}
use Rattle.ds_base.specs.declared.summary.Summary.{Summary}
use Rattle.profiles.specs.Delays.{delays, times_between}
use Rattle.profiles.specs.Rows.{IsClass, class_of, count_of}
use Rattle.profiles.specs.Profile.{IsProfile}
use Rattle.profiles.specs.Put.{CanJoin, put_all}

-- the profile of groups is that of the same groups in any other order
abbrev pub InAnyOrder : Type 0
InAnyOrder = (groups others : List Copies) (rows : List ProfileRow) → IsPermutation groups others → IsProfile groups rows → IsProfile others rows

-- groups have one profile
abbrev pub OneProfile : Type 0
OneProfile = (groups : List Copies) (a b : List ProfileRow) → IsProfile groups a → IsProfile groups b → a ≡ b

-- the rows of a profile that are added one by one come to the profile of all groups
abbrev pub RowByRow : Type 0
RowByRow = (groups more : List Copies) (old rows : List ProfileRow) → CanJoin rows old → IsProfile groups old → IsProfile more rows
    → IsProfile (groups ++ more) (put_all rows old)

-- a pair has no more delays than a group has members
abbrev pub FewInGroup : Type 0
FewInGroup = (members : List Summary) (from to : ℕ) → length (times_between from to (delays members)) ≤ length members

-- and no more than the groups of a profile have
abbrev pub FewDelays : Type 0
FewDelays = (groups : List Copies) (rows : List ProfileRow) (from to : ℕ) → IsProfile groups rows → count_of from to rows ≤ sum_by (λ g. length g.members) groups

-- no delay of a group is longer than the group lasts
abbrev pub WithinWindow : Type 0
WithinWindow = (window : ℕ) (first : Summary) (members : List Summary) → InStampOrder (first ∷ members)
    → AllByRecursion (λ member. member.at.time ≤ first.at.time + window) (first ∷ members) → All (λ delay. delay.time ≤ window) (delays (first ∷ members))

-- the class of a time is the least k with the time below 2^k
abbrev pub LeastClass : Type 0
LeastClass = (time : ℕ) → time < 2 ^ 64 → IsClass time (class_of time)
