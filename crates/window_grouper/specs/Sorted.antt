-- A list of summaries in the order of their stamps.
use Rattle.std.specs.Prelude.{Bool, List, [], ◌∷◌, ◌≡◌, ◌⊎◌, ◌&&◌, ◌||◌, nat_eq, nat_lt, if◌then◌else◌}
use Rattle.std.specs.List.Sorted.{IsPermutation}
use Rattle.ds_base.specs.Order.{Precedes, InStampOrder}
use Rattle.ds_base.specs.declared.stamp.Stamp.{Stamp}
use Rattle.ds_base.specs.declared.summary.Summary.{Summary}

-- the stamp differs from each of these: one of the two is before the other
abbrev pub DiffersFromAll : Stamp → List Summary → Type 0
DiffersFromAll at [] = Unit {0}
DiffersFromAll at (s ∷ ss) = (Precedes at s.at ⊎ Precedes s.at at) × DiffersFromAll at ss

-- no two of the summaries have one stamp
abbrev pub StampsDiffer : List Summary → Type 0
StampsDiffer [] = Unit {0}
StampsDiffer (s ∷ ss) = DiffersFromAll s.at ss × StampsDiffer ss

-- whether a is before b: by time, then capture, then number
abbrev pub is_before : Stamp → Stamp → Bool
is_before a b = nat_lt a.time b.time
    || (nat_eq a.time b.time && (nat_lt a.capture b.capture || (nat_eq a.capture b.capture && nat_lt a.number b.number)))

-- s put into a list in stamp order, before the first that it is before
abbrev pub insert_by_stamp : Summary → List Summary → List Summary
insert_by_stamp s [] = s ∷ []
insert_by_stamp s (x ∷ xs) = if is_before s.at x.at then s ∷ x ∷ xs else x ∷ insert_by_stamp s xs

-- the summaries in the order of their stamps
abbrev pub by_stamp : List Summary → List Summary
by_stamp [] = []
by_stamp (s ∷ ss) = insert_by_stamp s (by_stamp ss)

-- sorted is the list in stamp order that has just the summaries of l
pub record IsInStampOrderOf (l sorted : List Summary) : Type 0 where
  pub ordered : InStampOrder sorted
  pub same : IsPermutation l sorted

-- of a list whose stamps differ there is one such list, and `by_stamp` computes it
abbrev pub OneOrder : List Summary → Type 0
OneOrder l = StampsDiffer l
    → IsInStampOrderOf l (by_stamp l) × ((sorted : List Summary) → IsInStampOrderOf l sorted → sorted ≡ by_stamp l)
